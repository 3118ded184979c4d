-- Entries within their bounds are the tap record of a history: the one in which each container leaves, passes and arrives at once
-- and every slot is freed as soon as its message has arrived. Assumes nothing but the laws of the link.
use Prim.Native.Nat.{ℕ, zero, suc, ◌+◌, ◌-◌, ◌≤◌, ◌<◌}
use native.Mathlib.Nat.{le_refl}
use native.Mathlib.Decide.{dec_le}
use native.Mathlib.Omega.{arith}
use mathlib.Core.Path.{◌≡◌, refl, sym, ◌∙◌, ap}
use mathlib.Core.Bool.{true}
use borrow.Author.Tests.{eq-eqb}
use Rattle.history.specs.Trace.{Trace, start, ◌▷◌, ◌⊑◌, whole}
use Rattle.history.specs.Link.{Direction, direction0, direction1, opposite, Link, Lawful}
use Rattle.history.specs.History.{Event, leaves, passes, arrives, frees, Entry, append_if, left, passed, arrived, freed, tap_record, state_after, total, ungranted, held_at_sender, buffered, Enabled, History, Tapped}
use Rattle.history.specs.Bounds.{containers_of, Bounded}
use Rattle.history.specs.Delays.{Readable}
use Rattle.history.proofs.Order.{freed_by, append_one_direction, append_own}
use Rattle.history.proofs.Conservation.{state_valid}
use Rattle.history.proofs.Sound.{containers_passed}
use Rattle.history.proofs.OneMore.{WithinWith, within_needs}

pub opposite_differs : (e : Direction) → opposite e ≡ e → ⊥
opposite_differs direction0 q = let z : ◌≡◌ {A = ℕ} 0 1 = cc in omega arith
opposite_differs direction1 q = let z : ◌≡◌ {A = ℕ} 0 1 = cc in omega arith

module _ {E : Type 0} where
  -- h, and then k times the event x
  abbrev pub repeat : ℕ → E → Trace E → Trace E
  repeat zero x h = h
  repeat (suc k) x h = repeat k x h ▷ x

  -- h, and then k p times the event x p, for each p below n
  abbrev pub repeat_each : (ℕ → E) → (ℕ → ℕ) → ℕ → Trace E → Trace E
  repeat_each x k zero h = h
  repeat_each x k (suc n) h = repeat (k n) (x n) (repeat_each x k n h)

  -- what no such event changes is as it was
  pub repeat_keeps : {B : Type 0} (F : Trace E → B) (x : E) → ((h : Trace E) → F (h ▷ x) ≡ F h) → (k : ℕ) (h : Trace E)
      → F (repeat k x h) ≡ F h
  repeat_keeps F x s zero h = refl
  repeat_keeps F x s (suc k) h = s (repeat k x h) ∙ repeat_keeps F x s k h

  pub each_keeps : {B : Type 0} (F : Trace E → B) (x : ℕ → E) → ((q : ℕ) (h : Trace E) → F (h ▷ x q) ≡ F h)
      → (k : ℕ → ℕ) (n : ℕ) (h : Trace E) → F (repeat_each x k n h) ≡ F h
  each_keeps F x s k zero h = refl
  each_keeps F x s k (suc n) h = repeat_keeps F (x n) (s n) (k n) (repeat_each x k n h) ∙ each_keeps F x s k n h

module _ {A : Type 0} where
  -- a freed slot counts in its own pool, and in no other
  freed_own : (e : Direction) (q : ℕ) (h : Trace (Event A)) → freed e q (h ▷ frees e q) ≡ freed e q h + 1
  freed_own direction0 q h = rw (eq-eqb q q refl)
  freed_own direction1 q h = rw (eq-eqb q q refl)

  pub freed_elsewhere : (d e : Direction) (p q : ℕ) → (d ≡ e → p ≡ q → ⊥) → (h : Trace (Event A)) → freed d p (h ▷ frees e q) ≡ freed d p h
  freed_elsewhere d e p q n h = freed_by (λ m. m ≡ freed d p h) (freed d p h) d e p q refl (λ a b. absurd (n a b))

  repeat_freed : (e : Direction) (q k : ℕ) (h : Trace (Event A)) → freed e q (repeat k (frees e q) h) ≡ freed e q h + k
  repeat_freed e q zero h = omega arith
  repeat_freed e q (suc k) h = let i = repeat_freed e q k h in let j = freed_own e q (repeat k (frees e q) h) in omega arith

  pub past_freed : (e : Direction) (k : ℕ → ℕ) (n p : ℕ) (h : Trace (Event A)) → n ≤ p → freed e p (repeat_each (frees e) k n h) ≡ freed e p h
  past_freed e k zero p h z = refl
  past_freed e k (suc n) p h z =
      repeat_keeps (freed e p) (frees e n) (freed_elsewhere e e p n (λ _ q. omega arith)) (k n) (repeat_each (frees e) k n h)
      ∙ past_freed e k n p h (omega arith)

  pub each_freed : (e : Direction) (k : ℕ → ℕ) (n p : ℕ) (h : Trace (Event A)) → p < n
      → freed e p (repeat_each (frees e) k n h) ≡ freed e p h + k p
  each_freed e k zero p h z = omega arith
  each_freed e k (suc n) p h z = go (λ y. each_freed e k n p h y) (dec_le n p)
    where
      go : (p < n → freed e p (repeat_each (frees e) k n h) ≡ freed e p h + k p) → Dec (n ≤ p)
          → freed e p (repeat_each (frees e) k (suc n) h) ≡ freed e p h + k p
      go below (yes a) =
          let pn : p ≡ n = omega arith in
          let i = repeat_freed e n (k n) (repeat_each (frees e) k n h) in
          let j = past_freed e k n n h (le_refl n) in
          rw pn (omega arith)
      go below (no a) =
          repeat_keeps (freed e p) (frees e n) (freed_elsewhere e e p n (λ _ q. omega arith)) (k n) (repeat_each (frees e) k n h)
          ∙ below (omega arith)

module _ (K : Link) where
  open K use {Container, reads, grants, begins, finishes, capacity, pools}

  -- as many slots may be freed as messages have arrived
  repeat_history : (e : Direction) (q k : ℕ) (h : Trace (Event Container)) → History K h → freed e q h + k ≤ total K finishes e (arrived e h) q
      → History K (repeat k (frees e q) h)
  unfolding buffered
  repeat_history e q zero h v z = v
  repeat_history e q (suc k) h v z = (
    repeat_history e q k h v (omega arith),
    (let i = repeat_freed e q k h in
        let j = repeat_keeps (λ h. total K finishes e (arrived e h) q) (frees e q) (λ h. refl) k h in
        omega arith),
  )

  pub each_history : (e : Direction) (k : ℕ → ℕ) (n : ℕ) (h : Trace (Event Container)) → History K h
      → ((p : ℕ) → freed e p h + k p ≤ total K finishes e (arrived e h) p) → History K (repeat_each (frees e) k n h)
  each_history e k zero h v z = v
  each_history e k (suc n) h v z =
      repeat_history e n (k n) (repeat_each (frees e) k n h) (each_history e k n h v z)
      (let i = past_freed e k n n h (le_refl n) in
      let j = each_keeps (λ h. total K finishes e (arrived e h) n) (frees e) (λ q h. refl) k n h in
      let y = z n in
      omega arith)

  -- h, and then a container that leaves, passes and arrives at once
  abbrev pub cross : Direction → Container → Trace (Event Container) → Trace (Event Container)
  cross e c h = h ▷ leaves e c ▷ passes e c ▷ arrives e c

  -- the messages that end in a container behind the entries t, by pool
  abbrev pub ended : Direction → Trace (Entry Container) → Container → ℕ → ℕ
  ended e t c = finishes e (state_after K e (containers_of e t)) c

  -- the history of a tap record in which nothing waits
  abbrev pub at_once : Trace (Entry Container) → Trace (Event Container)
  at_once start = start
  at_once (t ▷ x) = repeat_each (frees x.direction) (ended x.direction t x.container) pools (cross x.direction x.container (at_once t))

  pub at_once_left : (d : Direction) (t : Trace (Entry Container)) → left d (at_once t) ≡ containers_of d t
  at_once_left d start = refl
  at_once_left d (t ▷ x) =
      each_keeps (left d) (frees x.direction) (λ q h. refl) _ pools _ ∙ ap (append_if d x.direction x.container) (at_once_left d t)

  pub at_once_arrived : (d : Direction) (t : Trace (Entry Container)) → arrived d (at_once t) ≡ containers_of d t
  at_once_arrived d start = refl
  at_once_arrived d (t ▷ x) =
      each_keeps (arrived d) (frees x.direction) (λ q h. refl) _ pools _ ∙ ap (append_if d x.direction x.container) (at_once_arrived d t)

  pub at_once_tap : (t : Trace (Entry Container)) → tap_record (at_once t) ≡ t
  at_once_tap start = refl
  at_once_tap (t ▷ x) = each_keeps tap_record (frees x.direction) (λ q h. refl) _ pools _ ∙ ap (λ r. r ▷ x) (at_once_tap t)

  at_once_passed : (d : Direction) (t : Trace (Entry Container)) → passed d (at_once t) ≡ containers_of d t
  at_once_passed d t = sym (containers_passed d (at_once t)) ∙ ap (containers_of d) (at_once_tap t)

  pub ungranted_opposite : (e : Direction) (p : ℕ) (h : Trace (Event Container))
      → ungranted K (opposite e) p h ≡ (capacity (opposite e) p + freed (opposite e) p h) - total K grants e (left e h) p
  unfolding ungranted
  ungranted_opposite direction0 p h = refl
  ungranted_opposite direction1 p h = refl

  cross_order : (e : Direction) (c : Container) (t : Trace (Entry Container))
      → (passed e (at_once t ▷ leaves e c) ▷ c ⊑ left e (at_once t ▷ leaves e c))
      × (arrived e (at_once t ▷ leaves e c ▷ passes e c) ▷ c ⊑ passed e (at_once t ▷ leaves e c ▷ passes e c))
  cross_order e c t = (
    rw (append_own e c (left e (at_once t)), at_once_left e t, at_once_passed e t) (whole refl),
    rw (append_own e c (passed e (at_once t)), at_once_passed e t, at_once_arrived e t) (whole refl),
  )

  pub bounded_read : (t : Trace (Entry Container)) → Bounded K t → (d : Direction) → Readable K d (containers_of d t)
  bounded_read start b d = tt
  bounded_read (t ▷ x) b d =
      append_one_direction (λ d l. Readable K d l) (λ d. containers_of d t) x.direction x.container
      (bounded_read t b.0 x.direction, b.1) (bounded_read t b.0 (opposite x.direction)) d

  module _ (L : Lawful K) where
    ended_freed : (e : Direction) (c : Container) (t : Trace (Entry Container)) (p : ℕ) (h : Trace (Event Container))
        → Bounded K t → reads e (state_after K e (containers_of e t)) c ≡ true
        → freed e p (repeat_each (frees e) (ended e t c) pools h) ≡ freed e p h + ended e t c p
    ended_freed e c t p h b r = go (dec_le pools p)
      where
        go : Dec (pools ≤ p) → freed e p (repeat_each (frees e) (ended e t c) pools h) ≡ freed e p h + ended e t c p
        go (yes a) =
            let i = past_freed e (ended e t c) pools p h a in
            let z = L.no_finish e (state_after K e (containers_of e t)) c p (state_valid K L e (containers_of e t) (bounded_read t b e)) r a in
            omega arith
        go (no a) = each_freed e (ended e t c) pools p h (omega arith)

    at_once_freed : (d : Direction) (p : ℕ) (t : Trace (Entry Container)) → Bounded K t → freed d p (at_once t) ≡ total K finishes d (containers_of d t) p
    at_once_freed d p start b = refl
    at_once_freed d p (t ▷ x) b =
        let e = x.direction in
        let c = x.container in
        append_one_direction
        (λ d l. freed d p (at_once (t ▷ x)) ≡ total K finishes d l p)
        (λ d. containers_of d t)
        e
        c
        (let i = ended_freed e c t p (cross e c (at_once t)) b.0 b.1 in let j = at_once_freed e p t b.0 in omega arith)
        (each_keeps (freed (opposite e) p) (frees e) (λ q. freed_elsewhere (opposite e) e p q (λ a _. opposite_differs e a)) _ pools _
        ∙ at_once_freed (opposite e) p t b.0)
        d

    at_once_enabled : (e : Direction) (c : Container) (t : Trace (Entry Container)) → Bounded K t
        → reads e (state_after K e (containers_of e t)) c ≡ true → ((p : ℕ) → WithinWith K t c e p) → Enabled K (at_once t) (leaves e c)
    unfolding held_at_sender
    at_once_enabled e c t b r n = (
      rw (at_once_left e t) r,
      (λ p. let i = n p in let f = at_once_freed (opposite e) p t b in rw (ungranted_opposite e p, at_once_left e t) (omega arith)),
      (λ p. let i = n p in rw (at_once_left e t, at_once_arrived (opposite e) t) (omega arith)),
    )

    pub at_once_history : (t : Trace (Entry Container)) → Bounded K t → History K (at_once t)
    at_once_history start b = tt
    at_once_history (t ▷ x) b =
        let e = x.direction in
        let c = x.container in
        each_history e (ended e t c) pools (cross e c (at_once t))
        (((at_once_history t b.0, at_once_enabled e c t b.0 b.1 (within_needs K t c e b.2)), (cross_order e c t).0), (cross_order e c t).1)
        (λ p. let f = at_once_freed e p t b.0 in rw (append_own e c (arrived e (at_once t)), at_once_arrived e t) (omega arith))

    pub tap_complete : (t : Trace (Entry Container)) → Bounded K t → Tapped K t
    tap_complete t b = (at_once t, at_once_history t b, at_once_tap t)
