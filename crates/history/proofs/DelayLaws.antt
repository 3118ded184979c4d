-- Containers leave, pass and arrive, and slots are freed, as far as is asked, one after the other. Assumes nothing.
use Prim.Native.Nat.{ℕ, zero, suc, ◌+◌, ◌-◌, ◌≤◌}
use native.Mathlib.Omega.{arith}
use native.Mathlib.Decide.{dec_le}
use mathlib.Core.Path.{◌≡◌, refl, sym, ◌∙◌, ap}
use Rattle.lists.specs.Pick.{pick}
use Rattle.history.specs.Trace.{Trace, start, ◌▷◌, ◌⊑◌, whole, shorter}
use Rattle.history.specs.Link.{Direction, direction0, direction1, opposite, same_direction, Link}
use Rattle.history.specs.History.{Event, leaves, passes, arrives, frees, append_if, left, passed, arrived, freed, total, held_at_sender, History}
use Rattle.history.specs.Delays.{Readable}
use Rattle.history.proofs.Order.{⊑_trans}
use Rattle.history.proofs.AtOnce.{repeat, repeat_each, each_keeps, opposite_differs, freed_elsewhere, past_freed, each_freed, each_history, ungranted_opposite}

-- what each direction has, with x for direction e
abbrev pub set : {A : Type 0} → Direction → A → (Direction → A) → Direction → A
set e x f d = pick (same_direction d e) x (f d)

-- what direction e has, and what the directions have
set_own : {A : Type 0} (e : Direction) (x : A) (f : Direction → A) → set e x f e ≡ x
set_own direction0 x f = refl
set_own direction1 x f = refl

set_by : {A : Type 0} (P : Direction → A → Type 0) (e : Direction) (x : A) (f : Direction → A) → P e x → P (opposite e) (f (opposite e))
    → (d : Direction) → P d (set e x f d)
set_by P direction0 x f new old direction0 = new
set_by P direction0 x f new old direction1 = old
set_by P direction1 x f new old direction0 = old
set_by P direction1 x f new old direction1 = new

-- what direction e has already
set_same : {A : Type 0} (e : Direction) (x : A) (f : Direction → A) → f e ≡ x → (d : Direction) → f d ≡ set e x f d
set_same e x f q = set_by (λ d y. f d ≡ y) e x f q refl

-- what both directions have
pub set_both : {A : Type 0} (f g : Direction → A) (d : Direction) → set direction1 (g direction1) (set direction0 (g direction0) f) d ≡ g d
set_both f g direction0 = refl
set_both f g direction1 = refl

-- one container more in direction e
set_append : {A : Type 0} (e : Direction) (x : Trace A) (c : A) (f : Direction → Trace A) (d : Direction) (y : Trace A)
    → y ≡ set e x f d → append_if d e c y ≡ set e (x ▷ c) f d
set_append direction0 x c f direction0 y q = ap (λ z. z ▷ c) q
set_append direction0 x c f direction1 y q = q
set_append direction1 x c f direction0 y q = q
set_append direction1 x c f direction1 y q = ap (λ z. z ▷ c) q

-- every trace begins with the empty one
pub start_first : {A : Type 0} (t : Trace A) → start ⊑ t
start_first start = whole refl
start_first (t ▷ x) = shorter (start_first t)

-- the beginning of a trace, one item shorter
one_shorter : {A : Type 0} {a b : Trace A} {x : A} → a ▷ x ⊑ b → a ⊑ b
one_shorter q = ⊑_trans (shorter (whole refl)) q

-- events behind h
repeat_grows : {E : Type 0} (x : E) (k : ℕ) (h : Trace E) → h ⊑ repeat k x h
repeat_grows x zero h = whole refl
repeat_grows x (suc k) h = shorter (repeat_grows x k h)

each_grows : {E : Type 0} (x : ℕ → E) (k : ℕ → ℕ) (n : ℕ) (h : Trace E) → h ⊑ repeat_each x k n h
each_grows x k zero h = whole refl
each_grows x k (suc n) h = ⊑_trans (each_grows x k n h) (repeat_grows (x n) (k n) (repeat_each x k n h))

module _ (K : Link) (h : Trace (Event K.Container)) where
  open K use {Container, grants, begins, finishes, pools, capacity}

  -- behind h some history has come to l, p, a and f
  pub record Comes (l p a : Direction → Trace Container) (f : Direction → ℕ → ℕ) : Type 0 where
    pub now : Trace (Event Container)
    pub behind : h ⊑ now
    pub is_history : History K now
    pub is_left : (d : Direction) → left d now ≡ l d
    pub is_passed : (d : Direction) → passed d now ≡ p d
    pub is_arrived : (d : Direction) → arrived d now ≡ a d
    pub is_freed : (d : Direction) (q : ℕ) → freed d q now ≡ f d q

  module _ (l p a : Direction → Trace Container) (f : Direction → ℕ → ℕ) (e : Direction) (s : Comes l p a f) where
    -- containers leave while nothing passes, arrives or is freed
    pub leave_all : (x : Trace Container) → l e ⊑ x → Readable K e x → ((q : ℕ) → total K grants e x q ≤ capacity (opposite e) q + f (opposite e) q)
        → ((q : ℕ) → total K begins e x q ≤ total K grants (opposite e) (a (opposite e)) q) → Comes (set e x l) p a f
    unfolding held_at_sender
    leave_all x (whole q) r slots credits = record {
      now = s.now;
      behind = s.behind;
      is_history = s.is_history;
      is_left = λ d. s.is_left d ∙ set_same e x l q d;
      is_passed = s.is_passed;
      is_arrived = s.is_arrived;
      is_freed = s.is_freed;
    }
    leave_all _ (shorter {k = x} {x = c} q) r slots credits =
        let i = leave_all x q r.0 (λ q. let y = slots q in omega arith) (λ q. let y = credits q in omega arith) in
        let own : left e i.now ≡ x = i.is_left e ∙ set_own e x l in
        record {
          now = i.now ▷ leaves e c;
          behind = shorter i.behind;
          is_history = (
            i.is_history,
            (
              rw own r.1,
              (λ q. let y = slots q in rw (ungranted_opposite K e q, own, i.is_freed (opposite e) q) (omega arith)),
              (λ q. let y = credits q in rw (own, i.is_arrived (opposite e)) (omega arith)),
            ),
          );
          is_left = λ d. set_append e x c l d (left d i.now) (i.is_left d);
          is_passed = i.is_passed;
          is_arrived = i.is_arrived;
          is_freed = i.is_freed;
        }

    -- containers pass
    pub pass_all : (x : Trace Container) → p e ⊑ x → x ⊑ l e → Comes l (set e x p) a f
    pass_all x (whole q) b = record {
      now = s.now;
      behind = s.behind;
      is_history = s.is_history;
      is_left = s.is_left;
      is_passed = λ d. s.is_passed d ∙ set_same e x p q d;
      is_arrived = s.is_arrived;
      is_freed = s.is_freed;
    }
    pass_all _ (shorter {k = x} {x = c} q) b =
        let i = pass_all x q (one_shorter b) in
        let own : passed e i.now ≡ x = i.is_passed e ∙ set_own e x p in
        record {
          now = i.now ▷ passes e c;
          behind = shorter i.behind;
          is_history = (i.is_history, rw (own, i.is_left e) b);
          is_left = i.is_left;
          is_passed = λ d. set_append e x c p d (passed d i.now) (i.is_passed d);
          is_arrived = i.is_arrived;
          is_freed = i.is_freed;
        }

    -- containers arrive
    pub arrive_all : (x : Trace Container) → a e ⊑ x → x ⊑ p e → Comes l p (set e x a) f
    arrive_all x (whole q) b = record {
      now = s.now;
      behind = s.behind;
      is_history = s.is_history;
      is_left = s.is_left;
      is_passed = s.is_passed;
      is_arrived = λ d. s.is_arrived d ∙ set_same e x a q d;
      is_freed = s.is_freed;
    }
    arrive_all _ (shorter {k = x} {x = c} q) b =
        let i = arrive_all x q (one_shorter b) in
        let own : arrived e i.now ≡ x = i.is_arrived e ∙ set_own e x a in
        record {
          now = i.now ▷ arrives e c;
          behind = shorter i.behind;
          is_history = (i.is_history, rw (own, i.is_passed e) b);
          is_left = i.is_left;
          is_passed = i.is_passed;
          is_arrived = λ d. set_append e x c a d (arrived d i.now) (i.is_arrived d);
          is_freed = i.is_freed;
        }

    -- slots are freed
    pub free_all : (x : ℕ → ℕ) → ((q : ℕ) → f e q ≤ x q) → ((q : ℕ) → x q ≤ total K finishes e (a e) q) → ((q : ℕ) → pools ≤ q → x q ≡ f e q)
        → Comes l p a (set e x f)
    free_all x more most of_pools = record {
      now = k;
      behind = ⊑_trans s.behind (each_grows (frees e) (λ q. x q - f e q) pools s.now);
      is_history =
          each_history K e (λ q. x q - f e q) pools s.now s.is_history
          (λ q. let y = more q in let z = most q in rw (s.is_freed e q, s.is_arrived e) (omega arith));
      is_left = λ d. each_keeps (left d) (frees e) (λ q h. refl) _ pools s.now ∙ s.is_left d;
      is_passed = λ d. each_keeps (passed d) (frees e) (λ q h. refl) _ pools s.now ∙ s.is_passed d;
      is_arrived = λ d. each_keeps (arrived d) (frees e) (λ q h. refl) _ pools s.now ∙ s.is_arrived d;
      is_freed = set_by (λ d y. (q : ℕ) → freed d q k ≡ y q) e x f (λ q. own q (dec_le pools q)) other;
    }
      where
        k : Trace (Event Container)
        k = repeat_each (frees e) (λ q. x q - f e q) pools s.now

        own : (q : ℕ) → Dec (pools ≤ q) → freed e q k ≡ x q
        own q (yes b) = past_freed e (λ q. x q - f e q) pools q s.now b ∙ s.is_freed e q ∙ sym (of_pools q b)
        own q (no b) =
            let y = each_freed e (λ q. x q - f e q) pools q s.now (omega arith) in
            let z = s.is_freed e q in
            let m = more q in
            omega arith

        other : (q : ℕ) → freed (opposite e) q k ≡ f (opposite e) q
        other q =
            each_keeps (freed (opposite e) q) (frees e) (λ r. freed_elsewhere (opposite e) e q r (λ d _. opposite_differs e d)) _ pools s.now
            ∙ s.is_freed (opposite e) q
