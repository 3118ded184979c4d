-- The order of containers: what traces begin with, one container more, and that a link keeps each direction in order. Assumes nothing.
use Prim.Native.Nat.{ℕ, ◌+◌, ◌≤◌}
use native.Mathlib.Nat.{le_refl}
use native.Mathlib.Omega.{arith}
use mathlib.Core.Path.{◌≡◌, refl}
use mathlib.Core.Bool.{◌&&◌}
use lib.Dec.{eqb}
use borrow.Author.Tests.{le-leb, lt-leb, eqb-true}
use Rattle.lists.specs.Pick.{pick}
use Rattle.lists.proofs.PickLaws.{pick_by}
use Rattle.history.specs.Trace.{Trace, start, ◌▷◌, length_of, ◌⊑◌, whole, shorter}
use Rattle.history.specs.Link.{Direction, direction0, direction1, opposite, same_direction, Link}
use Rattle.history.specs.History.{Event, leaves, passes, arrives, frees, append_if, left, passed, arrived, total, total_behind, Measure, History}

module _ {A : Type 0} where
  pub ⊑_trans : {a b c : Trace A} → a ⊑ b → b ⊑ c → a ⊑ c
  ⊑_trans {a} h (whole e) = rw e at h
  ⊑_trans h (shorter k) = shorter (⊑_trans h k)

  pub ⊑-length : {a b : Trace A} → a ⊑ b → length_of a ≤ length_of b
  ⊑-length (whole e) = rw e (le_refl _)
  ⊑-length (shorter k) = let h = ⊑-length k in omega arith

  -- one direction gets one container more, and the other none
  pub append_one_direction : (P : Direction → Trace A → Type 0) (f : Direction → Trace A) (e : Direction) (c : A)
      → P e (f e ▷ c) → P (opposite e) (f (opposite e)) → (d : Direction) → P d (append_if d e c (f d))
  append_one_direction P f direction0 c new old direction0 = new
  append_one_direction P f direction0 c new old direction1 = old
  append_one_direction P f direction1 c new old direction0 = old
  append_one_direction P f direction1 c new old direction1 = new

  pub append_own : (e : Direction) (c : A) (l : Trace A) → append_if e e c l ≡ l ▷ c
  append_own direction0 c l = refl
  append_own direction1 c l = refl

  pub append_grows : (d e : Direction) (c : A) {a b : Trace A} → a ⊑ b → a ⊑ append_if d e c b
  append_grows direction0 direction0 c h = shorter h
  append_grows direction0 direction1 c h = h
  append_grows direction1 direction0 c h = h
  append_grows direction1 direction1 c h = shorter h

-- what holds of a number n, and of n + 1 where direction and pool are the same, holds of the count of freed slots
pub freed_by : (P : ℕ → Type 0) (n : ℕ) (d e : Direction) (p q : ℕ) → P n → (d ≡ e → p ≡ q → P (n + 1))
    → P (pick (same_direction d e && eqb p q) (n + 1) n)
freed_by P n direction0 direction0 p q stay more = pick_by P (eqb p q) (λ t. more refl (eqb-true p q t)) (λ f. stay)
freed_by P n direction0 direction1 p q stay more = stay
freed_by P n direction1 direction0 p q stay more = stay
freed_by P n direction1 direction1 p q stay more = pick_by P (eqb p q) (λ t. more refl (eqb-true p q t)) (λ f. stay)

module _ (K : Link) where
  open K use {Container}

  -- what has left begins with what has passed, and what has passed begins with what has arrived
  pub in_order : (h : Trace (Event Container)) → History K h → (d : Direction) → (passed d h ⊑ left d h) × (arrived d h ⊑ passed d h)
  in_order start v d = (whole refl, whole refl)
  in_order (h ▷ leaves e c) v d = (append_grows d e c (in_order h v.0 d).0, (in_order h v.0 d).1)
  in_order (h ▷ passes e c) v d = (
    append_one_direction (λ d l. l ⊑ left d h) (λ d. passed d h) e c v.1 (in_order h v.0 (opposite e)).0 d,
    append_grows d e c (in_order h v.0 d).1,
  )
  in_order (h ▷ arrives e c) v d = (
    (in_order h v.0 d).0,
    append_one_direction (λ d l. l ⊑ passed d h) (λ d. arrived d h) e c v.1 (in_order h v.0 (opposite e)).1 d,
  )
  in_order (h ▷ frees e p) v d = in_order h v.0 d

  pub total_grows : (f : Measure K) (d : Direction) (p : ℕ) {a b : Trace Container} → a ⊑ b → total K f d a p ≤ total K f d b p
  total_grows f d p (whole e) = rw e (le_refl _)
  total_grows f d p (shorter k) = let h = total_grows f d p k in omega arith

  nothing_behind : (f : Measure K) (n : ℕ) (d : Direction) (cs : Trace Container) (p : ℕ) → length_of cs ≤ n → total_behind K f n d cs p ≡ 0
  nothing_behind f n d start p h = refl
  nothing_behind f n d (cs ▷ c) p h = rw (lt-leb n (length_of cs))

  -- the total over a trace is that over its beginning and that over what lies behind
  pub total_split : (f : Measure K) (d : Direction) (p : ℕ) {a b : Trace Container} → a ⊑ b
      → total K f d b p ≡ total K f d a p + total_behind K f (length_of a) d b p
  total_split f d p {a} (whole {k} e) = rw e (let z = nothing_behind f (length_of k) d k p (le_refl _) in omega arith)
  total_split f d p {a} (shorter {k} {x} h) = rw (le-leb (length_of a) (length_of k) (⊑-length h)) (let i = total_split f d p h in omega arith)
