-- Delays are arbitrary: each direction comes as far as it may behind any moment. Assumes nothing.
use Prim.Native.Nat.{ℕ}
use native.Mathlib.Omega.{arith}
use mathlib.Core.Path.{◌≡◌, refl, ◌∙◌, ap}
use Rattle.history.specs.Trace.{Trace, start, ◌⊑◌, whole}
use Rattle.history.specs.Link.{Direction, direction0, direction1, Link}
use Rattle.history.specs.History.{Event, left, passed, arrived, freed, History}
use Rattle.history.specs.Delays.{UnderWay, Plain, Ahead, Delays}
use Rattle.history.proofs.DelayLaws.{set, set_both, start_first, Comes, leave_all, pass_all, arrive_all, free_all}

module _ (K : Link) (h : Trace (Event K.Container)) where
  open K use {Container}

  -- each direction comes as far as it may behind h
  module _ (v : History K h) (l p a : Direction → Trace Container) (f : Direction → ℕ → ℕ) (x : (d : Direction) → Ahead K h d (l d) (p d) (a d) (f d)) where
    abbrev both : {A : Type 0} → (Direction → A) → (Direction → A) → Direction → A
    both new old = set direction1 (new direction1) (set direction0 (new direction0) old)

    at_first : Comes K h (λ d. left d h) (λ d. passed d h) (λ d. arrived d h) (λ d q. freed d q h)
    at_first = record { now = h; behind = whole refl; is_history = v; is_left = λ d. refl; is_passed = λ d. refl; is_arrived = λ d. refl; is_freed = λ d q. refl }

    leave_both : Comes K h (both l (λ d. left d h)) (λ d. passed d h) (λ d. arrived d h) (λ d q. freed d q h)
    leave_both =
        leave_all K h _ _ _ _ direction1
        (leave_all K h _ _ _ _ direction0 at_first (l direction0) (x direction0).left_before (x direction0).readable (x direction0).slots (x direction0).credits)
        (l direction1) (x direction1).left_before (x direction1).readable (x direction1).slots (x direction1).credits

    pass_both : Comes K h (both l (λ d. left d h)) (both p (λ d. passed d h)) (λ d. arrived d h) (λ d q. freed d q h)
    pass_both =
        pass_all K h _ _ _ _ direction1
        (pass_all K h _ _ _ _ direction0 leave_both (p direction0) (x direction0).passed_before (x direction0).passes_left)
        (p direction1) (x direction1).passed_before (x direction1).passes_left

    arrive_both : Comes K h (both l (λ d. left d h)) (both p (λ d. passed d h)) (both a (λ d. arrived d h)) (λ d q. freed d q h)
    arrive_both =
        arrive_all K h _ _ _ _ direction1
        (arrive_all K h _ _ _ _ direction0 pass_both (a direction0) (x direction0).arrived_before (x direction0).arrives_passed)
        (a direction1) (x direction1).arrived_before (x direction1).arrives_passed

    free_both : Comes K h (both l (λ d. left d h)) (both p (λ d. passed d h)) (both a (λ d. arrived d h)) (both f (λ d q. freed d q h))
    free_both =
        free_all K h _ _ _ _ direction1
        (free_all K h _ _ _ _ direction0 arrive_both (f direction0) (x direction0).freed_before (x direction0).messages (x direction0).of_pools)
        (f direction1) (x direction1).freed_before (x direction1).messages (x direction1).of_pools

    comes : (k : Trace (Event Container)) × (h ⊑ k) × History K k × ((d : Direction) → UnderWay d (l d) (p d) (a d) k)
        × ((d : Direction) (q : ℕ) → freed d q k ≡ f d q)
    comes = (
      free_both.now,
      free_both.behind,
      free_both.is_history,
      (λ d. (
        free_both.is_left d ∙ set_both (λ d. left d h) l d,
        free_both.is_passed d ∙ set_both (λ d. passed d h) p d,
        free_both.is_arrived d ∙ set_both (λ d. arrived d h) a d,
      )),
      (λ d q. free_both.is_freed d q ∙ ap (λ y. y q) (set_both (λ d q. freed d q h) f d)),
    )

-- plain containers need no slots and no credits
plain_ahead : (K : Link) (d : Direction) (l p a : Trace K.Container) → a ⊑ p → p ⊑ l → Plain K d l → Ahead K start d l p a (λ q. 0)
plain_ahead K d l p a b c n = record {
  left_before = start_first l;
  passed_before = start_first p;
  arrived_before = start_first a;
  freed_before = λ q. omega arith;
  passes_left = c;
  arrives_passed = b;
  readable = n.0;
  slots = λ q. let y = n.1 q in omega arith;
  credits = λ q. let y = n.2 q in omega arith;
  messages = λ q. omega arith;
  of_pools = λ q _. refl;
}

-- delays are arbitrary
pub delays : (K : Link) → Delays K
delays K = record {
  any_delay = λ l p a n. let k = comes K start tt l p a (λ d q. 0) (λ d. plain_ahead K d (l d) (p d) (a d) (n d).0 (n d).1 (n d).2) in (k.0, k.2, k.3);
  from_any_moment = comes K;
}
