-- A loop over the fourteen pools that judges them in order, turn by turn. Assumes nothing.
use Prim.Native.Nat.{ℕ, suc, ◌+◌, ◌-◌, ◌≤◌, ◌<◌}
use mathlib.Core.Path.{◌≡◌, sym, ◌∙◌}
use mathlib.Core.Bool.{Bool, true, false, ◌&&◌, not}
use mathlib.Core.List.{List, ◌∷◌}
use native.Mathlib.Omega.{arith}
use borrow.Author.Tests.{not-true, not-false}
use Rattle.cause.specs.Checks.{Check, check, first_fault, Verdict, Accepted, Refused}
use Rattle.cause.specs.declared.Cause.{Cause}
use Rattle.cause.proofs.EachLaws.{Each}

-- the pools left
left : (p : ℕ) → p < 14 → 14 - p ≡ suc (14 - (p + 1))
left p h = omega arith

none_left : (p : ℕ) → 14 ≤ p → 14 - p ≡ 0
none_left p h = omega arith

-- a test of k pools from p on, by the test of one pool
pub record Tests (tests : ℕ → ℕ → Bool) (test : ℕ → Bool) : Type 0 where
  pub none : (p : ℕ) → tests 0 p ≡ true
  pub more : (k p : ℕ) → tests (suc k) p ≡ (test p && tests k (p + 1))

module _ {tests : ℕ → ℕ → Bool} {test : ℕ → Bool} (s : Tests tests test) (p : ℕ) where
  pub tests_end : 14 ≤ p → true ≡ tests (14 - p) p
  tests_end h = rw (none_left p h) (sym (s.none p))

  module _ (h : p < 14) {all t : Bool} (ea : all ≡ tests (14 - p) p) (et : t ≡ test p) where
    turn : all ≡ (t && tests (14 - (p + 1)) (p + 1))
    turn = ea ∙ rw (left p h, et) (s.more (14 - (p + 1)) p)

    pub tests_stop : not t ≡ true → false ≡ all
    tests_stop n = rw (turn, not-true t n)

    pub tests_go_on : not t ≡ false → all ≡ tests (14 - (p + 1)) (p + 1)
    tests_go_on n = rw (not-false t n) at turn

-- the checks of the pools left
module _ {checks : ℕ → ℕ → List Check} {test : ℕ → Bool} {a : Cause} (s : Each checks test a) (p : ℕ) where
  pub checks_end : 14 ≤ p → Accepted ≡ first_fault (checks (14 - p) p)
  checks_end h = rw (none_left p h, s.none p)

  module _ (h : p < 14) {all : Verdict} {t : Bool} (ea : all ≡ first_fault (checks (14 - p) p)) (et : t ≡ test p) where
    judged : all ≡ first_fault (check t a p ∷ checks (14 - (p + 1)) (p + 1))
    judged = ea ∙ rw (left p h, et, s.more (14 - (p + 1)) p)

    pub checks_stop : not t ≡ true → Refused a p ≡ all
    checks_stop n = rw (judged, not-true t n)

    pub checks_go_on : not t ≡ false → all ≡ first_fault (checks (14 - (p + 1)) (p + 1))
    checks_go_on n = rw (not-false t n) at judged
