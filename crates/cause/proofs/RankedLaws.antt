-- Checks with their turns.
use Prim.Native.Nat.{ℕ}
use mathlib.Core.Path.{◌≡◌, refl, ap}
use mathlib.Core.Bool.{Bool, false}
use mathlib.Core.List.{List, [], ◌∷◌, ◌++◌}
use mathlib.Core.Logic.{◌↔◌}
use Rattle.cause.specs.Checks.{Check, check}
use Rattle.cause.specs.declared.Cause.{Cause}
use Rattle.cause.proofs.NamedLaws.{turn_of}
use Rattle.cause.proofs.FirstLaws.{Site, tests}

-- checks with their turns
abbrev pub ranked : List Check → List Site
ranked [] = []
ranked (x ∷ l) = record { turn = turn_of x.cause x.place; test = x } ∷ ranked l

pub tests_ranked : (l : List Check) → tests (ranked l) ≡ l
tests_ranked [] = refl
tests_ranked (x ∷ l) = ap (λ (a : List Check). x ∷ a) (tests_ranked l)

pub ranked_append : (a b : List Check) → ranked (a ++ b) ≡ ranked a ++ ranked b
ranked_append [] b = refl
ranked_append (x ∷ a) b = ap (λ (l : List Site). record { turn = turn_of x.cause x.place; test = x } ∷ l) (ranked_append a b)

-- a check that fails
pub fails_as : (b : Bool) (k : Cause) (p : ℕ) → b ≡ false → check b k p ≡ check false k p
fails_as b k p e = ap (λ (t : Bool). check t k p) e

-- a family of faults by cause and place, with its ranks
abbrev pub Ranked : (Cause → ℕ → Type 0) → ℕ → Cause → ℕ → Type 0
Ranked F r k p = (turn_of k p ≡ r) × F k p

-- a chain of equivalences
pub chain : {A B C : Type 0} → A ↔ B → B ↔ C → A ↔ C
chain f g = (λ a. g.0 (f.0 a), λ c. f.1 (g.1 c))
