-- What was read of a message in progress is whole granules, from a valid carry on. Assumes nothing.
use Prim.Native.Nat.{ℕ, ◌%◌, ◌≤◌, ◌<◌}
use mathlib.Core.Path.{◌≡◌, refl}
use mathlib.Core.Bool.{true, false, ◌&&◌}
use mathlib.Core.List.{List, []}
use mathlib.Core.Logic.{⊎_elim}
use native.Mathlib.Omega.{arith}
use lib.ListN.{length}
use lib.Dec.{eqb, ltb}
use borrow.Author.Tests.{ltb-true, leb-false, eqb-true, eqb-false}
use Rattle.lists.specs.Pick.{pick}
use Rattle.lists.proofs.Tests.{cases, and_left, and_right}
use Rattle.lists.proofs.PartLaws.{length_zero}
use Rattle.message.specs.Heads.{msg_size, well_headed}
use Rattle.placement.specs.Cells.{owed, whole, carry_ok}

-- what was read of a message in progress: nothing where nothing is owed, and whole granules
pub record Firm (p : List ℕ) : Type 0 where
  pub idle : owed p ≡ 0 → p ≡ []
  pub granular : length p % 20 ≡ 0
  pub begun : 0 < owed p → 20 ≤ length p

pub firm_none : Firm []
firm_none = record { idle = λ _. refl; granular = refl; begun = λ h. absurd (omega arith) }

-- a valid carry is firm
pub carry_firm : (m : List ℕ) → carry_ok m ≡ true → Firm m
carry_firm m e = ⊎_elim none some (cases (eqb (length m) 0))
  where
    least : (k : ℕ) → (k ≡ 0 → ⊥) → k % 20 ≡ 0 → 20 ≤ k
    least k d r = omega arith

    none : eqb (length m) 0 ≡ true → Firm m
    none z = rw (length_zero m (eqb-true (length m) 0 z)) firm_none

    some : eqb (length m) 0 ≡ false → Firm m
    some z =
        let k : (eqb (length m % 20) 0 && (ltb (length m) (msg_size m) && well_headed m)) ≡ true = rw z at e in
        let r : length m % 20 ≡ 0 = eqb-true (length m % 20) 0 (and_left (eqb (length m % 20) 0) (ltb (length m) (msg_size m) && well_headed m) k) in
        let s : length m < msg_size m = ltb-true (length m) (msg_size m) (and_left (ltb (length m) (msg_size m)) (well_headed m) (and_right (eqb (length m % 20) 0) (ltb (length m) (msg_size m) && well_headed m) k)) in
        let d = eqb-false (length m) 0 z in
        record { idle = λ (q : owed m ≡ 0). absurd (omega arith); granular = r; begun = λ _. least (length m) d r }

pub firm_left : (x : List ℕ) → length x % 20 ≡ 0 → 20 ≤ length x → Firm (pick (whole x) [] x)
firm_left x r l =
    ⊎_elim (λ (t : whole x ≡ true). rw t firm_none)
    (λ (t : whole x ≡ false). rw t (let k = leb-false (msg_size x) (length x) t in record { idle = λ (q : owed x ≡ 0). absurd (omega arith); granular = r; begun = λ _. l }))
    (cases (whole x))
