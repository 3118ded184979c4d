-- What holds of a choice. Assumes nothing.
use mathlib.Core.Path.{◌≡◌, refl}
use mathlib.Core.Bool.{Bool, true, false}
use Rattle.lists.specs.Pick.{pick}

-- what holds of both holds of the choice; and with the test in hand
pub pick_both : {A : Type 0} (P : A → Type 0) (t : Bool) {a b : A} → P a → P b → P (pick t a b)
pick_both P true p q = p
pick_both P false p q = q

pub pick_by : {A : Type 0} (P : A → Type 0) (t : Bool) {a b : A} → (t ≡ true → P a) → (t ≡ false → P b) → P (pick t a b)
pick_by P true p q = p refl
pick_by P false p q = q refl
