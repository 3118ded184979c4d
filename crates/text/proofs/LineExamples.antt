-- Lines, computed. Assumes nothing.
use mathlib.Core.Path.{◌≡◌, refl}
use Rattle.cause.specs.declared.Cause.TheVariants.{GrantedOverCapacity, BrokenRecord}
use Rattle.text.specs.Ascii.{bytes_of}
use Rattle.text.specs.Lines.{decimal_by, decimal, verdict_line, refusal_line}
use Rattle.cause.specs.Checks.{Accepted, Refused}

pub examples :
    (verdict_line 0 Accepted ≡ bytes_of "accepted 0\n")
    × (verdict_line 16777215 Accepted ≡ bytes_of "accepted 16777215\n")
    × (verdict_line 3 (Refused GrantedOverCapacity 11) ≡ bytes_of "refused 3 16 11\n")
    × (refusal_line BrokenRecord 300 ≡ bytes_of "refused 17 300\n")
    × (decimal 18446744073709551615 ≡ bytes_of "18446744073709551615")
unfolding decimal_by
examples = (refl, refl, refl, refl, refl)
