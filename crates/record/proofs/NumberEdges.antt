-- The edges of what is a number, by computation. Assumes nothing.
use mathlib.Core.Path.{◌≡◌, refl}
use mathlib.Core.List.{[], ◌∷◌}
use Rattle.record.specs.Number.{read_number, Broken, Value}

-- the largest number, one over it, a sixth group, and a number that the list cuts short
pub largest_read : read_number (0xFF ∷ 0xFF ∷ 0xFF ∷ 0xFF ∷ 0x0F ∷ []) ≡ Value 4_294_967_295 5
unfolding read_number
largest_read = refl

pub one_over : read_number (0x80 ∷ 0x80 ∷ 0x80 ∷ 0x80 ∷ 0x10 ∷ []) ≡ Broken
unfolding read_number
one_over = refl

pub sixth_group : read_number (0x80 ∷ 0x80 ∷ 0x80 ∷ 0x80 ∷ 0x80 ∷ 0x01 ∷ []) ≡ Broken
unfolding read_number
sixth_group = refl

pub cut_short : read_number (0xAC ∷ []) ≡ Broken
unfolding read_number
cut_short = refl
