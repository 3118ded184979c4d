-- Formats X and Y are lawful, by tests that are computed. Assumes nothing.
use Prim.Native.Nat.{ℕ, ◌<◌}
use mathlib.Core.Path.{◌≡◌}
use mathlib.Core.Bool.{Bool, true, false}
use mathlib.Core.List.{List}
use lib.ListN.{length}
use lib.Dec.{eqb}
use Rattle.lists.proofs.PartLaws.{length_part}
use Rattle.lists.specs.Pick.{pick}
use Rattle.container.specs.Layout.{Format, size_x, size_y, place_x, place_y, link_x, link_y, format_of, start, granule}
use Rattle.container.specs.Lawful.{Lawful}
use Rattle.container.proofs.FormatTests.{Computed, lawful}

-- X where the test holds, else Y
abbrev named : Bool → Format
named x = record { size = λ g. pick x (size_x g) (size_y g); place = λ i. pick x (place_x i) (place_y i); link = λ i. pick x (link_x i) (link_y i) }

computed : (x : Bool) → Computed (named x)
computed true = record { c_inside = tt; c_apart = tt; c_header_inside = tt; c_header_distinct = tt; c_header_outside = tt; c_least = tt; c_most = tt; c_narrow = tt; c_first = tt; c_owned = tt }
computed false = record { c_inside = tt; c_apart = tt; c_header_inside = tt; c_header_distinct = tt; c_header_outside = tt; c_least = tt; c_most = tt; c_narrow = tt; c_first = tt; c_owned = tt }

-- the format of every number is lawful: 0 is X, and any other number has Y's layout
pub lawful_of : (f : ℕ) → Lawful (format_of f)
lawful_of f = lawful (named (eqb f 0)) (computed (eqb f 0))

-- a granule of a whole container has its format's size
pub granule_length : (f g : ℕ) (c : List ℕ) → g < 12 → length c ≡ 256 → length (granule (format_of f) g c) ≡ (format_of f).size g
granule_length f g c b n = length_part (start g) ((format_of f).size g) c (rw n ((lawful_of f).inside g b))
