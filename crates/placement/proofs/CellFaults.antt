-- The faults of the checks of a container as they stand, over cells and by cause.
use Prim.Native.Nat.{ℕ, ◌+◌, ◌*◌, ◌≤◌, ◌<◌}
use mathlib.Core.Path.{◌≡◌}
use mathlib.Core.Bool.{true, false}
use mathlib.Core.List.{List}
use mathlib.Core.Logic.{◌⊎◌}
use lib.ListN.{get_or}
use lib.Dec.{T}
use Rattle.cause.specs.declared.Cause.{Cause}
use Rattle.cause.specs.declared.Cause.TheVariants.{ReservedBitSet, HeaderGrantForm, StartInsideMessage, UnknownMessage, PlaceNotAllowed, HeadWrong, UnusedByteNotZero, GapInGroup, SecondMisc, TooManyResponses, GrantBesideActivation}
use Rattle.container.specs.Layout.{Format, header}
use Rattle.container.specs.Grants.{header_grant}
use Rattle.message.specs.Heads.{type_of, op_of, msg_size, well_headed, misc_u, activation}
use Rattle.message.specs.Places.{placed, responses}
use Rattle.placement.specs.Cells.{Cell}
use Rattle.placement.specs.Checking.{used, starting}
use Rattle.placement.proofs.Keeps.{cell_of}

-- what is seen of a cell: a message goes on there or starts there; a MiscU, an Activation starts there
abbrev pub Filled : Cell → Type 0
Filled e = T e.goes_on ⊎ T e.starts

abbrev pub StartsMisc : Cell → Type 0
StartsMisc e = T e.starts × (type_of e.bytes ≡ misc_u)

abbrev pub StartsActivation : Cell → Type 0
StartsActivation e = T e.starts × (type_of e.bytes ≡ misc_u) × (op_of e.bytes ≡ activation)

-- the responses that start there
abbrev pub started : Cell → ℕ
started e = starting responses e

-- 3 to 13
pub data CellFault (fm : Format) (m c : List ℕ) : Cause → ℕ → Type 0 where
  reserved : (16 ≤ header fm c 1) ⊎ (16 ≤ header fm c 2) ⊎ (0 < header fm c 7) ⊎ (0 < header fm c 8) ⊎ (0 < header fm c 9)
      → CellFault fm m c ReservedBitSet 0
  form : (header_grant fm c).shc ≡ true → 0 < (header_grant fm c).rp → CellFault fm m c HeaderGrantForm 0
  inside : (g : ℕ) → g < 12 → T (cell_of fm c m g).goes_on → T (cell_of fm c m g).starts → CellFault fm m c StartInsideMessage g
  unknown : (g : ℕ) → g < 12 → T (cell_of fm c m g).starts → msg_size (cell_of fm c m g).bytes ≡ 0 → CellFault fm m c UnknownMessage g
  place : (g : ℕ) → g < 12 → T (cell_of fm c m g).starts → placed fm g (cell_of fm c m g).bytes ≡ false → CellFault fm m c PlaceNotAllowed g
  head : (g : ℕ) → g < 12 → T (cell_of fm c m g).starts → well_headed (cell_of fm c m g).bytes ≡ false → CellFault fm m c HeadWrong g
  unused : (g i : ℕ) → g < 12 → used (cell_of fm c m g) ≤ i → 0 < get_or (cell_of fm c m g).bytes i 0 → CellFault fm m c UnusedByteNotZero g
  gap : (q i j : ℕ) → q < 4 → i < j → j < 3 → (Filled (cell_of fm c m (3 * q + i)) → ⊥) → Filled (cell_of fm c m (3 * q + j)) → CellFault fm m c GapInGroup q
  second : (q i j : ℕ) → q < 4 → i < j → j < 3 → StartsMisc (cell_of fm c m (3 * q + i)) → StartsMisc (cell_of fm c m (3 * q + j))
      → CellFault fm m c SecondMisc q
  many : (q : ℕ) → q < 4 → 4 < started (cell_of fm c m (3 * q)) + (started (cell_of fm c m (3 * q + 1)) + started (cell_of fm c m (3 * q + 2)))
      → CellFault fm m c TooManyResponses q
  beside : (g : ℕ) → g < 12 → StartsActivation (cell_of fm c m g)
      → (0 < (header_grant fm c).req) ⊎ (0 < (header_grant fm c).rsp) ⊎ (0 < (header_grant fm c).snp) ⊎ (0 < (header_grant fm c).dat)
      → CellFault fm m c GrantBesideActivation 0
