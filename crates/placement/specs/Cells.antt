-- Placement (document 01): a container as twelve cells, the messages that start and end in them, and what is carried.
use Rattle.std.specs.Prelude.{ℕ, zero, suc, ◌+◌, ◌-◌, ◌%◌, Bool, ◌&&◌, ◌||◌, List, [], ◌∷◌, ◌++◌, length, take, eqb, ltb, leb}
use Rattle.lists.specs.Pick.{pick}
use Rattle.container.specs.Layout.{Format, wide, granule, msg_start, bit}
use Rattle.message.specs.Heads.{msg_size, well_headed}

-- a granule as it is read: a message goes on there, one starts there, its bytes
pub record Cell : Type 0 where
  pub goes_on : Bool
  pub starts : Bool
  pub bytes : List ℕ

-- bytes still to come of the message in progress, of which m was read; 0 where m is empty
abbrev pub owed : List ℕ → ℕ
owed m = msg_size m - length m

-- granule g of container c, with m read of the message in progress: a longer message runs on, passing over G5 and G11 in Y
abbrev pub cell_at : Format → ℕ → List ℕ → List ℕ → Cell
cell_at fm g c m = record { goes_on = ltb 0 (owed m) && wide fm g; starts = bit (msg_start fm c) g; bytes = granule fm g c }

-- the message that is read in a cell, from its first byte on
abbrev pub message : List ℕ → Cell → List ℕ
message m e = pick e.goes_on (m ++ e.bytes) e.bytes

-- all bytes of a message are there
abbrev pub whole : List ℕ → Bool
whole m = leb (msg_size m) (length m)

-- what was read of the message in progress, after the cell of granule g
abbrev pub after : Format → ℕ → Cell → List ℕ → List ℕ
after fm g e m = pick (e.goes_on || (e.starts && wide fm g)) (pick (whole (message m e)) [] (message m e)) m

-- the message whose last granule this is: none or one
abbrev pub ended : Cell → List ℕ → List (List ℕ)
ended e m =
    pick (e.goes_on || e.starts) (pick (whole (message m e)) (take (msg_size (message m e)) (message m e) ∷ []) []) []

-- the cells of granules g, g + 1, .., k of them, with m read before
unfoldable pub cells : Format → List ℕ → ℕ → ℕ → List ℕ → List Cell
cells fm c zero g m = []
cells fm c (suc k) g m = cell_at fm g c m ∷ cells fm c k (g + 1) (after fm g (cell_at fm g c m) m)

-- what was read of the message in progress after the cells of granules g, g + 1, ..
unfoldable pub carry_after : Format → ℕ → List Cell → List ℕ → List ℕ
carry_after fm g [] m = m
carry_after fm g (e ∷ es) m = carry_after fm (g + 1) es (after fm g e m)

-- the messages that end in the cells of granules g, g + 1, .., in order of their last granules
unfoldable pub endings : Format → ℕ → List Cell → List ℕ → List (List ℕ)
endings fm g [] m = []
endings fm g (e ∷ es) m = ended e m ++ endings fm (g + 1) es (after fm g e m)

-- the first granules of the messages that start in cells, in granule order
unfoldable pub startings : List Cell → List (List ℕ)
startings [] = []
startings (e ∷ es) = pick e.starts (e.bytes ∷ []) [] ++ startings es

-- a carry: empty, or the first 20k bytes (k at least 1, never all) of a well-headed longer message
abbrev pub carry_ok : List ℕ → Bool
carry_ok m = eqb (length m) 0 || (eqb (length m % 20) 0 && (ltb (length m) (msg_size m) && well_headed m))
