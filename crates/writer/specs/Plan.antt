-- The writer's one way (document 01, and K8 of document 02): each granule from G0 upwards takes what is owed, or the next record if it may
-- start there, or stays empty.
use Rattle.std.specs.Prelude.{ℕ, zero, suc, ◌+◌, ◌%◌, Bool, true, false, ◌&&◌, ◌||◌, not, List, [], ◌∷◌, ◌++◌, length, take, drop, replicate, eqb}
use Rattle.lists.specs.Pick.{pick}
use Rattle.lists.specs.Parts.{pad}
use Rattle.container.specs.Layout.{Format, wide}
use Rattle.container.specs.Grants.{no_counts}
use Rattle.container.specs.declared.grant.Grant.{Grant}
use Rattle.message.specs.Heads.{is_misc, activation}
use Rattle.message.specs.Places.{placed}
use Rattle.record.specs.Records.{first_of, message_of}
use Rattle.record.specs.declared.list.First.{First}
use Rattle.record.specs.declared.list.First.TheVariants.{Empty, Bad, Whole}
use Rattle.placement.specs.Cells.{Cell}
use Rattle.placement.specs.Checking.{no_gap, one_misc, four_responses}

-- a cell of n bytes that stays empty, that a message starts in, that a message goes on in
abbrev pub empty_cell : ℕ → Cell
empty_cell n = record { goes_on = false; starts = false; bytes = replicate n 0 }

abbrev pub start_cell : ℕ → List ℕ → Cell
start_cell n m = record { goes_on = false; starts = true; bytes = pad n (take n m) }

abbrev pub on_cell : ℕ → List ℕ → Cell
on_cell n m = record { goes_on = true; starts = false; bytes = take n m }

-- the group rules, of the cells of a group so far
abbrev pub group_ok : List Cell → Bool
group_ok es = no_gap es && (one_misc es && four_responses es)

-- a message may start at granule g behind the cells of its group so far: its place is allowed, an Activation stands beside no
-- header count, and the group keeps its rules with it
abbrev pub legal : Format → Grant → ℕ → List Cell → List ℕ → Bool
legal fm n g es m =
    (placed fm g m && (not (is_misc m activation) || no_counts n)) && group_ok (es ++ (start_cell (fm.size g) m ∷ []))

-- "an Activation is never taken early" (document 02, K8)
abbrev pub never_early : List ℕ → Bool
never_early m = is_misc m activation

-- a message may lie beneath what is owed: it may be taken early, and all placement rules still bind
abbrev pub beneath : Format → Grant → ℕ → List Cell → List ℕ → Bool
beneath fm n g es m = not (never_early m) && legal fm n g es m

-- the writer inside a container: the bytes owed, the bytes of the list used, and the cells of the present group so far
pub record Cursor : Type 0 where
  pub owes : List ℕ
  pub at : ℕ
  pub group : List Cell

-- what a granule is given: the cell, what is owed then, and the bytes of the list used then
pub record Given : Type 0 where
  pub cell : Cell
  pub owes : List ℕ
  pub at : ℕ

-- the granule stays empty
abbrev pub nothing : Format → ℕ → Cursor → Given
nothing fm g w = record { cell = empty_cell (fm.size g); owes = w.owes; at = w.at }

-- the next record starts where its message may; rest gives what is owed then
abbrev pub start_next : Format → List ℕ → ℕ → Cursor → (List ℕ → Bool) → (List ℕ → List ℕ) → First → Given
start_next fm l g w may rest Empty = nothing fm g w
start_next fm l g w may rest Bad = nothing fm g w
start_next fm l g w may rest (Whole start end) =
    pick (may (message_of (drop w.at l) start end))
    (record {
      cell = start_cell (fm.size g) (message_of (drop w.at l) start end);
      owes = rest (message_of (drop w.at l) start end);
      at = w.at + end;
    })
    (nothing fm g w)

-- granule g, with l the whole list: where nothing is owed, the next record; else what is owed goes on, passing over a granule of fewer
-- than 20 bytes, in which the next record is put where it may lie beneath
abbrev pub give : Format → Grant → List ℕ → ℕ → Cursor → Given
give fm n l g w =
    pick (eqb (length w.owes) 0)
    (start_next fm l g w (legal fm n g w.group) (λ m. drop (fm.size g) m) (first_of (drop w.at l)))
    (pick (wide fm g)
    (record { cell = on_cell (fm.size g) w.owes; owes = drop (fm.size g) w.owes; at = w.at })
    (start_next fm l g w (beneath fm n g w.group) (λ m. w.owes) (first_of (drop w.at l))))

-- a group is three granules
abbrev pub group_after : ℕ → List Cell → Cell → List Cell
group_after g es e = pick (eqb (g % 3) 2) [] (es ++ (e ∷ []))

abbrev pub cursor_after : ℕ → Cursor → Given → Cursor
cursor_after g w v = record { owes = v.owes; at = v.at; group = group_after g w.group v.cell }

-- the cells of granules g, g + 1, .., k of them
unfoldable pub plan : Format → Grant → List ℕ → ℕ → ℕ → Cursor → List Cell
plan fm n l zero g w = []
plan fm n l (suc k) g w = (give fm n l g w).cell ∷ plan fm n l k (g + 1) (cursor_after g w (give fm n l g w))

-- the writer behind them
unfoldable pub cursor_last : Format → Grant → List ℕ → ℕ → ℕ → Cursor → Cursor
cursor_last fm n l zero g w = w
cursor_last fm n l (suc k) g w = cursor_last fm n l k (g + 1) (cursor_after g w (give fm n l g w))

-- the writer at the start of a container: the tail comes first, from G0
abbrev pub cursor_of : List ℕ → Cursor
cursor_of t = record { owes = t; at = 0; group = [] }
