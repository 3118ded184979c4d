-- The writer's one way (document 01, and K8 of document 02), record by record: what is owed first, from G0; then each record at the lowest
-- legal granule above the last granule that the message before it occupies, or beneath that message.
use Rattle.std.specs.Prelude.{ℕ, zero, suc, ◌+◌, ◌-◌, ◌*◌, ◌/◌, ◌≤◌, ◌<◌, ◌≡◌, Bool, true, false, List, [], ◌∷◌, ◌++◌, ◌⊎◌, length, get_or, take, drop}
use Rattle.cause.specs.Checks.{Pass}
use Rattle.container.specs.Layout.{Format, wide}
use Rattle.container.specs.Grants.{no_counts}
use Rattle.container.specs.declared.grant.Grant.{Grant}
use Rattle.message.specs.Heads.{type_of, is_misc, resp, misc_u, activation}
use Rattle.message.specs.Places.{placed}
use Rattle.record.specs.Records.{first_of, message_of}
use Rattle.record.specs.declared.list.First.TheVariants.{Whole}
use Rattle.placement.specs.Cells.{Cell}
use Rattle.placement.specs.Checking.{group_checks}
use Rattle.writer.specs.Plan.{empty_cell, start_cell, on_cell, legal, beneath}

-- cell j of the cells of a container
abbrev pub cell_of : List Cell → ℕ → Cell
cell_of es j = get_or es j (empty_cell 0)

-- the cells below granule j of its group
abbrev pub group_at : List Cell → ℕ → List Cell
group_at es j = drop (3 * (j / 3)) (take j es)

-- granule j is legal for a message behind the cells below it
abbrev pub may_start : Format → Grant → List Cell → ℕ → List ℕ → Bool
may_start fm n es j m = legal fm n j (group_at es j) m

-- a message may lie in granule j beneath what is owed there
abbrev pub may_lie : Format → Grant → List Cell → ℕ → List ℕ → Bool
may_lie fm n es j m = beneath fm n j (group_at es j) m

-- k empty cells, of granules g, g + 1, ..
abbrev pub empties_from : Format → ℕ → ℕ → List Cell
empties_from fm zero g = []
empties_from fm (suc k) g = empty_cell (fm.size g) ∷ empties_from fm k (g + 1)

-- the container so far: the cells below granule j, the others empty
abbrev pub so_far : Format → List Cell → ℕ → List Cell
so_far fm es j = take j es ++ empties_from fm (12 - j) j

-- the container so far, with a message that starts at granule j
abbrev pub with_start : Format → List Cell → ℕ → List ℕ → List Cell
with_start fm es j m = take j es ++ (start_cell (fm.size j) m ∷ empties_from fm (11 - j) (j + 1))

-- the container so far, with a message that starts at granule j, keeps every placement rule
pub record KeepsWith (fm : Format) (n : Grant) (es : List Cell) (j : ℕ) (m : List ℕ) : Type 0 where
  -- the message may start at this granule
  pub place : placed fm j m ≡ true
  -- every group of the container keeps its rules
  pub groups : Pass (group_checks 4 0 (with_start fm es j m))
  -- an Activation stands beside no header count
  pub quiet : is_misc m activation ≡ true → no_counts n ≡ true

-- "a Resp or a MiscU that may lie there. All placement rules still bind, and an Activation is never taken early."
pub record KeepsBeneath (fm : Format) (n : Grant) (es : List Cell) (j : ℕ) (m : List ℕ) : Type 0 where
  pub short : (type_of m ≡ resp) ⊎ (type_of m ≡ misc_u)
  pub not_early : is_misc m activation ≡ false
  pub keeps : KeepsWith fm n es j m

-- no granule from g on and below h is legal for a message
abbrev pub NoneLegal : Format → Grant → List Cell → ℕ → ℕ → List ℕ → Type 0
NoneLegal fm n es g h m = (j : ℕ) → g ≤ j → j < h → may_start fm n es j m ≡ false

-- the granules from g on and below h stay empty
abbrev pub Empties : Format → List Cell → ℕ → ℕ → Type 0
Empties fm es g h = (j : ℕ) → g ≤ j → j < h → cell_of es j ≡ empty_cell (fm.size j)

-- the cells es from granule g on, with t owed and at bytes of the list l used below it, where used bytes are used and owes is owed
-- behind the last granule
pub data Way (fm : Format) (n : Grant) (l : List ℕ) (es : List Cell) (used : ℕ) (owes : List ℕ) : ℕ → List ℕ → ℕ → Type 0 where
  -- what is owed goes on in a granule of 20 bytes
  goes_on : {g at : ℕ} {t : List ℕ} → g < 12 → 0 < length t → wide fm g ≡ true → cell_of es g ≡ on_cell (fm.size g) t
      → Way fm n l es used owes (g + 1) (drop (fm.size g) t) at → Way fm n l es used owes g t at
  -- it passes over a smaller one, in which the next record is put if it may lie there
  puts_beneath : {g at : ℕ} {t : List ℕ} (start end : ℕ) → g < 12 → 0 < length t → wide fm g ≡ false → first_of (drop at l) ≡ Whole start end
      → may_lie fm n es g (message_of (drop at l) start end) ≡ true → cell_of es g ≡ start_cell (fm.size g) (message_of (drop at l) start end)
      → Way fm n l es used owes (g + 1) t (at + end) → Way fm n l es used owes g t at
  -- which stays empty otherwise
  passes_over : {g at : ℕ} {t : List ℕ} → g < 12 → 0 < length t → wide fm g ≡ false
      → ((start end : ℕ) → first_of (drop at l) ≡ Whole start end → may_lie fm n es g (message_of (drop at l) start end) ≡ false)
      → cell_of es g ≡ empty_cell (fm.size g) → Way fm n l es used owes (g + 1) t at → Way fm n l es used owes g t at
  -- the next record goes to the lowest legal granule above the last granule that the message before it occupies
  starts : {g at : ℕ} {t : List ℕ} (h start end : ℕ) → g ≤ h → h < 12 → length t ≡ 0 → first_of (drop at l) ≡ Whole start end
      → may_start fm n es h (message_of (drop at l) start end) ≡ true → NoneLegal fm n es g h (message_of (drop at l) start end) → Empties fm es g h
      → cell_of es h ≡ start_cell (fm.size h) (message_of (drop at l) start end)
      → Way fm n l es used owes (h + 1) (drop (fm.size h) (message_of (drop at l) start end)) (at + end) → Way fm n l es used owes g t at
  -- it stops where the list ends or no legal granule is left
  stops : {g at : ℕ} {t : List ℕ} → g ≤ 12 → length t ≡ 0
      → ((start end : ℕ) → first_of (drop at l) ≡ Whole start end → NoneLegal fm n es g 12 (message_of (drop at l) start end))
      → Empties fm es g 12 → used ≡ at → owes ≡ t → Way fm n l es used owes g t at
  -- the last granule is behind
  ends : {g at : ℕ} {t : List ℕ} → g ≡ 12 → used ≡ at → owes ≡ t → Way fm n l es used owes g t at
