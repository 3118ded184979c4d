-- A mirror of the code's shape, not a rule: what is kept of a container instead of its bytes, numbers of the message in progress and a mark a granule.
use Rattle.std.specs.Prelude.{ℕ, zero, suc, ◌+◌, ◌-◌, ◌*◌, ◌/◌, ◌%◌, ◌≤◌, ◌<◌, ◌≡◌, Bool, true, ◌&&◌, ◌||◌, List, [], ◌∷◌, ◌++◌, length, get_or, take, eqb, ltb, leb, Result, Ok, Err}
use Rattle.lists.specs.Pick.{pick}
use Rattle.cause.specs.Checks.{Check, check, first_fault, given, Verdict}
use Rattle.cause.specs.declared.Cause.{Cause}
use Rattle.cause.specs.declared.Fault.{Fault}
use Rattle.cause.specs.declared.Cause.TheVariants.{GapInGroup, SecondMisc, TooManyResponses, GrantBesideActivation}
use Rattle.container.specs.Layout.{Format, format_of, wide, granule, msg_start, bit}
use Rattle.container.specs.Grants.{no_counts}
use Rattle.container.specs.declared.grant.Grant.{Grant}
use Rattle.message.specs.Heads.{msg_size, misc_by, activation}
use Rattle.message.specs.Places.{responses, responses_by, miscs, miscs_by}
use Rattle.placement.specs.Cells.{Cell, owed, cells}
use Rattle.placement.specs.Checking.{populated, starting, activations, cell_checks, granule_checks, container_checks}
use Rattle.reader.specs.declared.track.Track.{Track}
use Rattle.reader.specs.declared.cell.Granule.{Granule}

-- a carried message m: all that was read of it is kept, and it goes on from granule 0
abbrev pub track_of : List ℕ → Track
track_of m = record { owed = owed m; size = msg_size m; from = 0; kept = length m }

-- after granule g, where a message of n bytes starts or none: less is owed of a message that goes on, and a message that starts is taken up; of one that is whole nothing is owed
abbrev pub track_by : Format → ℕ → Bool → ℕ → Track → Track
track_by fm g st n t =
    pick (ltb 0 t.owed && wide fm g)
    (record { owed = t.owed - 20; size = t.size; from = t.from; kept = t.kept })
    (pick (st && wide fm g) (record { owed = n - 20; size = n; from = g; kept = 0 }) t)

-- after granule g of a container
unfoldable pub track_after : Format → List ℕ → ℕ → ℕ → Track → Track
track_after fm c msgstart g t = track_by fm g (bit msgstart g) (msg_size (granule fm g c)) t

-- the track when granule g is reached
unfoldable pub track_at : Format → List ℕ → ℕ → Track → ℕ → Track
track_at fm c msgstart t zero = t
track_at fm c msgstart t (suc g) = track_after fm c msgstart g (track_at fm c msgstart t g)

-- the bytes of the wide ones among granules s, .., s + k - 1
unfoldable pub gathered : Format → List ℕ → ℕ → ℕ → List ℕ
gathered fm c s zero = []
gathered fm c s (suc k) = gathered fm c s k ++ pick (wide fm (s + k)) (granule fm (s + k) c) []

-- the message in progress when granule g is reached, as the code gathers it: what is kept of the old carry, then the granules
abbrev pub gathered_message : Format → List ℕ → List ℕ → Track → ℕ → List ℕ
gathered_message fm c m t g = take t.kept m ++ gathered fm c t.from (g - t.from)

abbrev pub in_progress : Format → List ℕ → List ℕ → Track → ℕ → List ℕ
in_progress fm c m t g = pick (eqb t.owed 0) [] (gathered_message fm c m t g)

-- the message whose last granule is g, as the code finds it: none or one
abbrev pub ended_by : Format → List ℕ → List ℕ → ℕ → Track → ℕ → List (List ℕ)
ended_by fm c m msgstart t g =
    pick (ltb 0 t.owed && wide fm g) (pick (leb t.owed 20) (gathered_message fm c m t (g + 1) ∷ []) [])
    (pick (bit msgstart g) (pick (leb (msg_size (granule fm g c)) (fm.size g)) (take (msg_size (granule fm g c)) (granule fm g c) ∷ []) []) [])

-- a message that ends in granule g has its size in bytes
abbrev pub Ending : Format → List ℕ → List ℕ → Track → ℕ → Type 0
Ending fm c m t g =
    0 < t.owed → wide fm g ≡ true → t.owed ≤ 20 → (t.size ≡ length (gathered_message fm c m t (g + 1))) × (t.size ≤ 120)

-- a message that goes on behind a container: what is owed and what was read, at most 100 bytes, are its size
abbrev pub GoingOn : Format → List ℕ → List ℕ → Track → Type 0
GoingOn fm c m t =
    0 < t.owed → (t.size ≡ t.owed + length (gathered_message fm c m t 12)) × (length (gathered_message fm c m t 12) ≤ 100)

-- a mark: 1 populated, 4 a response, 32 a MiscU, 128 an Activation
abbrev pub mark_of : Cell → ℕ
mark_of e = pick (populated e) 1 0 + (4 * starting responses e + (32 * starting miscs e + 128 * starting activations e))

-- a cell of given bytes
abbrev pub cell_from : Bool → Bool → List ℕ → Cell
cell_from on st b = record { goes_on = on; starts = st; bytes = b }

-- what judging a cell finds: its first fault, or its mark and the size of the message that starts, 0 for none
abbrev pub cell_answer_of : Verdict → ℕ → ℕ → Result Granule Cause
cell_answer_of (Ok _) n k = Ok (record { mark = n; size = k })
cell_answer_of (Err fault) n k = Err fault.cause

unfoldable pub cell_answer : Format → ℕ → Cell → Result Granule Cause
cell_answer fm g e = cell_answer_of (first_fault (cell_checks fm g e)) (mark_of e) (starting msg_size e)

-- the mark of a cell where a message starts, by type and op
abbrev pub start_mark : ℕ → ℕ → ℕ
start_mark t o = 1 + (4 * responses_by t + (32 * miscs_by t + 128 * pick (misc_by t o activation) 1 0))

-- the checks of group q by the marks of its three granules
abbrev pub group_by : ℕ → ℕ → ℕ → ℕ → List Check
group_by q a b c =
    check (leb (b % 2) (a % 2) && leb (c % 2) (b % 2)) GapInGroup q
    ∷ check (leb ((a + (b + c)) / 32 % 4) 1) SecondMisc q
    ∷ check (leb ((a + (b + c)) / 4 % 8) 4) TooManyResponses q
    ∷ []

-- the checks of k groups from q on by the marks of all granules
unfoldable pub mark_checks : ℕ → ℕ → List ℕ → List Check
mark_checks zero q l = []
mark_checks (suc k) q l = group_by q (get_or l (3 * q) 0) (get_or l (3 * q + 1) 0) (get_or l (3 * q + 2) 0) ++ mark_checks k (q + 1) l

-- how many marks from i on, k of them, are of an Activation
unfoldable pub activation_marks : ℕ → ℕ → List ℕ → ℕ
activation_marks zero i l = 0
activation_marks (suc k) i l = get_or l i 0 / 128 + activation_marks k (i + 1) l

-- the checks behind the granules by their marks: groups upwards, then 13
abbrev pub behind_granules : Grant → List ℕ → List Check
behind_granules grant l = mark_checks 4 0 l ++ (check (eqb (activation_marks 12 0 l) 0 || no_counts grant) GrantBesideActivation 0 ∷ [])

-- the marks of cells
abbrev pub marks_of : List Cell → List ℕ
marks_of [] = []
marks_of (e ∷ es) = mark_of e ∷ marks_of es

-- what the granules give: the first fault of one, or their marks and the message in progress
abbrev pub scanned : ℕ → List ℕ → List ℕ → Result (List ℕ × Track) Fault
scanned f c m =
    given (first_fault (granule_checks (format_of f) 0 (cells (format_of f) c 12 0 m)))
    (marks_of (cells (format_of f) c 12 0 m), track_at (format_of f) c (msg_start (format_of f) c) (track_of m) 12)

-- what judging a whole container gives: its first fault, or the message in progress
abbrev pub looked : ℕ → List ℕ → List ℕ → Result Track Fault
looked f c m =
    given (first_fault (container_checks (format_of f) c (cells (format_of f) c 12 0 m)))
    (track_at (format_of f) c (msg_start (format_of f) c) (track_of m) 12)

-- what was read of a message in progress is at least a granule
abbrev pub Begun : List ℕ → Type 0
Begun m = 0 < owed m → 20 ≤ length m
