-- The pass over the granules: what is left to judge from granule g on, the marks so far, and the track. Assumes nothing.
use Prim.Native.Nat.{ℕ, zero, suc, ◌+◌, ◌-◌, ◌≤◌, ◌<◌}
use mathlib.Core.Path.{◌≡◌, refl, sym, ap, ◌∙◌}
use mathlib.Core.Bool.{Bool, true, false, ◌&&◌}
use mathlib.Core.List.{List, [], ◌∷◌, ◌++◌}
use native.Mathlib.Omega.{arith}
use native.Mathlib.Nat.{not-suc-le-zero, zero-add}
use native.Mathlib.Numerals.{add-one}
use lib.ListN.{length, get_or, set, replicate}
use lib.Dec.{ltb}
use Rattle.lists.specs.Pick.{pick}
use Rattle.lists.proofs.Fill.{grown, grown_more, grown_all}
use Rattle.cause.specs.Checks.{Check, check, first_fault, Verdict, Accepted, Refused}
use Rattle.cause.specs.declared.Cause.{Cause}
use Rattle.cause.specs.declared.Fault.{Fault}
use Rattle.cause.specs.declared.Cause.TheVariants.{StartInsideMessage, UnknownMessage, PlaceNotAllowed, HeadWrong, UnusedByteNotZero}
use Rattle.container.specs.Layout.{Format, format_of, wide, granule, msg_start, bit}
use Rattle.message.specs.Heads.{msg_size}
use Rattle.placement.specs.Cells.{Cell, owed, cells, carry_ok}
use Rattle.placement.proofs.FirmLaws.{carry_firm}
use Rattle.placement.specs.Checking.{starting, starts_alone, start_known, start_placed, start_headed, rest_zero, cell_checks, granule_checks}
use Rattle.placement.proofs.Keeps.{progress, cell_of}
use Rattle.reader.specs.TrackingMirror.{track_of, track_by, track_after, track_at, mark_of, marks_of, cell_from, cell_answer_of, cell_answer, scanned}
use Rattle.reader.specs.declared.track.Track.{Track}
use Rattle.reader.specs.declared.cell.Granule.{Granule}
use Rattle.placement.proofs.ProgressLaws.{list_from, cells_of}
use Rattle.reader.proofs.TrackLaws.{follows}
use Rattle.std.specs.Prelude.{Result, Ok, Err}
use Rattle.std.specs.Result.{MatchResult}

-- what a cell's answer makes of the verdict on what comes behind it
abbrev then : Result Granule Cause → ℕ → Verdict → Verdict
then (Err k) g v = Refused k g
then (Ok _) g v = v

-- a cell's checks before others
checks_first : (fm : Format) (g : ℕ) (e : Cell) (l : List Check) → first_fault (cell_checks fm g e ++ l) ≡ then (cell_answer fm g e) g (first_fault l)
unfolding cell_answer
checks_first fm g e l = by (starts_alone e) (start_known e) (start_placed fm g e) (start_headed e) (rest_zero e)
  where
    five : Bool → Bool → Bool → Bool → Bool → List Check
    five a b c d f =
        check a StartInsideMessage g ∷ check b UnknownMessage g ∷ check c PlaceNotAllowed g ∷ check d HeadWrong g ∷ check f UnusedByteNotZero g ∷ []

    by : (a b c d f : Bool) → first_fault (five a b c d f ++ l) ≡ then (cell_answer_of (first_fault (five a b c d f)) (mark_of e) (starting msg_size e)) g (first_fault l)
    by false b c d f = refl
    by true false c d f = refl
    by true true false d f = refl
    by true true true false f = refl
    by true true true true false = refl
    by true true true true true = refl

-- the mark and the size that are found are the cell's
mark_is : (v : Verdict) (n i : ℕ) (r : Granule) → cell_answer_of v n i ≡ Ok r → (r.mark ≡ n) × (r.size ≡ i)
mark_is (Ok _) n i r e = let same : r ≡ record { mark = n; size = i } = cc in (ap (λ (x : Granule). x.mark) same, ap (λ (x : Granule). x.size) same)
mark_is (Err fault) n i r e = let z : ◌≡◌ {A = ℕ} 0 1 = cc in absurd (omega arith)

accepted_mark : (fm : Format) (g : ℕ) (e : Cell) (r : Granule) → cell_answer fm g e ≡ Ok r → (r.mark ≡ mark_of e) × (r.size ≡ starting msg_size e)
unfolding cell_answer
accepted_mark fm g e = mark_is (first_fault (cell_checks fm g e)) (mark_of e) (starting msg_size e)

-- where no message starts, its size does not matter
size_matters : (fm : Format) (g : ℕ) (st : Bool) (n : ℕ) (t : Track) → track_by fm g st (pick st n 0) t ≡ track_by fm g st n t
size_matters fm g false n t = refl
size_matters fm g true n t = refl

-- marks by granule
marks_length : (f : ℕ → Cell) (k g : ℕ) → length (marks_of (list_from f k g)) ≡ k
unfolding list_from
marks_length f zero g = refl
marks_length f (suc k) g = ap suc (marks_length f k (g + 1))

marks_at : (f : ℕ → Cell) (k g i : ℕ) → i < k → get_or (marks_of (list_from f k g)) i 0 ≡ mark_of (f (g + i))
unfolding list_from
marks_at f zero g i h = absurd (not-suc-le-zero h)
marks_at f (suc k) g zero h = let e : g ≡ g + 0 = omega arith in ap (λ (j : ℕ). mark_of (f j)) e
marks_at f (suc k) g (suc i) h = let e : (g + 1) + i ≡ g + suc i = omega arith in marks_at f k (g + 1) i (omega arith) ∙ ap (λ (j : ℕ). mark_of (f j)) e

module _ (fm : Format) (c m : List ℕ) where
  -- the marks of all granules
  pub all_marks : List ℕ
  all_marks = marks_of (list_from (cell_of fm c m) 12 0)

  -- the first fault from granule g on
  pub fault_from : ℕ → Verdict
  fault_from g = first_fault (granule_checks fm g (list_from (cell_of fm c m) (12 - g) g))

  cells_all : cells fm c 12 0 m ≡ list_from (cell_of fm c m) 12 0
  unfolding progress
  cells_all = cells_of fm c m 12 0

  fault_start : first_fault (granule_checks fm 0 (cells fm c 12 0 m)) ≡ fault_from 0
  unfolding fault_from
  fault_start = ap (λ (es : List Cell). first_fault (granule_checks fm 0 es)) cells_all

  fault_at : (g : ℕ) → g < 12 → fault_from g ≡ then (cell_answer fm g (cell_of fm c m g)) g (fault_from (g + 1))
  unfolding fault_from list_from granule_checks
  fault_at g h =
      let e : 12 - g ≡ suc (12 - (g + 1)) = omega arith in
      rw e (checks_first fm g (cell_of fm c m g) (granule_checks fm (g + 1) (list_from (cell_of fm c m) (12 - (g + 1)) (g + 1))))

  fault_end : fault_from 12 ≡ Accepted
  unfolding fault_from list_from granule_checks
  fault_end = refl

  marks_all : grown all_marks (replicate 12 0) 12 ≡ marks_of (cells fm c 12 0 m)
  unfolding all_marks
  marks_all =
      grown_all (marks_of (list_from (cell_of fm c m) 12 0)) (replicate 12 0) 12 (marks_length (cell_of fm c m) 12 0) (omega arith)
      ∙ ap marks_of (sym cells_all)

  marks_next : (g k : ℕ) → g < 12 → k ≡ mark_of (cell_of fm c m g) → set (grown all_marks (replicate 12 0) g) g k ≡ grown all_marks (replicate 12 0) (g + 1)
  unfolding all_marks
  marks_next g k h e =
      let l : length (marks_of (list_from (cell_of fm c m) 12 0)) ≡ 12 = marks_length (cell_of fm c m) 12 0 in
      let z : 0 + g ≡ g = zero-add g in
      let x : k ≡ get_or (marks_of (list_from (cell_of fm c m) 12 0)) g 0 = e ∙ ap (λ (j : ℕ). mark_of (cell_of fm c m j)) (sym z) ∙ sym (marks_at (cell_of fm c m) 12 0 g h) in
      ap (set (grown (marks_of (list_from (cell_of fm c m) 12 0)) (replicate 12 0) g) g) x
      ∙ grown_more (marks_of (list_from (cell_of fm c m) 12 0)) (replicate 12 0) g 0 (omega arith) h

-- the loop's invariant
pub record Scanning (f : ℕ) (c m marks : List ℕ) (track : Track) (g : ℕ) : Type 0 where
  pub within : g ≤ 12
  pub grows : marks ≡ grown (all_marks (format_of f) c m) (replicate 12 0) g
  pub follows : track ≡ track_at (format_of f) c (msg_start (format_of f) c) (track_of m) g
  pub same : first_fault (granule_checks (format_of f) 0 (cells (format_of f) c 12 0 m)) ≡ fault_from (format_of f) c m g

pub scan_starts : (f : ℕ) (c m : List ℕ) {track : Track} → track ≡ track_of m → Scanning f c m (replicate 12 0) track 0
unfolding track_at
scan_starts f c m e = record { within = omega arith; grows = refl; follows = e; same = fault_start (format_of f) c m }

-- granule g of a container, with what the code found there
module _ (f : ℕ) (c m : List ℕ) {marks : List ℕ} {track : Track} (g : ℕ) {w : ℕ} {found : Result Granule Cause}
    (n : length c ≡ 256) (ew : w ≡ msg_start (format_of f) c) (ok : carry_ok m ≡ true) (b : g < 12) (i : Scanning f c m marks track g)
    (ef : found ≡ cell_answer (format_of f) g (cell_from (ltb 0 track.owed && wide (format_of f) g) (bit w g) (granule (format_of f) g c))) where
  owes : track.owed ≡ owed (progress (format_of f) c m g)
  owes = ap (λ (t : Track). t.owed) i.follows ∙ (follows f c m n (carry_firm m ok).begun g i.within).owes

  found_is : found ≡ cell_answer (format_of f) g (cell_of (format_of f) c m g)
  unfolding cell_of
  found_is = ef ∙ (λ j. cell_answer (format_of f) g (cell_from (ltb 0 (owes j) && wide (format_of f) g) (bit (ew j) g) (granule (format_of f) g c)))

  fault_is : first_fault (granule_checks (format_of f) 0 (cells (format_of f) c 12 0 m)) ≡ then found g (fault_from (format_of f) c m (g + 1))
  fault_is = i.same ∙ fault_at (format_of f) c m g b ∙ ap (λ (x : Result Granule Cause). then x g (fault_from (format_of f) c m (g + 1))) (sym found_is)

  pub scan_stops : {k : Cause} → found ≡ Err k → ◌≡◌ {A = Result (List ℕ × Track) Fault} (Err (record { cause = k; place = g })) (scanned f c m)
  scan_stops e = rw (rw e at fault_is)

  track_is : {r : Granule} → found ≡ Ok r → {st : Bool} → st ≡ bit w g → track_by (format_of f) g st r.size track ≡ track_after (format_of f) c w g track
  unfolding track_after
  track_is {r} e es =
      let en = (accepted_mark (format_of f) g (cell_from (ltb 0 track.owed && wide (format_of f) g) (bit w g) (granule (format_of f) g c)) r (sym ef ∙ e)).1 in
      (λ j. track_by (format_of f) g (es j) (en j) track) ∙ size_matters (format_of f) g (bit w g) (msg_size (granule (format_of f) g c)) track

  pub scan_goes_on : {r : Granule} → found ≡ Ok r → {st : Bool} → st ≡ bit w g → {track' : Track} → track' ≡ track_by (format_of f) g st r.size track → Scanning f c m (set marks g r.mark) track' (g + 1)
  unfolding track_at
  scan_goes_on {r} e es {track'} et = record {
    within = omega arith;
    grows = ap (λ (l : List ℕ). set l g r.mark) i.grows ∙ marks_next (format_of f) c m g r.mark b (accepted_mark (format_of f) g (cell_of (format_of f) c m g) r (sym found_is ∙ e)).0;
    follows = et ∙ track_is e es ∙ (λ j. track_after (format_of f) c (ew j) g (i.follows j)) ∙ ap (track_at (format_of f) c (msg_start (format_of f) c) (track_of m)) (sym (add-one g));
    same = rw e at fault_is;
  }

pub scan_ends : (f : ℕ) (c m : List ℕ) {marks : List ℕ} {track : Track} (g : ℕ) → 12 ≤ g → Scanning f c m marks track g → ◌≡◌ {A = Result (List ℕ × Track) Fault} (Ok (marks, track)) (scanned f c m)
scan_ends f c m {marks} {track} g h i =
    let e : g ≡ 12 = let k = i.within in omega arith in
    let j : Scanning f c m marks track 12 = rw e at i in
    let all = j.grows ∙ marks_all (format_of f) c m in
    rw (j.same ∙ fault_end (format_of f) c m) (λ k. Ok (all k, j.follows k))

-- a result whose error alone is changed
pub ok_was : (r : Result Granule Cause) {x : Granule} → MatchResult r (λ y. ◌≡◌ {A = Result Granule Fault} (Ok x) (Ok y)) (λ k. ⊥) → r ≡ Ok x
ok_was (Ok y) {x} e = let same : y ≡ x = cc in ap Ok same
ok_was (Err k) e = absurd e

pub err_was : (r : Result Granule Cause) (fault : Fault) {P : Cause → Type 0} → MatchResult r (λ y. ◌≡◌ {A = Result Granule Fault} (Err fault) (Ok y)) P → (k : Cause) × (r ≡ Err k) × P k
err_was (Ok y) fault e = let z : ◌≡◌ {A = ℕ} 0 1 = cc in absurd (omega arith)
err_was (Err k) fault e = (k, refl, e)
