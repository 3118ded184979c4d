-- The verdict on a container, by those on its header, its granules, and what their marks say. Assumes nothing.
use Prim.Native.Nat.{ℕ, zero, suc, ◌+◌}
use mathlib.Core.Path.{◌≡◌, refl, sym, ap, ◌∙◌}
use mathlib.Core.Bool.{Bool, true, false, ◌||◌, not}
use mathlib.Core.List.{List, [], ◌∷◌, ◌++◌}
use lib.ListN.{length}
use lib.Dec.{eqb}
use borrow.Author.Tests.{not-true, not-false}
use Rattle.lists.proofs.Tests.{or_true}
use Rattle.cause.specs.Checks.{check, first_fault, or_else, Verdict, Accepted, Refused}
use Rattle.cause.specs.declared.Cause.TheVariants.{GrantBesideActivation}
use Rattle.cause.specs.declared.Fault.{Fault}
use Rattle.cause.proofs.CheckLaws.{first_append}
use Rattle.container.specs.Layout.{Format, format_of, msg_start}
use Rattle.container.specs.Grants.{header_grant, no_counts}
use Rattle.container.specs.declared.grant.Grant.{Grant}
use Rattle.placement.specs.Cells.{Cell, cell_at, after, cells}
use Rattle.placement.specs.Checking.{header_checks, granule_checks, group_checks, activation_checks, container_checks}
use Rattle.reader.specs.TrackingMirror.{track_of, track_at, marks_of, mark_checks, activation_marks, behind_granules, scanned, looked}
use Rattle.reader.specs.declared.track.Track.{Track}
use Rattle.reader.proofs.MarkLaws.{groups_of, activations_of}
use Rattle.cause.proofs.GivenLaws.{given_fault, given_fine}
use Rattle.std.specs.Prelude.{Result, Ok, Err}

-- the verdict behind the granules, with the groups' verdict
module _ (grant : Grant) (l : List ℕ) where
  abbrev quiet_by : Bool
  quiet_by = eqb (activation_marks 12 0 l) 0 || no_counts grant

  joined : {groups : Verdict} → groups ≡ first_fault (mark_checks 4 0 l) → first_fault (behind_granules grant l) ≡ or_else groups (first_fault (check quiet_by GrantBesideActivation 0 ∷ []))
  joined e = rw e (first_append (mark_checks 4 0 l) (check quiet_by GrantBesideActivation 0 ∷ []))

  pub groups_fail : {fault : Fault} → Err fault ≡ first_fault (mark_checks 4 0 l) → Err fault ≡ first_fault (behind_granules grant l)
  groups_fail e = sym (joined e)

  module _ (s : Accepted ≡ first_fault (mark_checks 4 0 l)) {counts : Bool} (ec : counts ≡ not (no_counts grant)) where
    pub without_counts : counts ≡ false → Accepted ≡ first_fault (behind_granules grant l)
    without_counts f = rw (joined s, not-false (no_counts grant) (sym ec ∙ f), or_true (eqb (activation_marks 12 0 l) 0))

    module _ {activation : Bool} (ea : activation ≡ not (eqb (activation_marks 12 0 l) 0)) where
      pub without_activation : activation ≡ false → Accepted ≡ first_fault (behind_granules grant l)
      without_activation f = rw (joined s, not-false (eqb (activation_marks 12 0 l) 0) (sym ea ∙ f))

      pub beside : counts ≡ true → activation ≡ true → Refused GrantBesideActivation 0 ≡ first_fault (behind_granules grant l)
      beside t u = rw (joined s, not-true (eqb (activation_marks 12 0 l) 0) (sym ea ∙ u), not-true (no_counts grant) (sym ec ∙ t))

-- a container whose cells are judged
length_cells : (fm : Format) (c : List ℕ) (k g : ℕ) (m : List ℕ) → length (cells fm c k g m) ≡ k
unfolding cells
length_cells fm c zero g m = refl
length_cells fm c (suc k) g m = ap suc (length_cells fm c k (g + 1) (after fm g (cell_at fm g c m) m))

-- the checks behind the granules, by cells and by their marks
behind_same : (fm : Format) (c : List ℕ) (es : List Cell) → length es ≡ 12 → first_fault (behind_granules (header_grant fm c) (marks_of es)) ≡ first_fault (group_checks 4 0 es ++ activation_checks fm c es)
behind_same fm c es n =
    joined (header_grant fm c) (marks_of es) refl
    ∙ rw (groups_of es n, activations_of es n)
    (sym (first_append (group_checks 4 0 es) (activation_checks fm c es)))

module _ (f : ℕ) (c m : List ℕ) where
  abbrev es : List Cell
  es = cells (format_of f) c 12 0 m

  abbrev behind : Verdict
  behind = first_fault (group_checks 4 0 es ++ activation_checks (format_of f) c es)

  parts_joined : {header : Verdict} → header ≡ first_fault (header_checks (format_of f) c) → first_fault (container_checks (format_of f) c es) ≡ or_else header (or_else (first_fault (granule_checks (format_of f) 0 es)) behind)
  unfolding container_checks
  parts_joined eh =
      first_append (header_checks (format_of f) c) (granule_checks (format_of f) 0 es ++ (group_checks 4 0 es ++ activation_checks (format_of f) c es))
      ∙ rw (eh, first_append (granule_checks (format_of f) 0 es) (group_checks 4 0 es ++ activation_checks (format_of f) c es))

  pub header_fails : {fault : Fault} → Err fault ≡ first_fault (header_checks (format_of f) c) → ◌≡◌ {A = Result Track Fault} (Err fault) (looked f c m)
  header_fails e = rw (parts_joined e)

  module _ (s : Accepted ≡ first_fault (header_checks (format_of f) c)) where
    pub granules_fail : {fault : Fault} → Err fault ≡ scanned f c m → ◌≡◌ {A = Result Track Fault} (Err fault) (looked f c m)
    granules_fail e = rw (parts_joined s, given_fault _ _ (sym e))

    module _ {marks : List ℕ} {track : Track} (e : Ok (marks, track) ≡ scanned f c m) {grant : Grant} (eg : grant ≡ header_grant (format_of f) c) where
      fine : (first_fault (granule_checks (format_of f) 0 es) ≡ Accepted) × ◌≡◌ {A = List ℕ × Track} (marks, track) (marks_of es, track_at (format_of f) c (msg_start (format_of f) c) (track_of m) 12)
      fine = given_fine _ _ (sym e)

      left_by_marks : first_fault (container_checks (format_of f) c es) ≡ first_fault (behind_granules grant marks)
      left_by_marks =
          (parts_joined s ∙ rw fine.0)
          ∙ sym ((λ i. first_fault (behind_granules (eg i) (fine.1 i).0)) ∙ behind_same (format_of f) c es (length_cells (format_of f) c 12 0 m))

      pub marks_fail : {fault : Fault} → Err fault ≡ first_fault (behind_granules grant marks) → ◌≡◌ {A = Result Track Fault} (Err fault) (looked f c m)
      marks_fail b = rw (left_by_marks, ← b)

      pub marks_fine : Accepted ≡ first_fault (behind_granules grant marks) → ◌≡◌ {A = Result Track Fault} (Ok track) (looked f c m)
      marks_fine b = rw (left_by_marks, ← b) (λ i. Ok (fine.1 i).1)
