use Prim.Native.Nat.{ℕ}
use mathlib.Core.Path.{◌≡◌}
use mathlib.Core.List.{List}
use Rattle.std.proofs.Common.{rules}
use Rattle.std.specs.Prelude.{Result, Err}
use Rattle.cause.specs.declared.Fault.{Fault}
use Rattle.reader.specs.declared.track.Track.{Track}
use Rattle.reader.proofs.FaultLaws.{handed_on}
use Rattle.reader.proofs.JudgeLaws.{header_fails, granules_fail, marks_fail, marks_fine}
use Rattle.reader.specs.TrackingMirror.{scanned}
use Rattle.reader.proofs.ScanLaws.{scan_starts, scan_stops, scan_goes_on, scan_ends, ok_was, err_was}
use Rattle.reader.proofs.contents.Contents.judge_container.Goals as goal

pub returns-in_err-judge_header : goal.returns-in_err-judge_header
returns-in_err-judge_header c = let k = c.args.self in
    handed_on c.from_residual.ensures.1 (header_fails k.format k.container.now k.carry.now c.in_err-judge_header.ensures)

pub loop-g-init : goal.loop-g-init
loop-g-init c = scan_starts _ c.args.self.container.now _ c.carried-track.ensures

pub returns-in_err-granule : goal.returns-in_err-granule
returns-in_err-granule c = let k = c.args.self in
    let w = err_was c.judge_cell-judged.result _ c.in_err-granule.ensures.cases in
    let there : ◌≡◌ {A = Fault} (c.in_err-granule.field-0.0) (record { cause = w.0; place = c.loop-g.g-counter }) = let x = w.2 in search rules in
    let stops : ◌≡◌ {A = Result (List ℕ × Track) Fault} (Err c.in_err-granule.field-0.0) (scanned k.format k.container.now k.carry.now) = rw there (scan_stops k.format k.container.now k.carry.now c.loop-g.g-counter k.whole k.starts k.carries c.loop-g-test.true c.loop-g.invariant c.judge_cell-judged.ensures w.1) in
    handed_on c.from_residual-in_err-granule.ensures.1 (granules_fail k.format k.container.now k.carry.now c.in_ok-judge_header.ensures stops)

pub loop-g-preserved : goal.loop-g-preserved
loop-g-preserved c = let k = c.args.self in
    scan_goes_on k.format k.container.now k.carry.now c.loop-g.g-counter k.whole k.starts k.carries c.loop-g-test.true c.loop-g.invariant c.judge_cell-judged.ensures (ok_was _ c.in_ok-granule.ensures.cases) c.starts_at.ensures c.follow-track.ensures

pub returns-in_err-judge_marks : goal.returns-in_err-judge_marks
returns-in_err-judge_marks c = let k = c.args.self in
    let ends = scan_ends _ k.container.now _ _ c.loop-g-test.false c.loop-g.invariant in
    handed_on c.from_residual-in_err-judge_marks.ensures.1 (marks_fail k.format k.container.now k.carry.now c.in_ok-judge_header.ensures ends k.granted c.in_err-judge_marks.ensures)

pub returns : goal.returns
returns c = let k = c.args.self in
    let ends = scan_ends _ k.container.now _ _ c.loop-g-test.false c.loop-g.invariant in
    marks_fine k.format k.container.now k.carry.now c.in_ok-judge_header.ensures ends k.granted c.in_ok-judge_marks.ensures
