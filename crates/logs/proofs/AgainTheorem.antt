-- A call on what a call has left gives the same answer again: a verdict stands. Assumes nothing.
use Prim.Native.Nat.{ℕ, zero, suc, ◌-◌, ◌+◌, ◌≤◌}
use mathlib.Core.Path.{◌≡◌, refl, sym, ap, subst, ◌∙◌}
use mathlib.Core.List.{List, ◌++◌}
use mathlib.Core.Bool.{Bool, true, false}
use mathlib.Core.Logic.{⊎_elim}
use native.Mathlib.Omega.{arith}
use lib.ListN.{length, drop}
use lib.Dec.{leb}
use borrow.Author.Tests.{leb-true, leb-false}
use Rattle.lists.specs.Parts.{join_all}
use Rattle.lists.proofs.Tests.{cases}
use Rattle.logs.specs.Log.{ConfigurationAnswer, misconfigures, configures, configuration_at, Next, over, onward}
use Rattle.logs.specs.Stream.{max_entries, ready, stopped_at, stepped, read_from, started, start_by, beginning, Running, consuming, verdict_from, Outcome, Over}
use Rattle.logs.specs.Cutting.{told, run}
use Rattle.ledger.specs.declared.ledger.Ledger.{Ledger}
use Rattle.logs.specs.declared.log.LogVerdict.{LogVerdict}
use Rattle.logs.specs.declared.log.LogReader.{LogReader}
use Rattle.logs.specs.declared.log.Consumed.{Consumed}
use Rattle.logs.proofs.LogSteps.{next_at, read_stop, read_over, read_on_steps, when_ready}
use Rattle.logs.proofs.LogCalls.{begin_ended, begin_short, begin_long, started_runs, call_bad, call_start, call_running}
use Rattle.logs.proofs.CutTheorem.{read_kept, State, bad, new, runs, state_of, all_left, full_stop, consume_cut, run_verdict}

-- ---- a call that starts where a call has stopped

-- reading from the state and the place where reading has stopped stops there again
abbrev Again : Bool → List ℕ → Consumed → Type 0
Again ended b r =
    read_from (max_entries - r.reader.entries) ended (drop r.used b) 0 r.reader ≡ stopped_at 0 r.reader r.outcome

again_stop : (k : ℕ) (ended : Bool) (b : List ℕ) (at : ℕ) (s : LogReader) → ready s.entries (drop at b) ended ≡ false → Again ended b (read_from k ended b at s)
again_stop k ended b at s stop =
    subst (Again ended b) (sym (read_stop k ended b at s stop))
    (read_stop (max_entries - s.entries) ended (drop at b) 0 s stop)

again_next : (k : ℕ) (ended : Bool) (b : List ℕ) (at : ℕ) (s : LogReader) → ready s.entries (drop at b) ended ≡ true
    → (n : Next) → next_at s (drop at b) ≡ n
    → ((next : Ledger) (u : ℕ) → Again ended b (read_from k ended b (at + u) (stepped s next u)))
    → Again ended b (read_from (suc k) ended b at s)
again_next k ended b at s can (over v) e go =
    let few = (when_ready s.entries (drop at b) ended can).few in
    let one : max_entries - s.entries ≡ suc (max_entries - s.entries - 1) = omega arith in
    subst (Again ended b) (sym (read_over k ended b at s v can e))
    (ap (λ (j : ℕ). read_from j ended (drop at b) 0 s) one ∙ read_over (max_entries - s.entries - 1) ended (drop at b) 0 s v can e)
again_next k ended b at s can (onward next u) e go =
    subst (Again ended b) (sym (read_on_steps k ended b at s next u can e)) (go next u)

read_again : (k : ℕ) (ended : Bool) (b : List ℕ) (at : ℕ) (s : LogReader) → s.entries + k ≡ max_entries → Again ended b (read_from k ended b at s)
read_again zero ended b at s few = again_stop zero ended b at s (full_stop s.entries (drop at b) ended (omega arith))
read_again (suc k) ended b at s few =
    ⊎_elim
    (λ (can : ready s.entries (drop at b) ended ≡ true).
    again_next k ended b at s can (next_at s (drop at b)) refl (λ next u. read_again k ended b (at + u) (stepped s next u) (omega arith)))
    (λ (stop : ready s.entries (drop at b) ended ≡ false). again_stop (suc k) ended b at s stop)
    (cases (ready s.entries (drop at b) ended))

-- ---- one call

abbrev Stands : Bool → List ℕ → Consumed → Type 0
Stands ended b r = consuming r.reader (drop r.used b) ended ≡ stopped_at 0 r.reader r.outcome

running_stands : (ended : Bool) (b : List ℕ) (r : Consumed) → Running r.reader → Again ended b r → Stands ended b r
running_stands ended b r run again = call_running r.reader (drop r.used b) ended run ∙ again

start_stands : (s : LogReader) (b : List ℕ) (ended : Bool) (t : ConfigurationAnswer) → configuration_at b ≡ t → consuming s b ended ≡ start_by s b ended t
    → Stands ended b (start_by s b ended t)
start_stands s b ended (misconfigures c p) e same = same
start_stands s b ended (configures ns n) e same =
    let up : Running (started ns n) × (n ≤ length b) = started_runs b ns n e in
    running_stands ended b (read_from max_entries ended b n (started ns n)) (read_kept max_entries ended b n (started ns n) refl up.1 up.0).running
    (read_again max_entries ended b n (started ns n) refl)

new_stands : (s : LogReader) (b : List ℕ) (ended : Bool) → (x : Bool) → ended ≡ x → (t : Bool) → leb 261 (length b) ≡ t → consuming s b ended ≡ beginning s b ended
    → Stands ended b (consuming s b ended)
new_stands s b ended true now t long call =
    let same = call ∙ begin_ended s b ended now in
    subst (Stands ended b) (sym same) (start_stands s b ended (configuration_at b) refl same)
new_stands s b ended false now true long call =
    let same = call ∙ begin_long s b ended now (leb-true 261 (length b) long) in
    subst (Stands ended b) (sym same) (start_stands s b ended (configuration_at b) refl same)
new_stands s b ended false now false short call =
    let same = call ∙ begin_short s b ended now (leb-false 261 (length b) short) in
    subst (Stands ended b) (sym same) same

stands_by : (s : LogReader) (b : List ℕ) (ended : Bool) → State s → Stands ended b (consuming s b ended)
stands_by s b ended (bad e) = let same = call_bad s b ended e in subst (Stands ended b) (sym same) same
stands_by s b ended (new good none) = new_stands s b ended ended refl (leb 261 (length b)) refl (call_start s b ended good none)
stands_by s b ended (runs r) =
    subst (Stands ended b) (sym (call_running s b ended r))
    (running_stands ended b (read_from (max_entries - s.entries) ended b 0 s) (read_kept (max_entries - s.entries) ended b 0 s (all_left s r) (omega arith) r).running
    (read_again (max_entries - s.entries) ended b 0 s (all_left s r)))

-- from every state: a call on what a call has left uses nothing, keeps the state, and answers the same
pub consume_again : (s : LogReader) (b : List ℕ) (ended : Bool)
    → consuming (consuming s b ended).reader (drop (consuming s b ended).used b) ended
    ≡ stopped_at 0 (consuming s b ended).reader (consuming s b ended).outcome
consume_again s b ended = stands_by s b ended (state_of s)

-- once a call has given a verdict, the calls on what it has left give that verdict, whatever the parts that follow
pub verdict_stands : (s : LogReader) (b : List ℕ) (v : LogVerdict) → (consuming s b false).outcome ≡ Over v
    → (ps : List (List ℕ)) → run (consuming s b false).reader (drop (consuming s b false).used b) ps ≡ v
verdict_stands s b v e ps =
    let r : Consumed = consuming s b false in
    let q : Consumed = consuming r.reader (drop r.used b) false in
    let over-again : q.outcome ≡ Over v = ap (λ (x : Consumed). x.outcome) (consume_again s b false) ∙ e in
    run_verdict r.reader (drop r.used b) ps
    ∙ consume_cut r.reader (drop r.used b) (join_all ps)
    ∙ ap (λ (o : Outcome). told o (verdict_from q.reader (drop q.used (drop r.used b) ++ join_all ps))) over-again
