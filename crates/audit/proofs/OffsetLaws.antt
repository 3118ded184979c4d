-- The bytes that a log has used: each call adds those that it uses, and there are never more than the longest log has. Assumes nothing.
use Prim.Native.Nat.{ℕ, zero, suc, ◌+◌, ◌-◌, ◌*◌, ◌≤◌}
use mathlib.Core.Path.{◌≡◌, refl, sym, subst}
use mathlib.Core.Bool.{Bool, true, false}
use mathlib.Core.List.{List}
use mathlib.Core.Logic.{⊎_elim}
use native.Mathlib.Omega.{arith}
use lib.ListN.{length, drop}
use lib.Dec.{leb}
use Rattle.lists.specs.Pick.{pick}
use Rattle.lists.proofs.PickLaws.{pick_both}
use Rattle.lists.proofs.Tests.{cases}
use Rattle.logs.specs.Log.{ConfigurationAnswer, misconfigures, configures, configuration_at, Next, over, onward}
use Rattle.logs.specs.Stream.{max_entries, ready, stepped, read_from, started, start_by, Running, consuming}
use Rattle.ledger.specs.declared.ledger.Ledger.{Ledger}
use Rattle.logs.specs.declared.log.LogReader.{LogReader}
use Rattle.logs.specs.declared.log.Consumed.{Consumed}
use Rattle.logs.proofs.LogSteps.{next_at, read_stop, read_over, read_on_steps}
use Rattle.logs.proofs.LogCalls.{started_runs, call_bad, call_start, call_running}
use Rattle.logs.proofs.CutTheorem.{read_kept, State, bad, new, runs, state_of, all_left, full_stop}

-- the bytes of the longest log
abbrev pub most_bytes : ℕ
most_bytes = 165 + 261 * max_entries

-- reading from byte `at` on adds what it uses
abbrev Adds : ℕ → LogReader → Consumed → Type 0
Adds at s r = r.reader.offset + at ≡ s.offset + r.used

adds_next : (k : ℕ) (ended : Bool) (b : List ℕ) (at : ℕ) (s : LogReader) → ready s.entries (drop at b) ended ≡ true
    → (n : Next) → next_at s (drop at b) ≡ n
    → ((next : Ledger) (u : ℕ) → Adds (at + u) (stepped s next u) (read_from k ended b (at + u) (stepped s next u)))
    → Adds at s (read_from (suc k) ended b at s)
adds_next k ended b at s can (over v) e go = subst (Adds at s) (sym (read_over k ended b at s v can e)) refl
adds_next k ended b at s can (onward next u) e go =
    let h = go next u in subst (Adds at s) (sym (read_on_steps k ended b at s next u can e)) (omega arith)

read_adds : (k : ℕ) (ended : Bool) (b : List ℕ) (at : ℕ) (s : LogReader) → s.entries + k ≡ max_entries → Adds at s (read_from k ended b at s)
read_adds zero ended b at s few =
    subst (Adds at s) (sym (read_stop zero ended b at s (full_stop s.entries (drop at b) ended (omega arith)))) refl
read_adds (suc k) ended b at s few =
    ⊎_elim
    (λ (can : ready s.entries (drop at b) ended ≡ true).
    adds_next k ended b at s can (next_at s (drop at b)) refl (λ next u. read_adds k ended b (at + u) (stepped s next u) (omega arith)))
    (λ (stop : ready s.entries (drop at b) ended ≡ false). subst (Adds at s) (sym (read_stop (suc k) ended b at s stop)) refl)
    (cases (ready s.entries (drop at b) ended))

-- a call adds what it uses, and its state has used no more than the longest log has
pub record Counted (s : LogReader) (r : Consumed) : Type 0 where
  pub adds : r.reader.offset ≡ s.offset + r.used
  pub within : s.offset ≤ most_bytes → r.reader.offset ≤ most_bytes

running_most : (s : LogReader) → Running s → s.offset ≤ most_bytes
running_most s run = omega (arith, run.few, run.near)

start_counted : (s : LogReader) (b : List ℕ) (ended : Bool) → s.offset ≡ 0 → (t : ConfigurationAnswer) → configuration_at b ≡ t
    → Counted s (start_by s b ended t)
start_counted s b ended none (misconfigures c p) e = record { adds = omega arith; within = λ h. h }
start_counted s b ended none (configures ns n) e =
    let up : Running (started ns n) × (n ≤ length b) = started_runs b ns n e in
    let kept = (read_kept max_entries ended b n (started ns n) refl up.1 up.0).running in
    let added = read_adds max_entries ended b n (started ns n) refl in
    record { adds = omega arith; within = λ h. running_most (read_from max_entries ended b n (started ns n)).reader kept }

counted_by : (s : LogReader) (b : List ℕ) (ended : Bool) → State s → Counted s (consuming s b ended)
counted_by s b ended (bad e) = subst (Counted s) (sym (call_bad s b ended e)) (record { adds = omega arith; within = λ h. h })
counted_by s b ended (new good none) =
    subst (Counted s) (sym (call_start s b ended good none))
    (pick_both (Counted s) (pick ended true (leb 261 (length b))) (start_counted s b ended none (configuration_at b) refl)
    (record { adds = omega arith; within = λ h. h }))
counted_by s b ended (runs r) =
    let k = max_entries - s.entries in
    let kept = (read_kept k ended b 0 s (all_left s r) (omega arith) r).running in
    let added = read_adds k ended b 0 s (all_left s r) in
    subst (Counted s) (sym (call_running s b ended r))
    (record { adds = omega arith; within = λ h. running_most (read_from k ended b 0 s).reader kept })

pub consume_counted : (s : LogReader) (b : List ℕ) (ended : Bool) → Counted s (consuming s b ended)
consume_counted s b ended = counted_by s b ended (state_of s)
