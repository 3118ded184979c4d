-- One call on a log, by its state. Assumes nothing.
use Prim.Native.Nat.{ℕ, ◌-◌, ◌≤◌, ◌<◌}
use mathlib.Core.Path.{◌≡◌, refl, ap, ◌∙◌}
use mathlib.Core.Bool.{Bool, true, false}
use mathlib.Core.List.{List}
use native.Mathlib.Omega.{arith}
use lib.ListN.{length, replicate}
use lib.Dec.{leb, eqb}
use borrow.Author.Tests.{lt-leb, le-leb, eq-eqb, ne_eqb}
use Rattle.lists.specs.Pick.{pick}
use Rattle.cause.specs.declared.Cause.TheVariants.{InvalidState}
use Rattle.ledger.specs.Audit.{ledger_ok}
use Rattle.logs.specs.Log.{configures, configuration_at, entries_from, verdict_by}
use Rattle.logs.specs.Stream.{max_entries, stopped_at, read_from, started, start_by, beginning, Running, valid_state, consuming, verdict_from, More, Over}
use Rattle.logs.specs.ConcludingMirror.{counts_ok, read_on}
use Rattle.logs.specs.declared.log.LogVerdict.{LogVerdict}
use Rattle.logs.specs.declared.log.LogVerdict.TheVariants.{Refused}
use Rattle.logs.specs.declared.log.LogReader.{LogReader}
use Rattle.logs.specs.declared.log.Consumed.{Consumed}
use Rattle.logs.proofs.ConfigurationLaws.{Holds, configuration_holds}
use Rattle.logs.proofs.ConfigurationValid.{configuration_fresh}
use Rattle.logs.proofs.LogStates.{running_begun, running_valid, valid_last, numbers_within}

-- the entries from a state on
abbrev pub rest_of : ℕ → LogReader → List ℕ → LogVerdict
rest_of k s l = entries_from k s.ledger s.entries s.offset l

-- the state behind a configuration is valid
pub started_runs : (b : List ℕ) (ns : List ℕ) (n : ℕ) → configuration_at b ≡ configures ns n → Running (started ns n) × (n ≤ length b)
started_runs b ns n e =
    let h : Holds (configures ns n) 0 33 (length b) = rw e at (configuration_holds 33 (replicate 33 0) 0 0 b) in
    (record { few = omega arith; far = omega (arith, h.0); near = omega (arith, h.1.0); kept = configuration_fresh b ns n e }, omega (arith, h.1.1))

-- ---- a call before the configuration

module _ (s : LogReader) (b : List ℕ) (ended : Bool) where
  begin_cases : (t : Bool) → pick ended true (leb 261 (length b)) ≡ t
      → beginning s b ended ≡ pick t (start_by s b ended (configuration_at b)) (stopped_at 0 s More)
  begin_cases t e = ap (λ (x : Bool). pick x (start_by s b ended (configuration_at b)) (stopped_at 0 s More)) e

  pub begin_ended : ended ≡ true → beginning s b ended ≡ start_by s b ended (configuration_at b)
  begin_ended e = begin_cases true (ap (λ (x : Bool). pick x true (leb 261 (length b))) e)

  pub begin_short : ended ≡ false → length b < 261 → beginning s b ended ≡ stopped_at 0 s More
  begin_short e h = begin_cases false (ap (λ (x : Bool). pick x true (leb 261 (length b))) e ∙ lt-leb 261 (length b) h)

  pub begin_long : ended ≡ false → 261 ≤ length b → beginning s b ended ≡ start_by s b ended (configuration_at b)
  begin_long e h = begin_cases true (ap (λ (x : Bool). pick x true (leb 261 (length b))) e ∙ le-leb 261 (length b) h)

-- ---- a call by its state

module _ (s : LogReader) (b : List ℕ) (ended : Bool) where
  -- what a call on a valid state gives
  abbrev going_on : Consumed
  going_on = pick (eqb s.offset 0) (beginning s b ended) (read_from (max_entries - s.entries) ended b 0 s)

  -- a state that is not valid
  pub call_bad : valid_state s ≡ false → consuming s b ended ≡ stopped_at 0 s (Over (Refused s.entries InvalidState 0))
  unfolding consuming
  call_bad e = ap (λ (t : Bool). pick t going_on (stopped_at 0 s (Over (Refused s.entries InvalidState 0)))) e

  call_valid : valid_state s ≡ true → consuming s b ended ≡ going_on
  unfolding consuming
  call_valid e = ap (λ (t : Bool). pick t going_on (stopped_at 0 s (Over (Refused s.entries InvalidState 0)))) e

  -- a state before the configuration
  pub call_start : valid_state s ≡ true → s.offset ≡ 0 → consuming s b ended ≡ beginning s b ended
  call_start good none =
      call_valid good
      ∙ ap (λ (t : Bool). pick t (beginning s b ended) (read_from (max_entries - s.entries) ended b 0 s)) (eq-eqb s.offset 0 none)

  -- a state behind it
  pub call_running : Running s → consuming s b ended ≡ read_from (max_entries - s.entries) ended b 0 s
  call_running r =
      call_valid (running_valid s r)
      ∙ ap (λ (t : Bool). pick t (beginning s b ended) (read_from (max_entries - s.entries) ended b 0 s)) (ne_eqb s.offset 0 (running_begun s r))

  -- behind it, by the state's numbers and its ledger
  call_kept : counts_ok s ≡ true → (s.offset ≡ 0 → ⊥) → (t : Bool) → ledger_ok s.ledger ≡ t
      → consuming s b ended ≡ pick t (read_from (max_entries - s.entries) ended b 0 s) (stopped_at 0 s (Over (Refused s.entries InvalidState 0)))
  call_kept h begun true ok =
      let w = numbers_within s h begun in
      call_running (record { few = w.0; far = w.1; near = w.2; kept = ok })
  call_kept h begun false bad =
      let w = numbers_within s h begun in
      call_bad (valid_last s begun w.0 w.1 w.2 ∙ bad)

  pub call_on : counts_ok s ≡ true → (s.offset ≡ 0 → ⊥) → consuming s b ended ≡ read_on s b 0 ended
  call_on h begun = call_kept h begun (ledger_ok s.ledger) refl

module _ (s : LogReader) (l : List ℕ) where
  abbrev verdict_on : LogVerdict
  verdict_on = pick (eqb s.offset 0) (verdict_by max_entries l (configuration_at l)) (rest_of (max_entries - s.entries) s l)

  pub verdict_bad : valid_state s ≡ false → verdict_from s l ≡ Refused s.entries InvalidState 0
  unfolding verdict_from
  verdict_bad e = ap (λ (t : Bool). pick t verdict_on (Refused s.entries InvalidState 0)) e

  verdict_valid : valid_state s ≡ true → verdict_from s l ≡ verdict_on
  unfolding verdict_from
  verdict_valid e = ap (λ (t : Bool). pick t verdict_on (Refused s.entries InvalidState 0)) e

  pub verdict_start : valid_state s ≡ true → s.offset ≡ 0 → verdict_from s l ≡ verdict_by max_entries l (configuration_at l)
  verdict_start good none =
      verdict_valid good ∙ ap (λ (t : Bool). pick t (verdict_by max_entries l (configuration_at l)) (rest_of (max_entries - s.entries) s l)) (eq-eqb s.offset 0 none)

  pub verdict_running : Running s → verdict_from s l ≡ rest_of (max_entries - s.entries) s l
  verdict_running r =
      verdict_valid (running_valid s r)
      ∙ ap (λ (t : Bool). pick t (verdict_by max_entries l (configuration_at l)) (rest_of (max_entries - s.entries) s l)) (ne_eqb s.offset 0 (running_begun s r))
