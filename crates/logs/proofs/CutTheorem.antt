-- Any cutting of a log into parts gives the verdict on the whole. Assumes nothing.
use Prim.Native.Nat.{ℕ, zero, suc, ◌-◌, ◌+◌, ◌<◌, ◌≤◌}
use mathlib.Core.Path.{◌≡◌, refl, sym, ap, subst, ◌∙◌}
use mathlib.Core.List.{List, [], ◌∷◌, ◌++◌, append_assoc, append-nil}
use mathlib.Core.Bool.{Bool, true, false}
use mathlib.Core.Logic.{⊎_elim}
use native.Mathlib.Omega.{arith}
use lib.ListN.{length, drop, replicate, length-drop, length-append}
use lib.Seq.{drop-append-le, drop-drop}
use lib.Dec.{ltb, leb, eqb}
use borrow.Author.Tests.{ltb-true, ltb-false, leb-true, leb-false, lt-ltb, le-ltb, le-leb, lt-leb, eq-eqb, ne_eqb, eqb-true, eqb-false}
use Rattle.lists.specs.Pick.{pick}
use Rattle.lists.specs.Parts.{join_all}
use Rattle.lists.proofs.Tests.{cases, never_both, not_true_false}
use Rattle.lists.proofs.PickLaws.{pick_both}
use Rattle.cause.specs.declared.Cause.TheVariants.{TooLong, InvalidState}
use Rattle.record.specs.Number.{read_number}
use Rattle.record.specs.declared.number.Number.{Number}
use Rattle.logs.specs.Log.{ConfigurationAnswer, misconfigures, configures, configuration_at, Next, over, onward, verdict_by, log_verdict}
use Rattle.logs.specs.Stream.{max_entries, whole, settled, ready, closing, stopped_at, stepped, read_from, started, start_by, beginning, Running, valid_state, consuming, verdict_from, fresh_reader, Outcome, More, Over}
use Rattle.logs.specs.Cutting.{told, run}
use Rattle.ledger.specs.declared.ledger.Ledger.{Ledger}
use Rattle.logs.specs.declared.log.LogVerdict.{LogVerdict}
use Rattle.logs.specs.declared.log.LogVerdict.TheVariants.{Accepted, Refused}
use Rattle.logs.specs.declared.log.LogReader.{LogReader}
use Rattle.logs.specs.declared.log.Consumed.{Consumed}
use Rattle.logs.proofs.ConfigurationLaws.{configuration_append}
use Rattle.logs.proofs.LogSteps.{next_at, read_stop, read_over, read_on_steps, entries_none, entries_limit, entries_over, entries_on, Fits, next_fits, next_same, when_ready}
use Rattle.logs.proofs.LogStates.{Keeps, next_keeps, valid_running}
use Rattle.logs.proofs.LogCalls.{begin_ended, begin_short, begin_long, rest_of, started_runs, call_bad, call_start, call_running, verdict_bad, verdict_start, verdict_running}
use Rattle.std.specs.Prelude.{Option, Some, None}

-- ---- where a call stops

-- with no entry left to be allowed, nothing can be judged
pub full_stop : (e : ℕ) (l : List ℕ) (ended : Bool) → max_entries ≤ e → ready e l ended ≡ false
full_stop e l ended h =
    ap (λ (t : Bool). pick (eqb (length l) 0) false (pick t false (settled l ended))) (le-leb max_entries e h)
    ∙ pick_both (λ (t : Bool). t ≡ false) (eqb (length l) 0) refl refl

pub empty_stop : (e : ℕ) (l : List ℕ) (ended : Bool) → length l ≡ 0 → ready e l ended ≡ false
empty_stop e l ended h = ap (λ (t : Bool). pick t false (pick (leb max_entries e) false (settled l ended))) (eq-eqb (length l) 0 h)

-- an entry that is allowed and of which a byte is there can be judged where the log has ended
ended_ready : (e : ℕ) (l : List ℕ) → (length l ≡ 0 → ⊥) → e < max_entries → ready e l true ≡ true
ended_ready e l some few =
    ap (λ (t : Bool). pick t false (pick (leb max_entries e) false (settled l true))) (ne_eqb (length l) 0 some)
    ∙ ap (λ (t : Bool). pick t false (settled l true)) (lt-leb max_entries e few)

long_ready : (e : ℕ) (l : List ℕ) → e < max_entries → 261 ≤ length l → ready e l false ≡ true
long_ready e l few long =
    ap (λ (t : Bool). pick t false (pick (leb max_entries e) false (settled l false))) (ne_eqb (length l) 0 (λ z. omega arith))
    ∙ ap (λ (t : Bool). pick t false (settled l false)) (lt-leb max_entries e few)
    ∙ ap (λ (t : Bool). pick t true (whole l (read_number l))) (le-leb 261 (length l) long)

pub closing_empty : (e n : ℕ) (ended : Bool) → n ≡ 0 → closing e n ended ≡ pick ended (Over (Accepted e)) More
closing_empty e n ended h =
    ap (λ (t : Bool). pick t (pick ended (Over (Accepted e)) More) (pick (ltb e max_entries) More (Over (Refused e TooLong 0)))) (eq-eqb n 0 h)

closing_some : (e n : ℕ) (ended : Bool) → (n ≡ 0 → ⊥) → closing e n ended ≡ pick (ltb e max_entries) More (Over (Refused e TooLong 0))
closing_some e n ended h =
    ap (λ (t : Bool). pick t (pick ended (Over (Accepted e)) More) (pick (ltb e max_entries) More (Over (Refused e TooLong 0)))) (ne_eqb n 0 h)

pub closing_few : (e n : ℕ) → e < max_entries → closing e n false ≡ More
closing_few e n few =
    ⊎_elim
    (λ (none : eqb n 0 ≡ true). closing_empty e n false (eqb-true n 0 none))
    (λ (some : eqb n 0 ≡ false). closing_some e n false (eqb-false n 0 some)
    ∙ ap (λ (t : Bool). pick t More (Over (Refused e TooLong 0))) (lt-ltb e max_entries few))
    (cases (eqb n 0))

pub closing_full : (e n : ℕ) (ended : Bool) → (n ≡ 0 → ⊥) → max_entries ≤ e → closing e n ended ≡ Over (Refused e TooLong 0)
closing_full e n ended some full =
    closing_some e n ended some ∙ ap (λ (t : Bool). pick t More (Over (Refused e TooLong 0))) (le-ltb e max_entries full)

-- ---- the log has ended

-- the entry at the front decides, and `go` is what is known of the entries behind it
ended_next : (k : ℕ) (b : List ℕ) (at : ℕ) (s : LogReader) → ready s.entries (drop at b) true ≡ true → (length (drop at b) ≡ 0 → ⊥)
    → (n : Next) → next_at s (drop at b) ≡ n
    → ((next : Ledger) (u : ℕ) → (read_from k true b (at + u) (stepped s next u)).outcome ≡ Over (rest_of k (stepped s next u) (drop (at + u) b)))
    → (read_from (suc k) true b at s).outcome ≡ Over (rest_of (suc k) s (drop at b))
ended_next k b at s can some (over v) e go =
    ap (λ (r : Consumed). r.outcome) (read_over k true b at s v can e)
    ∙ ap Over (sym (entries_over k s.ledger s.entries s.offset (drop at b) v some e))
ended_next k b at s can some (onward next u) e go =
    ap (λ (r : Consumed). r.outcome) (read_on_steps k true b at s next u can e)
    ∙ go next u
    ∙ ap Over (ap (λ (l : List ℕ). rest_of k (stepped s next u) l) (sym (drop-drop u at b))
    ∙ sym (entries_on k s.ledger s.entries s.offset (drop at b) next u some e))

ended_none : (k : ℕ) (b : List ℕ) (at : ℕ) (s : LogReader) → length (drop at b) ≡ 0 → (read_from k true b at s).outcome ≡ Over (rest_of k s (drop at b))
ended_none k b at s none =
    ap (λ (r : Consumed). r.outcome) (read_stop k true b at s (empty_stop s.entries (drop at b) true none))
    ∙ closing_empty s.entries (length (drop at b)) true none
    ∙ ap Over (sym (entries_none k s.ledger s.entries s.offset (drop at b) none))

read_ended : (k : ℕ) (b : List ℕ) (at : ℕ) (s : LogReader) → s.entries + k ≡ max_entries
    → (read_from k true b at s).outcome ≡ Over (rest_of k s (drop at b))
read_ended zero b at s few =
    ⊎_elim
    (λ (none : eqb (length (drop at b)) 0 ≡ true). ended_none zero b at s (eqb-true (length (drop at b)) 0 none))
    (λ (some : eqb (length (drop at b)) 0 ≡ false).
    ap (λ (r : Consumed). r.outcome) (read_stop zero true b at s (full_stop s.entries (drop at b) true (omega arith)))
    ∙ closing_full s.entries (length (drop at b)) true (eqb-false (length (drop at b)) 0 some) (omega arith)
    ∙ ap Over (sym (entries_limit s.ledger s.entries s.offset (drop at b) (eqb-false (length (drop at b)) 0 some))))
    (cases (eqb (length (drop at b)) 0))
read_ended (suc k) b at s few =
    ⊎_elim
    (λ (none : eqb (length (drop at b)) 0 ≡ true). ended_none (suc k) b at s (eqb-true (length (drop at b)) 0 none))
    (λ (some : eqb (length (drop at b)) 0 ≡ false).
    ended_next k b at s (ended_ready s.entries (drop at b) (eqb-false (length (drop at b)) 0 some) (omega arith)) (eqb-false (length (drop at b)) 0 some)
    (next_at s (drop at b)) refl (λ next u. read_ended k b (at + u) (stepped s next u) (omega arith)))
    (cases (eqb (length (drop at b)) 0))

-- ---- the log goes on with m

-- what is left after a call, with m behind it
abbrev onwards : Consumed → List ℕ → List ℕ → LogVerdict
onwards r b m = told r.outcome (rest_of (max_entries - r.reader.entries) r.reader (drop r.used b ++ m))

cut_next : (k : ℕ) (b m : List ℕ) (at : ℕ) (s : LogReader) → ready s.entries (drop at b) false ≡ true → (length (drop at b ++ m) ≡ 0 → ⊥)
    → (n : Next) → next_at s (drop at b) ≡ n → next_at s (drop at b ++ m) ≡ n → Fits n (length (drop at b))
    → ((next : Ledger) (u : ℕ) → u ≤ length (drop at b) → rest_of k (stepped s next u) (drop (at + u) b ++ m) ≡ onwards (read_from k false b (at + u) (stepped s next u)) b m)
    → rest_of (suc k) s (drop at b ++ m) ≡ onwards (read_from (suc k) false b at s) b m
cut_next k b m at s can there (over v) e same fits go =
    entries_over k s.ledger s.entries s.offset (drop at b ++ m) v there same
    ∙ ap (λ (r : Consumed). onwards r b m) (sym (read_over k false b at s v can e))
cut_next k b m at s can there (onward next u) e same fits go =
    entries_on k s.ledger s.entries s.offset (drop at b ++ m) next u there same
    ∙ ap (λ (l : List ℕ). rest_of k (stepped s next u) l) (drop-append-le u (drop at b) m fits.1.1 ∙ ap (λ (l : List ℕ). l ++ m) (drop-drop u at b))
    ∙ go next u fits.1.1
    ∙ ap (λ (r : Consumed). onwards r b m) (sym (read_on_steps k false b at s next u can e))

-- where the call stops for want of bytes, nothing has changed
cut_stop : (k : ℕ) (b m : List ℕ) (at : ℕ) (s : LogReader) → s.entries + k ≡ max_entries
    → ready s.entries (drop at b) false ≡ false → closing s.entries (length (drop at b)) false ≡ More
    → rest_of k s (drop at b ++ m) ≡ onwards (read_from k false b at s) b m
cut_stop k b m at s few stop more =
    let rest : k ≡ max_entries - s.entries = omega arith in
    ap (λ (j : ℕ). rest_of j s (drop at b ++ m)) rest
    ∙ ap (λ (o : Outcome). onwards (stopped_at at s o) b m) (sym more)
    ∙ ap (λ (r : Consumed). onwards r b m) (sym (read_stop k false b at s stop))

read_cut : (k : ℕ) (b m : List ℕ) (at : ℕ) (s : LogReader) → s.entries + k ≡ max_entries → at ≤ length b
    → rest_of k s (drop at b ++ m) ≡ onwards (read_from k false b at s) b m
read_cut zero b m at s few h =
    let full : max_entries ≤ s.entries = omega arith in
    ⊎_elim
    (λ (none : eqb (length (drop at b)) 0 ≡ true).
    cut_stop zero b m at s few (full_stop s.entries (drop at b) false full) (closing_empty s.entries (length (drop at b)) false (eqb-true (length (drop at b)) 0 none)))
    (λ (some : eqb (length (drop at b)) 0 ≡ false).
    entries_limit s.ledger s.entries s.offset (drop at b ++ m) (λ z. eqb-false (length (drop at b)) 0 some (omega (arith, length-append (drop at b) m)))
    ∙ ap (λ (o : Outcome). onwards (stopped_at at s o) b m) (sym (closing_full s.entries (length (drop at b)) false (eqb-false (length (drop at b)) 0 some) full))
    ∙ ap (λ (r : Consumed). onwards r b m) (sym (read_stop zero false b at s (full_stop s.entries (drop at b) false full))))
    (cases (eqb (length (drop at b)) 0))
read_cut (suc k) b m at s few h =
    ⊎_elim
    (λ (can : ready s.entries (drop at b) false ≡ true).
    cut_next k b m at s can (λ z. (when_ready s.entries (drop at b) false can).some (omega (arith, length-append (drop at b) m)))
    (next_at s (drop at b)) refl (next_same s.ledger s.entries s.offset (drop at b) m s.entries can)
    (next_fits s.ledger s.entries s.offset (drop at b))
    (λ next u fit. read_cut k b m (at + u) (stepped s next u) (omega arith) (omega (arith, length-drop at b))))
    (λ (stop : ready s.entries (drop at b) false ≡ false). cut_stop (suc k) b m at s few stop (closing_few s.entries (length (drop at b)) (omega arith)))
    (cases (ready s.entries (drop at b) false))

-- ---- what a call on a running state leaves

pub record Kept (b : List ℕ) (r : Consumed) : Type 0 where
  pub running : Running r.reader
  pub within : r.used ≤ length b

kept_next : (k : ℕ) (ended : Bool) (b : List ℕ) (at : ℕ) (s : LogReader) → at ≤ length b → Running s
    → ready s.entries (drop at b) ended ≡ true → (n : Next) → next_at s (drop at b) ≡ n → Fits n (length (drop at b)) → Keeps n
    → ((next : Ledger) (u : ℕ) → at + u ≤ length b → Running (stepped s next u) → Kept b (read_from k ended b (at + u) (stepped s next u)))
    → Kept b (read_from (suc k) ended b at s)
kept_next k ended b at s h r can (over v) e fits keeps go =
    subst (λ (x : Consumed). Kept b x) (sym (read_over k ended b at s v can e)) (record { running = r; within = h })
kept_next k ended b at s h r can (onward next u) e fits keeps go =
    let few = (when_ready s.entries (drop at b) ended can).few in
    subst (λ (x : Consumed). Kept b x) (sym (read_on_steps k ended b at s next u can e))
    (go next u (omega (arith, fits.1.1, length-drop at b))
    (record {
      few = omega arith;
      far = omega (arith, r.far, fits.0);
      near = omega (arith, r.near, fits.1.0);
      kept = keeps;
    }))

kept_stop : (k : ℕ) (ended : Bool) (b : List ℕ) (at : ℕ) (s : LogReader) → at ≤ length b → Running s → ready s.entries (drop at b) ended ≡ false
    → Kept b (read_from k ended b at s)
kept_stop k ended b at s h r stop = subst (λ (x : Consumed). Kept b x) (sym (read_stop k ended b at s stop)) (record { running = r; within = h })

pub read_kept : (k : ℕ) (ended : Bool) (b : List ℕ) (at : ℕ) (s : LogReader) → s.entries + k ≡ max_entries → at ≤ length b → Running s
    → Kept b (read_from k ended b at s)
read_kept zero ended b at s few h r = kept_stop zero ended b at s h r (full_stop s.entries (drop at b) ended (omega arith))
read_kept (suc k) ended b at s few h r =
    ⊎_elim
    (λ (can : ready s.entries (drop at b) ended ≡ true).
    kept_next k ended b at s h r can (next_at s (drop at b)) refl
    (next_fits s.ledger s.entries s.offset (drop at b)) (next_keeps s.ledger s.entries s.offset (drop at b) r.kept)
    (λ next u fit run. read_kept k ended b (at + u) (stepped s next u) (omega arith) fit run))
    (λ (stop : ready s.entries (drop at b) ended ≡ false). kept_stop (suc k) ended b at s h r stop)
    (cases (ready s.entries (drop at b) ended))

-- ---- fewer than 261 bytes are left over

not_more : (v : LogVerdict) → Over v ≡ More → ⊥
not_more v e = let z : ◌≡◌ {A = ℕ} 0 1 = cc in omega arith

short_next : (k : ℕ) (b : List ℕ) (at : ℕ) (s : LogReader) → ready s.entries (drop at b) false ≡ true
    → (n : Next) → next_at s (drop at b) ≡ n
    → ((next : Ledger) (u : ℕ) → (read_from k false b (at + u) (stepped s next u)).outcome ≡ More → length b - (read_from k false b (at + u) (stepped s next u)).used < 261)
    → (read_from (suc k) false b at s).outcome ≡ More → length b - (read_from (suc k) false b at s).used < 261
short_next k b at s can (over v) e go more =
    absurd (not_more v (sym (ap (λ (r : Consumed). r.outcome) (read_over k false b at s v can e)) ∙ more))
short_next k b at s can (onward next u) e go more =
    let same = read_on_steps k false b at s next u can e in
    subst (λ (r : Consumed). length b - r.used < 261) (sym same) (go next u (sym (ap (λ (r : Consumed). r.outcome) same) ∙ more))

stop_short : (e : ℕ) (l : List ℕ) → ready e l false ≡ false → closing e (length l) false ≡ More → length l < 261
stop_short e l stop more =
    ⊎_elim
    (λ (long : leb 261 (length l) ≡ true). ⊎_elim
    (λ (few : ltb e max_entries ≡ true). absurd (never_both stop (long_ready e l (ltb-true e max_entries few) (leb-true 261 (length l) long))))
    (λ (full : ltb e max_entries ≡ false).
    absurd (not_more (Refused e TooLong 0) (sym (closing_full e (length l) false (λ z. omega (arith, leb-true 261 (length l) long)) (ltb-false e max_entries full)) ∙ more)))
    (cases (ltb e max_entries)))
    (λ (short : leb 261 (length l) ≡ false). leb-false 261 (length l) short)
    (cases (leb 261 (length l)))

short_stop : (k : ℕ) (b : List ℕ) (at : ℕ) (s : LogReader) → ready s.entries (drop at b) false ≡ false
    → (read_from k false b at s).outcome ≡ More → length b - (read_from k false b at s).used < 261
short_stop k b at s stop more =
    let same = read_stop k false b at s stop in
    let few = stop_short s.entries (drop at b) stop (sym (ap (λ (r : Consumed). r.outcome) same) ∙ more) in
    subst (λ (r : Consumed). length b - r.used < 261) (sym same) (omega (arith, length-drop at b))

read_short : (k : ℕ) (b : List ℕ) (at : ℕ) (s : LogReader) → s.entries + k ≡ max_entries
    → (read_from k false b at s).outcome ≡ More → length b - (read_from k false b at s).used < 261
read_short zero b at s few more = short_stop zero b at s (full_stop s.entries (drop at b) false (omega arith)) more
read_short (suc k) b at s few more =
    ⊎_elim
    (λ (can : ready s.entries (drop at b) false ≡ true).
    short_next k b at s can (next_at s (drop at b)) refl (λ next u h. read_short k b (at + u) (stepped s next u) (omega arith) h) more)
    (λ (stop : ready s.entries (drop at b) false ≡ false). short_stop (suc k) b at s stop more)
    (cases (ready s.entries (drop at b) false))

-- ---- one call

-- a state is not valid, stands before the configuration, or runs
pub data State (s : LogReader) : Type 0 where
  bad : valid_state s ≡ false → State s
  new : valid_state s ≡ true → s.offset ≡ 0 → State s
  runs : Running s → State s

pub state_of : (s : LogReader) → State s
state_of s =
    ⊎_elim
    (λ (good : valid_state s ≡ true). ⊎_elim
    (λ (none : eqb s.offset 0 ≡ true). new good (eqb-true s.offset 0 none))
    (λ (some : eqb s.offset 0 ≡ false). runs (valid_running s good (eqb-false s.offset 0 some)))
    (cases (eqb s.offset 0)))
    (λ (e : valid_state s ≡ false). bad e)
    (cases (valid_state s))

pub all_left : (s : LogReader) → Running s → s.entries + (max_entries - s.entries) ≡ max_entries
all_left s r = omega (arith, r.few)

ended_start : (s : LogReader) (b : List ℕ) (t : ConfigurationAnswer) → (start_by s b true t).outcome ≡ Over (verdict_by max_entries b t)
ended_start s b (misconfigures c p) = refl
ended_start s b (configures ns n) = read_ended max_entries b n (started ns n) refl

ended_by_law : (s : LogReader) (b : List ℕ) → State s → (consuming s b true).outcome ≡ Over (verdict_from s b)
ended_by_law s b (bad e) = ap (λ (r : Consumed). r.outcome) (call_bad s b true e) ∙ ap Over (sym (verdict_bad s b e))
ended_by_law s b (new good none) =
    ap (λ (r : Consumed). r.outcome) (call_start s b true good none ∙ begin_ended s b true refl)
    ∙ ended_start s b (configuration_at b) ∙ ap Over (sym (verdict_start s b good none))
ended_by_law s b (runs r) =
    ap (λ (x : Consumed). x.outcome) (call_running s b true r)
    ∙ read_ended (max_entries - s.entries) b 0 s (all_left s r) ∙ ap Over (sym (verdict_running s b r))

-- where the log has ended, the call gives the verdict on what is left of it
pub consume_ended : (s : LogReader) (b : List ℕ) → (consuming s b true).outcome ≡ Over (verdict_from s b)
consume_ended s b = ended_by_law s b (state_of s)

-- what the calls behind this one give, where m stands behind the bytes at hand
abbrev pub behind : Consumed → List ℕ → List ℕ → LogVerdict
behind r b m = told r.outcome (verdict_from r.reader (drop r.used b ++ m))

onwards_behind : (r : Consumed) (b m : List ℕ) → Running r.reader → onwards r b m ≡ behind r b m
onwards_behind r b m run = ap (λ (v : LogVerdict). told r.outcome v) (sym (verdict_running r.reader (drop r.used b ++ m) run))

cut_set_up : (s : LogReader) (b m : List ℕ) (t : ConfigurationAnswer) → configuration_at b ≡ t → verdict_by max_entries (b ++ m) t ≡ behind (start_by s b false t) b m
cut_set_up s b m (misconfigures c p) e = refl
cut_set_up s b m (configures ns n) e =
    let up : Running (started ns n) × (n ≤ length b) = started_runs b ns n e in
    ap (λ (l : List ℕ). rest_of max_entries (started ns n) l) (drop-append-le n b m up.1)
    ∙ read_cut max_entries b m n (started ns n) refl up.1
    ∙ onwards_behind (read_from max_entries false b n (started ns n)) b m (read_kept max_entries false b n (started ns n) refl up.1 up.0).running

cut_start : (s : LogReader) (b m : List ℕ) → valid_state s ≡ true → s.offset ≡ 0 → (t : Bool) → leb 261 (length b) ≡ t
    → verdict_from s (b ++ m) ≡ behind (consuming s b false) b m
cut_start s b m good none true long =
    let many = leb-true 261 (length b) long in
    verdict_start s (b ++ m) good none
    ∙ ap (λ (t : ConfigurationAnswer). verdict_by max_entries (b ++ m) t) (configuration_append 33 (replicate 33 0) 0 0 b m (omega arith))
    ∙ cut_set_up s b m (configuration_at b) refl
    ∙ ap (λ (r : Consumed). behind r b m) (sym (call_start s b false good none ∙ begin_long s b false refl many))
cut_start s b m good none false short =
    ap (λ (r : Consumed). behind r b m) (sym (call_start s b false good none ∙ begin_short s b false refl (leb-false 261 (length b) short)))

cut_by : (s : LogReader) (b m : List ℕ) → State s → verdict_from s (b ++ m) ≡ behind (consuming s b false) b m
cut_by s b m (bad e) = verdict_bad s (b ++ m) e ∙ ap (λ (r : Consumed). behind r b m) (sym (call_bad s b false e))
cut_by s b m (new good none) = cut_start s b m good none (leb 261 (length b)) refl
cut_by s b m (runs r) =
    verdict_running s (b ++ m) r
    ∙ read_cut (max_entries - s.entries) b m 0 s (all_left s r) (omega arith)
    ∙ onwards_behind (read_from (max_entries - s.entries) false b 0 s) b m (read_kept (max_entries - s.entries) false b 0 s (all_left s r) (omega arith) r).running
    ∙ ap (λ (x : Consumed). behind x b m) (sym (call_running s b false r))

-- a call in the middle of a log changes nothing of the verdict
pub consume_cut : (s : LogReader) (b m : List ℕ) → verdict_from s (b ++ m) ≡ behind (consuming s b false) b m
consume_cut s b m = cut_by s b m (state_of s)

-- ---- a call uses no more than is at hand

abbrev Within : List ℕ → Consumed → Type 0
Within b r = r.used ≤ length b

start_within : (s : LogReader) (b : List ℕ) (ended : Bool) (t : ConfigurationAnswer) → configuration_at b ≡ t → Within b (start_by s b ended t)
start_within s b ended (misconfigures c p) e = omega arith
start_within s b ended (configures ns n) e =
    let up : Running (started ns n) × (n ≤ length b) = started_runs b ns n e in
    (read_kept max_entries ended b n (started ns n) refl up.1 up.0).within

within_by : (s : LogReader) (b : List ℕ) (ended : Bool) → State s → Within b (consuming s b ended)
within_by s b ended (bad e) = subst (Within b) (sym (call_bad s b ended e)) (omega arith)
within_by s b ended (new good none) =
    subst (Within b) (sym (call_start s b ended good none))
    (pick_both (Within b) (pick ended true (leb 261 (length b))) (start_within s b ended (configuration_at b) refl) (omega arith))
within_by s b ended (runs r) =
    subst (Within b) (sym (call_running s b ended r)) (read_kept (max_entries - s.entries) ended b 0 s (all_left s r) (omega arith) r).within

pub consume_within : (s : LogReader) (b : List ℕ) (ended : Bool) → (consuming s b ended).used ≤ length b
consume_within s b ended = within_by s b ended (state_of s)

-- ---- a call that asks for more leaves fewer than 261 bytes

abbrev Short : List ℕ → Consumed → Type 0
Short b r = r.outcome ≡ More → length b - r.used < 261

start_short : (s : LogReader) (b : List ℕ) (t : ConfigurationAnswer) → Short b (start_by s b false t)
start_short s b (misconfigures c p) more = absurd (not_more (Refused 0 c p) more)
start_short s b (configures ns n) more = read_short max_entries b n (started ns n) refl more

new_short : (s : LogReader) (b : List ℕ) → valid_state s ≡ true → s.offset ≡ 0 → (t : Bool) → leb 261 (length b) ≡ t → Short b (consuming s b false)
new_short s b good none true long =
    subst (Short b) (sym (call_start s b false good none ∙ begin_long s b false refl (leb-true 261 (length b) long))) (start_short s b (configuration_at b))
new_short s b good none false short =
    subst (Short b) (sym (call_start s b false good none ∙ begin_short s b false refl (leb-false 261 (length b) short)))
    (λ more. let few = leb-false 261 (length b) short in omega arith)

short_by : (s : LogReader) (b : List ℕ) → State s → Short b (consuming s b false)
short_by s b (bad e) =
    subst (Short b) (sym (call_bad s b false e)) (λ more. absurd (not_more (Refused s.entries InvalidState 0) more))
short_by s b (new good none) = new_short s b good none (leb 261 (length b)) refl
short_by s b (runs r) =
    subst (Short b) (sym (call_running s b false r)) (λ more. read_short (max_entries - s.entries) b 0 s (all_left s r) more)

pub consume_short : (s : LogReader) (b : List ℕ) → (consuming s b false).outcome ≡ More → length b - (consuming s b false).used < 261
consume_short s b = short_by s b (state_of s)

-- ---- a call that asks for more leaves no whole entry behind the configuration

whole_some : (l : List ℕ) (r : Option Number) → whole l r ≡ true → length l ≡ 0 → ⊥
whole_some l None h z = never_both refl h
whole_some l (Some number) h z = let long = leb-true (number.used + 256) (length l) h in omega arith

whole_ready : (e : ℕ) (l : List ℕ) → e < max_entries → whole l (read_number l) ≡ true → ready e l false ≡ true
whole_ready e l few h =
    ap (λ (t : Bool). pick t false (pick (leb max_entries e) false (settled l false))) (ne_eqb (length l) 0 (whole_some l (read_number l) h))
    ∙ ap (λ (t : Bool). pick t false (settled l false)) (lt-leb max_entries e few)
    ∙ ap (λ (t : Bool). pick (leb 261 (length l)) true t) h
    ∙ pick_both (λ (t : Bool). t ≡ true) (leb 261 (length l)) refl refl

stop_waits : (e : ℕ) (l : List ℕ) → ready e l false ≡ false → closing e (length l) false ≡ More → whole l (read_number l) ≡ false
stop_waits e l stop more =
    not_true_false (whole l (read_number l))
    (λ (h : whole l (read_number l) ≡ true). ⊎_elim
    (λ (few : ltb e max_entries ≡ true). never_both stop (whole_ready e l (ltb-true e max_entries few) h))
    (λ (full : ltb e max_entries ≡ false).
    not_more (Refused e TooLong 0) (sym (closing_full e (length l) false (whole_some l (read_number l) h) (ltb-false e max_entries full)) ∙ more))
    (cases (ltb e max_entries)))

abbrev Waits : List ℕ → Consumed → Type 0
Waits b r = r.outcome ≡ More → (r.reader.offset ≡ 0 → ⊥) → whole (drop r.used b) (read_number (drop r.used b)) ≡ false

waits_next : (k : ℕ) (b : List ℕ) (at : ℕ) (s : LogReader) → ready s.entries (drop at b) false ≡ true → (n : Next) → next_at s (drop at b) ≡ n
    → ((next : Ledger) (u : ℕ) → Waits b (read_from k false b (at + u) (stepped s next u))) → Waits b (read_from (suc k) false b at s)
waits_next k b at s can (over v) e go =
    subst (Waits b) (sym (read_over k false b at s v can e)) (λ more begun. absurd (not_more v more))
waits_next k b at s can (onward next u) e go = subst (Waits b) (sym (read_on_steps k false b at s next u can e)) (go next u)

waits_stop : (k : ℕ) (b : List ℕ) (at : ℕ) (s : LogReader) → ready s.entries (drop at b) false ≡ false → Waits b (read_from k false b at s)
waits_stop k b at s stop =
    subst (Waits b) (sym (read_stop k false b at s stop)) (λ more begun. stop_waits s.entries (drop at b) stop more)

read_waits : (k : ℕ) (b : List ℕ) (at : ℕ) (s : LogReader) → s.entries + k ≡ max_entries → Waits b (read_from k false b at s)
read_waits zero b at s few = waits_stop zero b at s (full_stop s.entries (drop at b) false (omega arith))
read_waits (suc k) b at s few =
    ⊎_elim
    (λ (can : ready s.entries (drop at b) false ≡ true).
    waits_next k b at s can (next_at s (drop at b)) refl (λ next u. read_waits k b (at + u) (stepped s next u) (omega arith)))
    (λ (stop : ready s.entries (drop at b) false ≡ false). waits_stop (suc k) b at s stop)
    (cases (ready s.entries (drop at b) false))

start_waits : (s : LogReader) (b : List ℕ) (t : ConfigurationAnswer) → Waits b (start_by s b false t)
start_waits s b (misconfigures c p) more begun = absurd (not_more (Refused 0 c p) more)
start_waits s b (configures ns n) more begun = read_waits max_entries b n (started ns n) refl more begun

new_waits : (s : LogReader) (b : List ℕ) → s.offset ≡ 0 → (t : Bool) → leb 261 (length b) ≡ t → Waits b (beginning s b false)
new_waits s b none true long = subst (Waits b) (sym (begin_long s b false refl (leb-true 261 (length b) long))) (start_waits s b (configuration_at b))
new_waits s b none false short =
    subst (Waits b) (sym (begin_short s b false refl (leb-false 261 (length b) short))) (λ more begun. absurd (begun none))

waits_by : (s : LogReader) (b : List ℕ) → State s → Waits b (consuming s b false)
waits_by s b (bad e) =
    subst (Waits b) (sym (call_bad s b false e)) (λ more begun. absurd (not_more (Refused s.entries InvalidState 0) more))
waits_by s b (new good none) = subst (Waits b) (sym (call_start s b false good none)) (new_waits s b none (leb 261 (length b)) refl)
waits_by s b (runs r) = subst (Waits b) (sym (call_running s b false r)) (read_waits (max_entries - s.entries) b 0 s (all_left s r))

pub consume_waits : (s : LogReader) (b : List ℕ) → (consuming s b false).outcome ≡ More → ((consuming s b false).reader.offset ≡ 0 → ⊥)
    → whole (drop (consuming s b false).used b) (read_number (drop (consuming s b false).used b)) ≡ false
consume_waits s b = waits_by s b (state_of s)

-- ---- the theorem

-- any cutting gives the verdict on what is left, from any state
pub run_verdict : (s : LogReader) (rest : List ℕ) (ps : List (List ℕ)) → run s rest ps ≡ verdict_from s (rest ++ join_all ps)
unfolding run
run_verdict s rest [] =
    ap (λ (o : Outcome). told o (Accepted 0)) (consume_ended s rest) ∙ ap (λ (l : List ℕ). verdict_from s l) (sym (append-nil rest))
run_verdict s rest (p ∷ ps) =
    let r : Consumed = consuming s (rest ++ p) false in
    ap (λ (v : LogVerdict). told r.outcome v) (run_verdict r.reader (drop r.used (rest ++ p)) ps)
    ∙ sym (consume_cut s (rest ++ p) (join_all ps))
    ∙ ap (λ (l : List ℕ). verdict_from s l) (append_assoc rest p (join_all ps))

pub fresh_verdict : (l : List ℕ) → verdict_from fresh_reader l ≡ log_verdict max_entries l
unfolding verdict_from valid_state log_verdict
fresh_verdict l = refl

-- whatever the parts, the calls from fresh give the verdict on the whole log
pub any_cut : (ps : List (List ℕ)) → run fresh_reader [] ps ≡ log_verdict max_entries (join_all ps)
any_cut ps = run_verdict fresh_reader [] ps ∙ fresh_verdict (join_all ps)

-- one call on the whole log gives its verdict
pub whole_log : (l : List ℕ) → (consuming fresh_reader l true).outcome ≡ Over (log_verdict max_entries l)
whole_log l = consume_ended fresh_reader l ∙ ap Over (fresh_verdict l)

-- a state that is not valid is refused by 19, whatever the parts
pub bad_state : (s : LogReader) (rest : List ℕ) (ps : List (List ℕ)) → valid_state s ≡ false → run s rest ps ≡ Refused s.entries InvalidState 0
bad_state s rest ps e = run_verdict s rest ps ∙ verdict_bad s (rest ++ join_all ps) e
