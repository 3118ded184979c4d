-- What a call of the log in parts gives is what its rules say, and nothing else is. Assumes nothing.
use Prim.Native.Nat.{ℕ, zero, suc, ◌-◌, ◌+◌, ◌%◌, ◌<◌, ◌≤◌}
use mathlib.Core.Path.{◌≡◌, refl, sym, ap, subst, ◌∙◌}
use mathlib.Core.Bool.{Bool, true, false}
use mathlib.Core.List.{List, [], ◌∷◌, ◌++◌}
use mathlib.Core.Logic.{◌⊎◌, inl, inr, ◌↔◌, ⊎_elim}
use native.Mathlib.Omega.{arith}
use lib.ListN.{length, take, drop, length-append}
use lib.Seq.{drop-drop}
use lib.Dec.{leb, eqb}
use borrow.Author.Tests.{lt-ltb, le-ltb, lt-leb, le-leb, ne_eqb, eq-eqb, eqb-true}
use Rattle.lists.specs.Pick.{pick}
use Rattle.lists.proofs.Order.{lt_or_le}
use Rattle.lists.proofs.Tests.{cases, never_both, not_true_false}
use Rattle.lists.proofs.PickLaws.{pick_both}
use Rattle.cause.specs.declared.Cause.{Cause}
use Rattle.cause.specs.declared.Cause.TheVariants.{BrokenRecord, TooLong}
use Rattle.record.specs.Number.{read_number, Broken, Value}
use Rattle.record.specs.declared.number.Number.{Number}
use Rattle.ledger.specs.Audit.{auditing}
use Rattle.logs.specs.Log.{ConfigurationAnswer, misconfigures, configures, configuration_at, over, onward, next_of, framed, judged, judged_at}
use Rattle.logs.specs.Stream.{max_entries, whole, settled, ready, closing, stopped_at, stepped, read_from, started, start_by, beginning, Running, valid_state, consuming, Outcome, More, Over}
use Rattle.ledger.specs.Calls.{Entry, AllAccepted, behind, entry_of, Enters}
use Rattle.logs.specs.LogRules.{Enough, Says, passed, Goes, ValidLog, Consumes}
use Rattle.ledger.specs.Calls.Enters.{none, next}
use Rattle.logs.specs.LogRules.Says.{accepts, long, broken, cut, refuses, asks}
use Rattle.logs.specs.LogRules.ValidLog.{fresh, running}
use Rattle.logs.specs.LogRules.Consumes.{invalid, waits, misconfigured, starts, goes_on}
use Rattle.ledger.specs.declared.ledger.Ledger.{Ledger}
use Rattle.logs.specs.declared.log.LogVerdict.TheVariants.{Accepted, Refused}
use Rattle.logs.specs.declared.log.LogReader.{LogReader}
use Rattle.logs.specs.declared.log.Consumed.{Consumed}
use Rattle.ledger.proofs.ValidLedgerLaws.{ledger_exactly}
use Rattle.ledger.proofs.CallLaws.{accepted_front, accepted_back, accepted_more, behind_append}
use Rattle.record.proofs.NumberTakes.{number_takes}
use Rattle.logs.proofs.NumberRuleLaws.{Configuration, good, bad, numbers_set_up, fault_wrong, configuration_numbers}
use Rattle.logs.proofs.LogSteps.{next_at, read_stop, read_over, read_on_steps, ready_last}
use Rattle.logs.proofs.LogStates.{running_valid, valid_running}
use Rattle.logs.proofs.LogCalls.{begin_ended, begin_short, begin_long, call_bad, call_start, call_running}
use Rattle.logs.proofs.CutTheorem.{full_stop, empty_stop, closing_empty, closing_few, closing_full}
use Rattle.cause.specs.Checks as verdict
use Rattle.cause.specs.Checks.{Verdict}
use Rattle.std.specs.Prelude.{Ok, Err, Option, Some, None}

-- ---- an entry that can be judged

ready_by : (e : ℕ) (l : List ℕ) (ended : Bool) → 0 < length l → e < max_entries → settled l ended ≡ true → ready e l ended ≡ true
ready_by e l ended some few h =
    ap (λ (t : Bool). pick t false (pick (leb max_entries e) false (settled l ended))) (ne_eqb (length l) 0 (λ z. omega arith))
    ∙ ap (λ (t : Bool). pick t false (settled l ended)) (lt-leb max_entries e few) ∙ h

enough_settled : (l : List ℕ) (ended : Bool) → Enough l ended → settled l ended ≡ true
enough_settled l ended h =
    ⊎_elim
    (λ (e : ended ≡ true). ap (λ (t : Bool). settled l t) e)
    (λ (q : 261 ≤ length l).
    pick_both (λ (t : Bool). t ≡ true) ended refl (ap (λ (t : Bool). pick t true (whole l (read_number l))) (le-leb 261 (length l) q)))
    h

whole_settled : (l : List ℕ) (ended : Bool) (v u : ℕ) → read_number l ≡ Value v u → u + 256 ≤ length l → settled l ended ≡ true
whole_settled l ended v u g h =
    pick_both (λ (t : Bool). t ≡ true) ended refl
    (pick_both (λ (t : Bool). t ≡ true) (leb 261 (length l)) refl (ap (whole l) g ∙ le-leb (u + 256) (length l) h))

-- ---- what it comes to

module _ (s : Ledger) (e o : ℕ) (l : List ℕ) where
  next_broken : read_number l ≡ Broken → next_of s e o l ≡ over (Refused e BrokenRecord o)
  unfolding next_of
  next_broken g = ap (λ (r : Option Number). framed s e o l r) g

  module _ (v u : ℕ) (g : read_number l ≡ Value v u) where
    next_cut : length l < u + 256 → next_of s e o l ≡ over (Refused e BrokenRecord o)
    unfolding next_of
    next_cut h =
        ap (λ (r : Option Number). framed s e o l r) g
        ∙ ap (λ (t : Bool). pick t (over (Refused e BrokenRecord o)) (judged_at s e (v % 2) l u)) (lt-ltb (length l) (u + 256) h)

    next_refused : (k : Cause) (p : ℕ) → u + 256 ≤ length l → (auditing s (v % 2) (take 256 (drop u l))).answer ≡ verdict.Refused k p
        → next_of s e o l ≡ over (Refused e k p)
    unfolding next_of
    next_refused k p h q =
        ap (λ (r : Option Number). framed s e o l r) g
        ∙ ap (λ (t : Bool). pick t (over (Refused e BrokenRecord o)) (judged_at s e (v % 2) l u)) (le-ltb (length l) (u + 256) h)
        ∙ ap (λ (a : Verdict). judged e (u + 256) (auditing s (v % 2) (take 256 (drop u l))).ledger a) q

    next_takes : u + 256 ≤ length l → (auditing s (v % 2) (take 256 (drop u l))).answer ≡ verdict.Accepted
        → next_of s e o l ≡ onward (auditing s (v % 2) (take 256 (drop u l))).ledger (u + 256)
    unfolding next_of
    next_takes h q =
        ap (λ (r : Option Number). framed s e o l r) g
        ∙ ap (λ (t : Bool). pick t (over (Refused e BrokenRecord o)) (judged_at s e (v % 2) l u)) (le-ltb (length l) (u + 256) h)
        ∙ ap (λ (a : Verdict). judged e (u + 256) (auditing s (v % 2) (take 256 (drop u l))).ledger a) q

-- where an entry is not whole, it is not by its number
not_whole : (l : List ℕ) (r : Option Number) → ((v u : ℕ) → r ≡ Value v u → length l < u + 256) → whole l r ≡ false
not_whole l None h = refl
not_whole l (Some number) h = lt-leb (number.used + 256) (length l) (h number.value number.used refl)

-- ---- where a call stops

module _ (ended : Bool) (b : List ℕ) (at : ℕ) (s : LogReader) where
  abbrev rest : List ℕ
  rest = drop at b

  stops : (k : ℕ) (o : Outcome) → ready s.entries rest ended ≡ false → closing s.entries (length rest) ended ≡ o
      → read_from k ended b at s ≡ stopped_at at s o
  stops k o h c = read_stop k ended b at s h ∙ ap (stopped_at at s) c

  refuses_here : (k : ℕ) (c : Cause) (p : ℕ) → s.entries + k ≡ max_entries → s.entries < max_entries → 0 < length rest → settled rest ended ≡ true
      → next_at s rest ≡ over (Refused s.entries c p) → read_from k ended b at s ≡ stopped_at at s (Over (Refused s.entries c p))
  refuses_here zero c p all few some h e = absurd (omega arith)
  refuses_here (suc k) c p all few some h e = read_over k ended b at s (Refused s.entries c p) (ready_by s.entries rest ended some few h) e

  asks_here : (k : ℕ) → ended ≡ false → (s.entries < max_entries) ⊎ (length rest ≡ 0) → length rest < 261
      → ((v u : ℕ) → read_number rest ≡ Value v u → length rest < u + 256) → read_from k ended b at s ≡ stopped_at at s More
  asks_here k more few short h =
      ⊎_elim
      (λ (z : length rest < 1).
      let nil : length rest ≡ 0 = omega arith in
      stops k More (empty_stop s.entries rest ended nil)
      (closing_empty s.entries (length rest) ended nil ∙ ap (λ (t : Bool). pick t (Over (Accepted s.entries)) More) more))
      (λ (some : 1 ≤ length rest).
      let low : s.entries < max_entries = ⊎_elim (λ (x : s.entries < max_entries). x) (λ (z : length rest ≡ 0). absurd (omega arith)) few in
      stops k More
      (ready_last s.entries rest ended (λ z. omega arith) low more short ∙ not_whole rest (read_number rest) h)
      (ap (λ (t : Bool). closing s.entries (length rest) t) more ∙ closing_few s.entries (length rest) low))
      (lt_or_le (length rest) 1)

  -- what is said is what the call stops with
  says_stops : (k : ℕ) (o : Outcome) → s.entries + k ≡ max_entries → Says s.ledger s.entries s.offset rest ended o → read_from k ended b at s ≡ stopped_at at s o
  says_stops k o all (accepts nil end) =
      stops k (Over (Accepted s.entries)) (empty_stop s.entries rest ended nil)
      (closing_empty s.entries (length rest) ended nil ∙ ap (λ (t : Bool). pick t (Over (Accepted s.entries)) More) end)
  says_stops k o all (long some full) =
      stops k (Over (Refused s.entries TooLong 0)) (full_stop s.entries rest ended full)
      (closing_full s.entries (length rest) ended (λ z. omega arith) full)
  says_stops k o all (broken some few enough g) =
      refuses_here k BrokenRecord s.offset all few some (enough_settled rest ended enough) (next_broken s.ledger s.entries s.offset rest g)
  says_stops k o all (cut v u few end g h) =
      let t = number_takes rest v u g in
      refuses_here k BrokenRecord s.offset all few (omega arith) (enough_settled rest ended (inl end)) (next_cut s.ledger s.entries s.offset rest v u g h)
  says_stops k o all (refuses v u c p few g h q) =
      refuses_here k c p all few (omega arith) (whole_settled rest ended v u g h) (next_refused s.ledger s.entries s.offset rest v u g c p h q)
  says_stops k o all (asks more few short h) = asks_here k more few short h

-- ---- the entries before it

module _ (ended : Bool) (b : List ℕ) (n : ℕ) (s : LogReader) where
  passed_none : s ≡ passed s [] 0
  passed_none = λ i. record { ledger = s.ledger; entries = zeroes s.entries i; offset = zeroes s.offset i }
    where
      zeroes : (m : ℕ) → m ≡ m + 0
      zeroes m = omega arith

  passed_more : (es : List Entry) (m : ℕ) (e : Entry) (u : ℕ)
      → stepped (passed s es m) (auditing (behind s.ledger es) e.direction e.container).ledger u ≡ passed s (es ++ (e ∷ [])) (m + u)
  passed_more es m e u =
      let counts : s.entries + length es + 1 ≡ s.entries + length (es ++ (e ∷ [])) = omega (arith, length-append es (e ∷ [])) in
      let reaches : s.offset + m + u ≡ s.offset + (m + u) = omega arith in
      λ i. record { ledger = sym (behind_append s.ledger es (e ∷ [])) i; entries = counts i; offset = reaches i }

  enters_on : {es : List Entry} {m : ℕ} → Enters (drop n b) es m → AllAccepted s.ledger es → (k : ℕ) → s.entries + length es + k ≡ max_entries
      → read_from (max_entries - s.entries) ended b n s ≡ read_from k ended b (n + m) (passed s es m)
  enters_on none a k all =
      let left : max_entries - s.entries ≡ k = omega arith in
      let here : n ≡ n + 0 = omega arith in
      ap (λ (j : ℕ). read_from j ended b n s) left ∙ ap (λ (j : ℕ). read_from k ended b j s) here ∙ ap (read_from k ended b (n + 0)) passed_none
  enters_on (next {es} {n = m} v u f g h) a k all =
      let e : Entry = entry_of (drop m (drop n b)) v u in
      let one : length (es ++ (e ∷ [])) ≡ length es + 1 = length-append es (e ∷ []) in
      let t = number_takes (drop m (drop n b)) v u g in
      let q = drop-drop m n b in
      let far : n + m + (u + 256) ≡ n + (m + (u + 256)) = omega arith in
      let yes = (accepted_back s.ledger es (e ∷ []) a).0 in
      let after : Ledger = (auditing (behind s.ledger es) e.direction e.container).ledger in
      enters_on f (accepted_front s.ledger es (e ∷ []) a) (suc k) (omega arith)
      ∙ read_on_steps k ended b (n + m) (passed s es m) after (u + 256)
      (ap (λ (l : List ℕ). ready (s.entries + length es) l ended) (sym q)
      ∙ ready_by (s.entries + length es) (drop m (drop n b)) ended (omega arith) (omega arith) (whole_settled (drop m (drop n b)) ended v u g h))
      (ap (next_at (passed s es m)) (sym q) ∙ next_takes (behind s.ledger es) (s.entries + length es) (s.offset + m) (drop m (drop n b)) v u g h yes)
      ∙ ap (λ (j : ℕ). read_from k ended b j (stepped (passed s es m) after (u + 256))) far
      ∙ ap (read_from k ended b (n + (m + (u + 256)))) (passed_more es m e (u + 256))

  -- what the rules say is what it gives
  pub goes_only : (r : Consumed) → Goes s b n ended r → r ≡ read_from (max_entries - s.entries) ended b n s
  goes_only r h =
      let es = h.calls in
      let m = h.bytes in
      let few = h.few in
      sym (enters_on h.front h.accepted (max_entries - (s.entries + length es)) (omega arith)
      ∙ says_stops ended b (n + m) (passed s es m) (max_entries - (s.entries + length es)) r.outcome (omega arith) h.says
      ∙ (λ i. record { reader = sym h.reader i; used = sym h.used i; outcome = r.outcome }))

-- ---- what is said, or the next entry

pub enough_or : (l : List ℕ) (ended : Bool) {A : Type 0} → (Enough l ended → A) → (ended ≡ false → length l < 261 → A) → A
enough_or l ended f g =
    ⊎_elim (λ (t : ended ≡ true). f (inl t))
    (λ (t : ended ≡ false). ⊎_elim (λ (short : length l < 261). g t short) (λ (q : 261 ≤ length l). f (inr q)) (lt_or_le (length l) 261))
    (cases ended)

data Step (s : Ledger) (e o : ℕ) (l : List ℕ) (ended : Bool) : Type 0 where
  said : (r : Outcome) → Says s e o l ended r → Step s e o l ended
  taken : (v u : ℕ) → e < max_entries → read_number l ≡ Value v u → u + 256 ≤ length l → (auditing s (v % 2) (take 256 (drop u l))).answer ≡ verdict.Accepted
      → Step s e o l ended

module _ (s : Ledger) (e o : ℕ) (l : List ℕ) (ended : Bool) where
  step_answer : (v u : ℕ) → e < max_entries → read_number l ≡ Value v u → u + 256 ≤ length l → (a : Verdict) → (auditing s (v % 2) (take 256 (drop u l))).answer ≡ a
      → Step s e o l ended
  step_answer v u few g h (Err fault) q = said (Over (Refused e fault.cause fault.place)) (refuses v u fault.cause fault.place few g h q)
  step_answer v u few g h (Ok _) q = taken v u few g h q

  step_number : 0 < length l → e < max_entries → (r : Option Number) → read_number l ≡ r → Step s e o l ended
  step_number some few None g =
      enough_or l ended (λ enough. said (Over (Refused e BrokenRecord o)) (broken some few enough g))
      (λ more short. said More (asks more (inl few) short (λ v u h. absurd (let z : ◌≡◌ {A = ℕ} 0 1 = cc in omega arith))))
  step_number some few (Some number) g =
      ⊎_elim
      (λ (short : length l < number.used + 256). ⊎_elim
      (λ (t : ended ≡ true). said (Over (Refused e BrokenRecord o)) (cut number.value number.used few t g short))
      (λ (f : ended ≡ false).
      let five = number_takes l number.value number.used g in
      said More (asks f (inl few) (omega arith) (λ x y h. let same : number.used ≡ y = cc in omega arith)))
      (cases ended))
      (λ (q : number.used + 256 ≤ length l). step_answer number.value number.used few g q (auditing s (number.value % 2) (take 256 (drop number.used l))).answer refl)
      (lt_or_le (length l) (number.used + 256))

  step_of : Step s e o l ended
  step_of =
      ⊎_elim
      (λ (z : length l < 1). ⊎_elim
      (λ (t : ended ≡ true). said (Over (Accepted e)) (accepts (omega arith) t))
      (λ (f : ended ≡ false). said More (asks f (inr (omega arith)) (omega arith) (λ v u h. omega arith)))
      (cases ended))
      (λ (some : 1 ≤ length l). ⊎_elim
      (λ (few : e < max_entries). step_number some few (read_number l) refl)
      (λ (full : max_entries ≤ e). said (Over (Refused e TooLong 0)) (long some full))
      (lt_or_le e max_entries))
      (lt_or_le (length l) 1)

-- ---- the entries of a call

module _ (ended : Bool) (b : List ℕ) (n : ℕ) (s : LogReader) where
  abbrev whole_call : Consumed
  whole_call = read_from (max_entries - s.entries) ended b n s

  -- behind entries that are accepted, k of them are still allowed
  goes_step : (k : ℕ) (es : List Entry) (m : ℕ) → Enters (drop n b) es m → AllAccepted s.ledger es → s.entries + length es + k ≡ max_entries
      → ((v u : ℕ) → s.entries + length es < max_entries → read_number (drop m (drop n b)) ≡ Value v u → u + 256 ≤ length (drop m (drop n b))
      → AllAccepted s.ledger (es ++ (entry_of (drop m (drop n b)) v u ∷ [])) → Goes s b n ended whole_call)
      → Step (behind s.ledger es) (s.entries + length es) (s.offset + m) (drop m (drop n b)) ended → Goes s b n ended whole_call
  goes_step k es m f a all go (said r says) =
      let here = subst (λ (l : List ℕ). Says (behind s.ledger es) (s.entries + length es) (s.offset + m) l ended r) (drop-drop m n b) says in
      subst (Goes s b n ended)
      (sym (enters_on ended b n s f a k all ∙ says_stops ended b (n + m) (passed s es m) k r all here))
      (record { calls = es; bytes = m; front = f; few = omega arith; accepted = a; reader = refl; used = refl; says = here })
  goes_step k es m f a all go (taken v u few g h q) =
      go v u few g h (accepted_more s.ledger es (entry_of (drop m (drop n b)) v u) a q)

  goes_from : (k : ℕ) (es : List Entry) (m : ℕ) → Enters (drop n b) es m → AllAccepted s.ledger es → s.entries + length es + k ≡ max_entries
      → Goes s b n ended whole_call
  goes_from zero es m f a all =
      goes_step zero es m f a all (λ v u few g h more. absurd (omega arith))
      (step_of (behind s.ledger es) (s.entries + length es) (s.offset + m) (drop m (drop n b)) ended)
  goes_from (suc k) es m f a all =
      goes_step (suc k) es m f a all
      (λ v u few g h more.
      let one : length (es ++ (entry_of (drop m (drop n b)) v u ∷ [])) ≡ length es + 1 = length-append es (entry_of (drop m (drop n b)) v u ∷ []) in
      goes_from k (es ++ (entry_of (drop m (drop n b)) v u ∷ [])) (m + (u + 256)) (next v u f g h) more (omega arith))
      (step_of (behind s.ledger es) (s.entries + length es) (s.offset + m) (drop m (drop n b)) ended)

  -- the rules say what it gives
  goes_follows : s.entries ≤ max_entries → Goes s b n ended whole_call
  goes_follows few = goes_from (max_entries - s.entries) [] 0 none tt (omega arith)

-- ---- a call

module _ (s : LogReader) where
  before_by : (t : Bool) → eqb s.offset 0 ≡ t → valid_state s ≡ true → ValidLog s
  unfolding valid_state
  before_by true e v = fresh (eqb-true s.offset 0 e) (eqb-true s.entries 0 (rw e at v))
  before_by false e v =
      let r : Running s = valid_running s v (λ z. never_both e (eq-eqb s.offset 0 z)) in
      running r.few r.far r.near ((ledger_exactly s.ledger).0 r.kept)

  log_valid : ValidLog s → valid_state s ≡ true
  unfolding valid_state
  log_valid (fresh z e) = rw (eq-eqb s.offset 0 z) (eq-eqb s.entries 0 e)
  log_valid (running few far near kept) =
      running_valid s (record { few = few; far = far; near = near; kept = (ledger_exactly s.ledger).1 kept })

  pub valid_exactly : (valid_state s ≡ true) ↔ ValidLog s
  valid_exactly = (before_by (eqb s.offset 0) refl, log_valid)

  runs : ValidLog s → 0 < s.offset → Running s
  runs v some = valid_running s (log_valid v) (λ z. omega arith)

module _ (s : LogReader) (b : List ℕ) (ended : Bool) where
  begins : Enough b ended → beginning s b ended ≡ start_by s b ended (configuration_at b)
  begins h =
      ⊎_elim (λ (t : ended ≡ true). begin_ended s b ended t)
      (λ (q : 261 ≤ length b). ⊎_elim (λ (t : ended ≡ true). begin_ended s b ended t) (λ (f : ended ≡ false). begin_long s b ended f q) (cases ended))
      h

  -- by what the configuration comes to
  begins_with : (t : ConfigurationAnswer) → valid_state s ≡ true → s.offset ≡ 0 → Enough b ended → configuration_at b ≡ t → consuming s b ended ≡ start_by s b ended t
  begins_with t v z h e = call_start s b ended v z ∙ begins h ∙ ap (start_by s b ended) e

  -- what the rules say is what it gives
  pub consume_only : (r : Consumed) → Consumes s b ended r → r ≡ consuming s b ended
  consume_only r (invalid no-state) = sym (call_bad s b ended (not_true_false (valid_state s) (λ t. no-state ((valid_exactly s).0 t))))
  consume_only r (waits v z h) =
      sym (call_start s b ended (log_valid s v) z
      ∙ begin_short s b ended (not_true_false ended (λ t. h (inl t)))
      (⊎_elim (λ (short : length b < 261). short) (λ (q : 261 ≤ length b). absurd (h (inr q))) (lt_or_le (length b) 261)))
  consume_only r (misconfigured k p v z h f) = sym (begins_with (misconfigures k p) (log_valid s v) z h (fault_wrong b f))
  consume_only r (starts ns n v z h f full g) =
      goes_only ended b n (started ns n) r g ∙ sym (begins_with (configures ns n) (log_valid s v) z h (numbers_set_up b f full))
  consume_only r (goes_on v some g) = goes_only ended b 0 s r g ∙ sym (call_running s b ended (runs s v some))

  follows : {r : Consumed} → Consumes s b ended r → Consumes s b ended (consuming s b ended)
  follows {r} h = subst (Consumes s b ended) (consume_only r h) h

  follows_start : ValidLog s → s.offset ≡ 0 → Enough b ended → Configuration b → Consumes s b ended (consuming s b ended)
  follows_start v z h (bad k p f) = follows (misconfigured k p v z h f)
  follows_start v z h (good ns n f full) = follows (starts ns n v z h f full (goes_follows ended b n (started ns n) (omega arith)))

  -- the rules say what it gives
  pub consume_follows : Consumes s b ended (consuming s b ended)
  consume_follows =
      ⊎_elim
      (λ (v : valid_state s ≡ true). ⊎_elim
      (λ (z : s.offset < 1).
      enough_or b ended (λ h. follows_start ((valid_exactly s).0 v) (omega arith) h (configuration_numbers b))
      (λ more short. follows (waits ((valid_exactly s).0 v) (omega arith)
      (⊎_elim (λ (t : ended ≡ true). never_both more t) (λ (q : 261 ≤ length b). omega arith)))))
      (λ (some : 1 ≤ s.offset).
      follows (goes_on ((valid_exactly s).0 v) some (goes_follows ended b 0 s (runs s ((valid_exactly s).0 v) some).few)))
      (lt_or_le s.offset 1))
      (λ (f : valid_state s ≡ false). follows (invalid (λ v. never_both f (log_valid s v))))
      (cases (valid_state s))
