-- The verdict on a whole log, by the entries that are accepted. Assumes nothing.
use Prim.Native.Nat.{ℕ, ◌+◌, ◌≤◌}
use mathlib.Core.Path.{◌≡◌, refl, sym, ap, subst, ◌∙◌}
use mathlib.Core.Bool.{true}
use mathlib.Core.List.{List}
use mathlib.Core.Logic.{◌⊎◌, inl, inr, ⊎_elim}
use native.Mathlib.Omega.{arith}
use lib.ListN.{length, get_or, drop}
use lib.Seq.{drop-drop}
use Rattle.cause.specs.declared.Cause.{Cause}
use Rattle.cause.specs.declared.Cause.TheVariants.{BrokenRecord, TooLong}
use Rattle.record.specs.Number.{read_number, Value}
use Rattle.ledger.specs.Audit.{auditing}
use Rattle.logs.specs.Log.{receiver_at, ledger_of, log_verdict}
use Rattle.logs.specs.Stream.{max_entries, started, stopped_at, fresh_reader, Outcome, Over}
use Rattle.ledger.specs.Calls.{behind, entry_of}
use Rattle.logs.specs.LogRules.{Numbers, ConfigurationFault, Says, passed, Goes, Consumes}
use Rattle.logs.specs.LogRules.ConfigurationFault.{broken as number-broken, invalid as number-invalid}
use Rattle.ledger.specs.Calls.Enters.{next}
use Rattle.logs.specs.LogRules.Says.{accepts, long, broken, cut, refuses, asks}
use Rattle.logs.specs.LogRules.ValidLog.{fresh}
use Rattle.logs.specs.LogRules.Consumes.{invalid, waits, misconfigured, starts, goes_on}
use Rattle.logs.specs.WholeLog.{BegunLog, AcceptedLog, RefusedLog, Framing}
use Rattle.logs.specs.WholeLog.Framing.{broken_record, too_long, invalid_state}
use Rattle.ledger.specs.declared.ledger.Ledger.{Ledger}
use Rattle.logs.specs.declared.log.LogVerdict.{LogVerdict}
use Rattle.logs.specs.declared.log.LogVerdict.TheVariants.{Accepted, Refused}
use Rattle.logs.specs.declared.log.Consumed.{Consumed}
use Rattle.ledger.proofs.ValidLedgerLaws.{configured_exactly}
use Rattle.logs.proofs.ConfigurationValid.{configuration_configured}
use Rattle.logs.proofs.NumberRuleLaws.{numbers_set_up}
use Rattle.logs.proofs.LogRuleLaws.{consume_only, consume_follows}
use Rattle.logs.proofs.CutTheorem.{whole_log}
use Rattle.cause.specs.Checks as verdict

-- ---- what a verdict comes from

-- a configuration that is not taken, or the entries behind one that is
data Seen (l : List ℕ) (v : LogVerdict) : Type 0 where
  faulty : (k : Cause) (p : ℕ) → ConfigurationFault l k p → v ≡ Refused 0 k p → Seen l v
  entered : (ns : List ℕ) (w : ℕ) → Numbers l ns w → length ns ≡ 33 → (r : Consumed) → Goes (started ns w) l w true r → r.outcome ≡ Over v → Seen l v

seen_by : (l : List ℕ) {r : Consumed} → Consumes fresh_reader l true r → (v : LogVerdict) → r.outcome ≡ Over v → Seen l v
seen_by l (invalid bad) v e = absurd (bad (fresh refl refl))
seen_by l (waits a z h) v e = absurd (h (inl refl))
seen_by l (misconfigured k p a z h f) v e = faulty k p f cc
seen_by l {r} (starts ns w a z h f full g) v e = entered ns w f full r g e
seen_by l (goes_on a some g) v e = absurd (omega arith)

seen : (l : List ℕ) (v : LogVerdict) → log_verdict max_entries l ≡ v → Seen l v
seen l v h = seen_by l (consume_follows fresh_reader l true) v (whole_log l ∙ ap Over h)

abbrev begun_log : (l ns : List ℕ) (w : ℕ) → Numbers l ns w → length ns ≡ 33 → (r : Consumed) (g : Goes (started ns w) l w true r) (n : ℕ) → 0 + length g.calls ≡ n → BegunLog l n
begun_log l ns w f full r g n e = record {
  numbers = ns;
  width = w;
  taken = f;
  full = full;
  valid = (configured_exactly (get_or ns 0 0) (receiver_at ns 1) (receiver_at ns 17)).0 (configuration_configured l ns w (numbers_set_up l f full));
  calls = g.calls;
  bytes = g.bytes;
  front = g.front;
  count = omega arith;
  accepted = g.accepted;
}

-- ---- accepted

clash : {A : Type 0} → ◌≡◌ {A = ℕ} 0 1 → A
clash z = absurd (omega arith)

says_accepted : {s : Ledger} {e q : ℕ} {m : List ℕ} {o : Outcome} (n : ℕ) → Says s e q m true o → o ≡ Over (Accepted n) → (e ≡ n) × (length m ≡ 0)
says_accepted n (accepts nil end) h = (cc, nil)
says_accepted n (long some full) h = clash cc
says_accepted n (broken some few enough g) h = clash cc
says_accepted n (cut v u few end g short) h = clash cc
says_accepted n (refuses v u k p few g q t) h = clash cc
says_accepted n (asks more few short g) h = clash cc

pub accepted_only : (l : List ℕ) (n : ℕ) → log_verdict max_entries l ≡ Accepted n → AcceptedLog l n
accepted_only l n h = by (seen l (Accepted n) h)
  where
    by : Seen l (Accepted n) → AcceptedLog l n
    by (faulty k p f e) = clash cc
    by (entered ns w f full r g e) =
        let t = says_accepted n g.says e in
        let few = g.few in
        let same = t.0 in
        record { begun = begun_log l ns w f full r g n t.0; few = omega arith; whole = t.1 }

pub accepted_if : (l : List ℕ) (n : ℕ) → AcceptedLog l n → log_verdict max_entries l ≡ Accepted n
accepted_if l n a =
    let x = a.begun in
    let s = started x.numbers x.width in
    let r : Consumed = stopped_at (x.width + x.bytes) (passed s x.calls x.bytes) (Over (Accepted (0 + length x.calls))) in
    let c : 0 + length x.calls ≡ n = omega (arith, x.count) in
    let g : Goes s l x.width true r = record {
      calls = x.calls;
      bytes = x.bytes;
      front = x.front;
      few = omega (arith, a.few);
      accepted = x.accepted;
      reader = refl;
      used = refl;
      says = accepts a.whole refl;
    } in
    let q = consume_only fresh_reader l true r (starts x.numbers x.width (fresh refl refl) refl (inl refl) x.taken x.full g) in
    let same : Over (log_verdict max_entries l) ≡ Over (Accepted (0 + length x.calls)) = sym (whole_log l) ∙ sym (ap (λ (y : Consumed). y.outcome) q) in
    let said : log_verdict max_entries l ≡ Accepted (0 + length x.calls) = cc in
    said ∙ ap Accepted c

-- ---- refused

-- the audit refuses the entry at the front
record Refusing (s : Ledger) (m : List ℕ) (k : Cause) (p : ℕ) : Type 0 where
  value : ℕ
  u : ℕ
  got : read_number m ≡ Value value u
  there : u + 256 ≤ length m
  answered : (auditing s (entry_of m value u).direction (entry_of m value u).container).answer ≡ verdict.Refused k p

says_refused : {s : Ledger} {e q : ℕ} {m : List ℕ} {o : Outcome} (n : ℕ) (k : Cause) (p : ℕ) → Says s e q m true o → o ≡ Over (Refused n k p)
    → (e ≡ n) × (Framing k ⊎ Refusing s m k p)
says_refused n k p (accepts nil end) h = clash cc
says_refused n k p (long some full) h = (cc, inl (let c : TooLong ≡ k = cc in subst Framing c too_long))
says_refused n k p (broken some few enough g) h = (cc, inl (let c : BrokenRecord ≡ k = cc in subst Framing c broken_record))
says_refused n k p (cut v u few end g short) h = (cc, inl (let c : BrokenRecord ≡ k = cc in subst Framing c broken_record))
says_refused n k p (refuses v u c i few g q t) h =
    let same : verdict.Refused c i ≡ verdict.Refused k p = cc in
    (cc, inr (record { value = v; u = u; got = g; there = q; answered = t ∙ same }))
says_refused n k p (asks more few short g) h = clash cc

fault_framing : {l : List ℕ} {k : Cause} {p : ℕ} → ConfigurationFault l k p → Framing k
fault_framing (number-broken ns n f low e) = broken_record
fault_framing (number-invalid ns n v u f low e bad) = invalid_state

module _ (l : List ℕ) (n : ℕ) (k : Cause) (p : ℕ) (h : log_verdict max_entries l ≡ Refused n k p) where
  -- the configuration is refused, or entries are accepted before the refusal
  pub begun_before : (ConfigurationFault l k p × (n ≡ 0)) ⊎ BegunLog l n
  begun_before = by (seen l (Refused n k p) h)
    where
      by : Seen l (Refused n k p) → (ConfigurationFault l k p × (n ≡ 0)) ⊎ BegunLog l n
      by (faulty c q f e) =
          let same : c ≡ k = cc in
          let place : q ≡ p = cc in
          inl (subst (ConfigurationFault l k) place (subst (λ (x : Cause). ConfigurationFault l x q) same f), cc)
      by (entered ns w f full r g e) = inr (begun_log l ns w f full r g n (says_refused n k p g.says e).0)

  -- by a reading or pool cause: the audit refuses the next entry
  pub refused_only : (Framing k → ⊥) → RefusedLog l n k p
  refused_only own = by (seen l (Refused n k p) h)
    where
      next_refused : (ns : List ℕ) (w : ℕ) → Numbers l ns w → length ns ≡ 33 → (r : Consumed) (g : Goes (started ns w) l w true r) → 0 + length g.calls ≡ n
          → Refusing (behind (ledger_of ns) g.calls) (drop g.bytes (drop w l)) k p → RefusedLog l n k p
      next_refused ns w f full r g e x = record {
        begun = begun_log l ns w f full r g n e;
        next = entry_of (drop g.bytes (drop w l)) x.value x.u;
        bytes = g.bytes + (x.u + 256);
        front = next x.value x.u g.front x.got x.there;
        refused = x.answered;
      }

      by : Seen l (Refused n k p) → RefusedLog l n k p
      by (faulty c q f e) = let same : c ≡ k = cc in absurd (own (subst Framing same (fault_framing f)))
      by (entered ns w f full r g e) =
          let t = says_refused n k p g.says e in
          ⊎_elim (λ (x : Framing k). absurd (own x))
          (λ (x : Refusing (behind (ledger_of ns) g.calls) (drop (w + g.bytes) l) k p).
          next_refused ns w f full r g t.0
          (subst (λ (m : List ℕ). Refusing (behind (ledger_of ns) g.calls) m k p) (sym (drop-drop g.bytes w l)) x))
          t.1
