-- A chain of turns gives the verdict on all that was read, and each of its turns but the last reads at least a byte. Assumes nothing.
use Prim.Native.Nat.{ℕ, ◌+◌, ◌-◌, ◌≤◌, ◌<◌}
use mathlib.Core.Path.{◌≡◌, refl, sym, ap, ◌∙◌}
use mathlib.Core.Bool.{Bool, true, false}
use mathlib.Core.List.{List, [], ◌++◌, append_assoc, append-nil}
use mathlib.Core.Logic.{⊎_elim}
use native.Mathlib.Omega.{arith}
use lib.ListN.{length, take, drop, length-append, length-drop, take-append-drop}
use lib.Seq.{drop-append-le, take_at}
use lib.Dec.{eqb}
use borrow.Author.Tests.{eqb-true, eqb-false, ne_eqb, eq-eqb}
use Rattle.std.specs.Prelude.{None, Some}
use Rattle.lists.proofs.Tests.{cases}
use Rattle.logs.specs.Log.{log_verdict}
use Rattle.logs.specs.Stream.{max_entries, consuming, verdict_from, Outcome}
use Rattle.logs.specs.Cutting.{told}
use Rattle.logs.specs.declared.log.LogReader.{LogReader}
use Rattle.logs.specs.declared.log.LogVerdict.{LogVerdict}
use Rattle.logs.specs.Stream as outcome
use Rattle.logs.proofs.CutTheorem.{consume_ended, consume_cut, consume_within, consume_short, fresh_verdict}
use Rattle.audit.specs.Turns.{turn_by, left_by, Turned, Turns, none, more, Judged}
use Rattle.audit.specs.declared.Turn.{Turn}
use Rattle.audit.proofs.OffsetLaws.{most_bytes, consume_counted}

-- ---- one turn

module _ (s : LogReader) (left window : List ℕ) (r : Turn) (t : Turned s left window r) where
  abbrev b : List ℕ
  b = left ++ t.read

  called : (ended : Bool) → eqb (length t.read) 0 ≡ ended → r ≡ turn_by (length b) (consuming s b ended)
  called ended e = t.call ∙ ap (λ (x : Bool). turn_by (length b) (consuming s b x)) e

  outcome_by : (ended : Bool) → eqb (length t.read) 0 ≡ ended → r.verdict ≡ (consuming s b ended).outcome
  outcome_by ended e = ap (λ (x : Turn). x.verdict) (called ended e)

  -- where the log has ended, the call gives the verdict
  ended_over : eqb (length t.read) 0 ≡ true → r.verdict ≡ Some (verdict_from s b)
  ended_over e = outcome_by true e ∙ consume_ended s b

  -- a turn that goes on has read something, and leaves what its call has not used
  abbrev pub used : ℕ
  used = (consuming s b false).used

  pub record Onward : Type 0 where
    pub some : length t.read ≡ 0 → ⊥
    pub asks : (consuming s b false).outcome ≡ outcome.More
    pub state : r.reader ≡ (consuming s b false).reader
    pub start : r.at ≡ used
    pub end : r.have ≡ length b

  onward_by : r.verdict ≡ None → (ended : Bool) → eqb (length t.read) 0 ≡ ended → Onward
  onward_by on true e =
      let over : r.verdict ≡ Some (verdict_from s b) = ended_over e in
      cc
  onward_by on false e =
      record {
        some = eqb-false (length t.read) 0 e;
        asks = sym (outcome_by false e) ∙ on;
        state = ap (λ (x : Turn). x.reader) (called false e);
        start = ap (λ (x : Turn). x.at) (called false e);
        end = ap (λ (x : Turn). x.have) (called false e);
      }

  pub onward : r.verdict ≡ None → Onward
  onward on = onward_by on (eqb (length t.read) 0) refl

  left_is : Onward → left_by window r ≡ drop used b
  left_is o =
      let within = consume_within s b false in
      let split : window ≡ b ++ drop (length b) window =
      sym (take-append-drop (length b) window) ∙ ap (λ (l : List ℕ). l ++ drop (length b) window) t.at_hand in
      ap (λ (k : ℕ). take (r.have - k) (drop k window)) o.start
      ∙ ap (λ (k : ℕ). take (k - used) (drop used window)) o.end
      ∙ ap (λ (l : List ℕ). take (length b - used) (drop used l)) split
      ∙ ap (take (length b - used)) (drop-append-le used b (drop (length b) window) within)
      ∙ take_at (drop used b) (drop (length b) window) (length b - used) (length-drop used b)

  -- what comes behind is judged as before
  onward_verdict : Onward → (m : List ℕ) → verdict_from r.reader (left_by window r ++ m) ≡ verdict_from s (left ++ (t.read ++ m))
  onward_verdict o m =
      ap (λ (x : LogReader). verdict_from x (left_by window r ++ m)) o.state
      ∙ ap (λ (l : List ℕ). verdict_from (consuming s b false).reader (l ++ m)) (left_is o)
      ∙ ap (λ (x : Outcome). told x (verdict_from (consuming s b false).reader (drop used b ++ m))) (sym o.asks)
      ∙ sym (consume_cut s b m)
      ∙ ap (verdict_from s) (append_assoc left t.read m)

  -- the verdict of a turn
  over_verdict : (v : LogVerdict) → r.verdict ≡ Some v → (length t.read ≡ 0 → ⊥) → (m : List ℕ)
      → v ≡ verdict_from s (left ++ (t.read ++ m))
  over_verdict v over some m =
      let e : (consuming s b false).outcome ≡ outcome.Over v =
      sym (outcome_by false (ne_eqb (length t.read) 0 some)) ∙ over in
      sym (ap (λ (x : Outcome). told x (verdict_from (consuming s b false).reader (drop used b ++ m))) e)
      ∙ sym (consume_cut s b m)
      ∙ ap (verdict_from s) (append_assoc left t.read m)

  ended_verdict : (v : LogVerdict) → r.verdict ≡ Some v → length t.read ≡ 0 → v ≡ verdict_from s (left ++ (t.read ++ []))
  ended_verdict v over empty =
      let e : r.verdict ≡ Some (verdict_from s b) = ended_over (eq-eqb (length t.read) 0 empty) in
      let same : v ≡ verdict_from s b = cc in
      same ∙ ap (λ (l : List ℕ). verdict_from s (left ++ l)) (sym (append-nil t.read))

-- ---- the chain

-- the state and the bytes left stand for all that was read
turns_verdict : {l left : List ℕ} {s : LogReader} → Turns l s left → (m : List ℕ) → verdict_from s (left ++ m) ≡ log_verdict max_entries (l ++ m)
turns_verdict none m = fresh_verdict m
turns_verdict (more {l} {left} {s} ts window r t on) m =
    onward_verdict s left window r t (onward s left window r t on) m
    ∙ turns_verdict ts (t.read ++ m)
    ∙ ap (log_verdict max_entries) (sym (append_assoc l t.read m))

-- where the last read gave something, the verdict is that on all that was read with anything behind it
pub verdict_early : (l : List ℕ) (v : LogVerdict) (j : Judged l v) → (length j.last.read ≡ 0 → ⊥) → (m : List ℕ)
    → v ≡ log_verdict max_entries (l ++ m)
verdict_early l v j some m =
    let read = j.last.read in
    over_verdict j.s j.left j.window j.r j.last v j.over some m
    ∙ turns_verdict j.turns (read ++ m)
    ∙ ap (log_verdict max_entries) (sym (append_assoc j.before read m) ∙ ap (λ (x : List ℕ). x ++ m) (sym j.all))

ended_whole : (l : List ℕ) (v : LogVerdict) (j : Judged l v) → length j.last.read ≡ 0 → v ≡ log_verdict max_entries l
ended_whole l v j empty =
    let read = j.last.read in
    ended_verdict j.s j.left j.window j.r j.last v j.over empty
    ∙ turns_verdict j.turns (read ++ [])
    ∙ ap (log_verdict max_entries) (ap (λ (x : List ℕ). j.before ++ x) (append-nil read) ∙ sym j.all)

-- the verdict is that on all that was read
pub verdict_whole : (l : List ℕ) (v : LogVerdict) → Judged l v → v ≡ log_verdict max_entries l
verdict_whole l v j =
    let n = length j.last.read in
    ⊎_elim
    (λ (e : eqb n 0 ≡ true). ended_whole l v j (eqb-true n 0 e))
    (λ (e : eqb n 0 ≡ false). verdict_early l v j (eqb-false n 0 e) [] ∙ ap (log_verdict max_entries) (append-nil l))
    (cases (eqb n 0))

-- ---- the turns end

-- no more is used than the longest log has, and fewer than 261 bytes are left
pub turns_bounded : {l left : List ℕ} {s : LogReader} → Turns l s left → (s.offset ≤ most_bytes) × (length left < 261)
turns_bounded none = (omega arith, omega arith)
turns_bounded (more {l} {left} {s} ts window r t on) =
    let o = onward s left window r t on in
    let c = consume_counted s (left ++ t.read) false in (
      rw o.state (c.within (turns_bounded ts).0),
      rw (left_is s left window r t o, length-drop) (consume_short s (left ++ t.read) o.asks),
    )

-- the bytes used and left, of which there are more behind each turn
pub turn_less : {l left : List ℕ} {s : LogReader} → Turns l s left → (window : List ℕ) (r : Turn) → Turned s left window r
    → r.verdict ≡ None → (most_bytes + 261) - (r.reader.offset + (r.have - r.at)) < (most_bytes + 261) - (s.offset + length left)
turn_less {l} {left} {s} ts window r t on =
    let o = onward s left window r t on in
    let b = left ++ t.read in
    let offset : r.reader.offset ≡ s.offset + (consuming s b false).used =
    ap (λ (x : LogReader). x.offset) o.state ∙ (consume_counted s b false).adds in
    let most-used = (turns_bounded (more ts window r t on)).0 in
    let few = consume_short s b o.asks in
    let within = consume_within s b false in
    let some : 0 < length t.read = omega (arith, o.some) in
    omega (arith, o.start, o.end, length-append left t.read)
