-- What the loop keeps from turn to turn. Assumes nothing.
use Prim.Native.Nat.{ℕ, ◌+◌, ◌-◌, ◌≤◌, ◌<◌}
use mathlib.Core.Path.{◌≡◌, refl, sym, ap, subst}
use mathlib.Core.Bool.{false}
use mathlib.Core.List.{List, [], ◌++◌}
use native.Mathlib.Omega.{arith}
use lib.ListN.{length, take, length-take}
use Rattle.lists.specs.Parts.{part}
use Rattle.lists.proofs.PartLaws.{length_part}
use Rattle.logs.specs.Stream.{fresh_reader}
use Rattle.logs.specs.declared.log.LogReader.{LogReader}
use Rattle.logs.specs.declared.log.LogVerdict.{LogVerdict}
use Rattle.logs.proofs.CutTheorem.{consume_within}
use Rattle.audit.specs.Turns.{Turned, Turns, none, more, Audited}
use Rattle.std.specs.Prelude.{None, Some}
use Rattle.audit.specs.declared.Turn.{Turn}
use Rattle.audit.proofs.OffsetLaws.{most_bytes}
use Rattle.audit.proofs.TurnTheorem.{onward, turns_bounded, turn_less}

-- a chain of turns has led to the state, and what is left of it stands in the window from `at` up to `have`
pub record Between (window : List ℕ) (s : LogReader) (at have : ℕ) : Type 0 where
  pub l : List ℕ
  pub turns : Turns l s (part at (have - at) window)
  pub order : at ≤ have
  pub within : have ≤ length window

pub between_start : (window : List ℕ) (s : LogReader) → s ≡ fresh_reader → Between window s 0 0
between_start window s e =
    record { l = []; turns = subst (λ (x : LogReader). Turns [] x []) (sym e) none; order = omega arith; within = omega arith }

-- what a turn measures: the bytes that the longest log has beyond those used and left
abbrev pub measure : LogReader → ℕ → ℕ → ℕ
measure s at have = (most_bytes + 261) - (s.offset + (have - at))

module _ (before : List ℕ) (s : LogReader) (at have : ℕ) (h : Between before s at have) where
  abbrev left : List ℕ
  left = part at (have - at) before

  left_length : length left ≡ have - at
  left_length = let o = h.order in let w = h.within in length_part at (have - at) before (omega arith)

  pub few_left : have - at < 261
  few_left = let n = left_length in let few = (turns_bounded h.turns).1 in omega arith

  module _ (window : List ℕ) (r : Turn) (t : Turned s left window r) where
    pub between_more : r.verdict ≡ None → Between window r.reader r.at r.have
    between_more on =
        let b = left ++ t.read in
        let o = onward s left window r t on in
        let used = consume_within s b false in
        let long : length (take (length b) window) ≡ length b = ap length t.at_hand in
        record {
          l = h.l ++ t.read;
          turns = more h.turns window r t on;
          order = omega (arith, o.start, o.end);
          within = omega (arith, o.end, length-take (length b) window);
        }

    pub measure_less : r.verdict ≡ None → measure r.reader r.at r.have < measure s at have
    measure_less on = rw left_length at (turn_less h.turns window r t on)

    pub judged : (v : LogVerdict) → r.verdict ≡ Some v → Audited v
    judged v over = (
      h.l ++ t.read,
      record {
        before = h.l;
        left = left;
        window = window;
        s = s;
        r = r;
        turns = h.turns;
        last = t;
        over = over;
        all = refl;
      },
    )
