-- The texts of a chain of turns are the text for what they have read. Assumes nothing.
use Prim.Native.Nat.{ℕ}
use mathlib.Core.Path.{◌≡◌, refl, sym, ap, ◌∙◌, subst}
use mathlib.Core.Bool.{Bool, true, false}
use mathlib.Core.List.{List, ◌++◌, append_assoc, append-nil}
use Rattle.std.specs.Prelude.{Option, None, Some}
use Rattle.lists.proofs.Tests.{never_both}
use Rattle.unpacker.specs.Unpacking.{unpack_text}
use Rattle.unpacker.specs.Stepping.{turn, text_from}
use Rattle.unpacker.specs.Stepping.{Turn as Call}
use Rattle.unpacker.specs.Cutting.{behind, left_by}
use Rattle.unpacker.specs.declared.unpack.Unpacker.{Unpacker}
use Rattle.unpacker.specs.declared.unpack.Outcome.{Outcome}
use Rattle.unpacker.specs.declared.unpack.Outcome.TheVariants as outcome
use Rattle.unpacker.proofs.CallTheorem.{Ends, one_call}
use Rattle.unpacker.proofs.CutTheorem.{Steps, stops, goes, waits, turn_steps, fresh_text}
use Rattle.unpack.specs.Turns.{held, Filled, got, end, Follows, Turned, Turns, none, next, more, last, Told, Ended}
use Rattle.unpack.specs.declared.Window.{Window}
use Rattle.unpack.specs.declared.Turn.{Turn}

-- ---- the theorem

-- a call whose outcome is known
call_told : (s : Unpacker) (b m : List ℕ) (ended : Bool) (o : Outcome) → Ends ended m → (turn s b ended).outcome ≡ o
    → let t = turn s b ended in
    text_from s (b ++ m) ≡ t.text ++ behind o (text_from t.next (left_by t b ++ m)) (text_from t.next (left_by t b ++ m))
call_told s b m ended o ends e =
    let t = turn s b ended in
    let rest = text_from t.next (left_by t b ++ m) in
    one_call s b m ended ends ∙ ap (λ (q : Outcome). t.text ++ behind q rest rest) e

not_ended : (m : List ℕ) → Ends false m
not_ended m e = absurd (never_both refl e)

-- whatever follows, the text for the whole is the texts of the turns and then the text from their state on
pub turns_text : {l text b : List ℕ} {s : Unpacker} {ended : Bool} → Turns l text s b ended → (m : List ℕ) → Ends ended m
    → unpack_text (l ++ m) ≡ text ++ text_from s (b ++ m)
turns_text none m ends = sym (fresh_text m)
turns_text (next {l = l} {text = text} {b = b} {s = s} {ended = ended} ts e) m ends =
    let t = turn s b ended in
    turns_text ts m ends ∙ ap (λ (x : List ℕ). text ++ x) (call_told s b m ended outcome.Next ends e)
    ∙ sym (append_assoc text t.text (text_from t.next (left_by t b ++ m)))
turns_text (more {l = l} {text = text} {b = b} {s = s} ts e p) m ends =
    let t = turn s b false in
    ap unpack_text (append_assoc l p m) ∙ turns_text ts (p ++ m) (not_ended (p ++ m))
    ∙ ap (λ (x : List ℕ). text ++ x) (call_told s b (p ++ m) false outcome.More (not_ended (p ++ m)) e)
    ∙ ap (λ (x : List ℕ). text ++ (t.text ++ text_from t.next x)) (sym (append_assoc (left_by t b) p m))
    ∙ sym (append_assoc text t.text (text_from t.next ((left_by t b ++ p) ++ m)))
turns_text (last {l = l} {text = text} {b = b} {s = s} ts e) m ends =
    let t = turn s b false in
    turns_text ts m (not_ended m) ∙ ap (λ (x : List ℕ). text ++ x) (call_told s b m false outcome.More (not_ended m) e)
    ∙ sym (append_assoc text t.text (text_from t.next (left_by t b ++ m)))

-- the texts up to the verdict are the text for the whole input, whatever of it was not read
pub told_text : (l text : List ℕ) (ended : Bool) → Told l text ended → (m : List ℕ) → Ends ended m → text ≡ unpack_text (l ++ m)
told_text l text ended h m ends =
    h.all
    ∙ sym (turns_text h.turns m ends ∙ ap (λ (x : List ℕ). h.before ++ x)
    (call_told h.s h.b m ended (outcome.Over h.v) ends h.over ∙ append-nil (turn h.s h.b ended).text))

-- ---- the loop

-- the turns so far
abbrev pub SoFar : Unpacker → List ℕ → Bool → Type 0
SoFar s b ended = (l : List ℕ) × (text : List ℕ) × Turns l text s b ended

-- the state and the bytes at hand behind a turn
behind_turn : (s : Unpacker) (b : List ℕ) (ended : Bool) (after : List ℕ) (r : Turn) → Turned s b ended after r → (w : Window) (e : Bool)
    (x : List ℕ) → SoFar (turn s b ended).next x e → held w after ≡ x → w.ended ≡ e → SoFar r.unpacker (held w after) w.ended
behind_turn s b ended after r h w e x k eb ee =
    let next = (turn s b ended).next in
    subst (λ (u : Unpacker). SoFar u (held w after) w.ended) (sym h.next)
    (subst (λ (y : List ℕ). SoFar next y w.ended) (sym eb) (subst (SoFar next x) (sym ee) k))

-- a refill behind a call that has asked for more
filled_on : (s : Unpacker) (b : List ℕ) (ended : Bool) (after : List ℕ) (r : Turn) → Turned s b ended after r → SoFar s b ended → (w : Window)
    → ended ≡ false → (turn s b ended).outcome ≡ outcome.More → Filled (left_by (turn s b ended) b) after w
    → SoFar r.unpacker (held w after) w.ended
filled_on s b true after r h so w going e f = absurd (never_both going refl)
filled_on s b false after r h so w going e (got p some hand ee) =
    let t = turn s b false in
    behind_turn s b false after r h w false (left_by t b ++ p) (so.0 ++ p, so.1 ++ t.text, more so.2 e p) hand.bytes ee
filled_on s b false after r h so w going e (end hand ee) =
    let t = turn s b false in
    behind_turn s b false after r h w true (left_by t b) (so.0, so.1 ++ t.text, last so.2 e) hand.bytes ee

module _ (s : Unpacker) (b : List ℕ) (ended : Bool) (after : List ℕ) (r : Turn) (h : Turned s b ended after r) (so : SoFar s b ended) where
  abbrev t : Call
  t = turn s b ended

  window : (o : Outcome) → t.outcome ≡ o → (w : Option Window) → r.window ≡ w → Follows (left_by t b) ended after w o
  window o e w d =
      subst (λ (y : Option Window). Follows (left_by t b) ended after y o) d
      (subst (Follows (left_by t b) ended after r.window) e h.window)

  on_by : (w : Window) → r.window ≡ Some w → Steps s b ended t → SoFar r.unpacker (held w after) w.ended
  on_by w on (stops v e zero-used) = let gone : Some w ≡ None = window (outcome.Over v) e (Some w) on in cc
  on_by w on (goes e some few fewer) =
      let f = window outcome.Next e (Some w) on in
      behind_turn s b ended after r h w ended (left_by t b) (so.0, so.1 ++ t.text, next so.2 e) f.0.bytes f.1
  on_by w on (waits e stays zero-used going) = filled_on s b ended after r h so w going e (window outcome.More e (Some w) on)

  -- one turn more
  pub turn_on : (w : Window) → r.window ≡ Some w → SoFar r.unpacker (held w after) w.ended
  turn_on w on = on_by w on (turn_steps s b ended)

  over_by : Steps s b ended t → r.window ≡ None → Ended
  over_by (stops v e zero-used) over = (
    so.0,
    so.1 ++ t.text,
    ended,
    record { before = so.1; s = s; b = b; v = v; turns = so.2; over = e; all = refl },
  )
  over_by (goes e some few fewer) over = absurd (window outcome.Next e None over)
  over_by (waits e stays zero-used going) over = absurd (window outcome.More e None over)

  -- the verdict
  pub turn_over : r.window ≡ None → Ended
  turn_over over = over_by (turn_steps s b ended) over
