-- What a granule takes of what is owed or of a message, over plain numbers and lists. Assumes nothing.
use Prim.Native.Nat.{ℕ, ◌+◌, ◌-◌, ◌%◌, ◌≤◌, ◌<◌, min}
use mathlib.Core.Path.{◌≡◌, sym, ap, ◌∙◌}
use mathlib.Core.Bool.{Bool, true, false, not}
use mathlib.Core.List.{List}
use native.Mathlib.Omega.{arith}
use lib.ListN.{get_or, take, drop, length-take}
use lib.Seq.{get_or-take, get_or-drop, take-take, take_all, drop-drop}
use borrow.Author.Tests.{not-false}
use Rattle.lists.specs.Pick.{pick}
use Rattle.container.specs.Layout.{Format}
use Rattle.container.specs.declared.grant.Grant.{Grant}
use Rattle.message.specs.Heads.{type_of, op_of}
use Rattle.record.specs.Records.{message_of}
use Rattle.writer.specs.HoldingMirror.{may_by, owed_of, Sane}
use Rattle.writer.specs.declared.cursor.Cursor.{Cursor}

-- the next 20 bytes owed, where they lie in the list s
module _ (t l s : List ℕ) (g : ℕ) (p : Cursor) (h : Sane t l g p) (some : 0 < p.left) (e : pick p.tail t l ≡ s) where
  full : 20 ≤ p.left
  full = let k = h.granules in omega arith

  pub owed_part : take ((p.from + 20) - p.from) (drop p.from s) ≡ take 20 (owed_of t l p)
  owed_part = let n : (p.from + 20) - p.from ≡ 20 = omega arith in rw (n, e) (sym (take-take 20 p.left (drop p.from s) full))

take_least : (w k : ℕ) (l : List ℕ) → take (min w k) l ≡ take w (take k l)
take_least w k l = grind (arith, take-take, take_all, length-take)

-- the message from s to e of the list l behind the place at
module _ (l : List ℕ) (at s e : ℕ) where
  pub message_byte : (i : ℕ) → s + i < e → get_or l ((at + s) + i) 0 ≡ get_or (message_of (drop at l) s e) i 0
  message_byte i h =
      sym (get_or-take (e - s) (drop s (drop at l)) i 0 (omega arith) ∙ ap (λ (r : List ℕ). get_or r i 0) (drop-drop s at l) ∙ get_or-drop (at + s) l i 0)

  pub message_type : (k : ℕ) → s + 1 < e → k ≡ get_or l (at + s) 0 → k % 16 ≡ type_of (message_of (drop at l) s e)
  message_type k h q =
      let z : (at + s) + 0 ≡ at + s = omega arith in ap (λ (b : ℕ). b % 16) (q ∙ rw z at (message_byte 0 (omega arith)))

  pub message_op : (k : ℕ) → s + 1 < e → k ≡ get_or l ((at + s) + 1) 0 → k ≡ op_of (message_of (drop at l) s e)
  message_op k h q = q ∙ message_byte 1 h

  -- what a granule of w bytes takes of it, from its start to z
  pub message_part : (w z : ℕ) → s ≤ e → z ≡ min ((at + s) + w) (at + e) → take (z - (at + s)) (drop (at + s) l) ≡ take w (message_of (drop at l) s e)
  message_part w z h q =
      let n : z - (at + s) ≡ min w (e - s) = omega arith in
      rw (drop-drop s at l, n) (take_least w (e - s) (drop (at + s) l))

-- a message starts where the code, by its type and op, says that it may
pub may_start : (fm : Format) (n : Grant) (g : ℕ) (p : Cursor) (m : List ℕ) (k o : ℕ) (b : Bool) → k ≡ type_of m → o ≡ op_of m → b ≡ may_by fm n g p k o
    → not b ≡ false → may_by fm n g p (type_of m) (op_of m) ≡ true
may_start fm n g p m k o b ek eo eb t =
    ap (λ (x : ℕ). may_by fm n g p x (op_of m)) (sym ek) ∙ ap (λ (x : ℕ). may_by fm n g p k x) (sym eo) ∙ sym eb ∙ not-false b t
