-- The record at a position of a waiting list, as the code finds it. Assumes nothing.
use Prim.Native.Nat.{ℕ, ◌+◌, ◌-◌, ◌%◌, ◌≤◌, ◌<◌}
use mathlib.Core.Path.{◌≡◌, refl, sym, ap, ◌∙◌}
use mathlib.Core.Bool.{Bool, true, false}
use mathlib.Core.List.{List}
use native.Mathlib.Omega.{arith}
use lib.ListN.{length, get_or, take, drop, length-drop}
use lib.Seq.{get_or-drop}
use Rattle.lists.specs.Pick.{pick}
use Rattle.lists.proofs.PartLaws.{get_d_part}
use Rattle.message.specs.Heads.{type_of}
use Rattle.record.specs.Records.{first_of, message_of}
use Rattle.record.specs.declared.list.First.{First}
use Rattle.record.specs.declared.list.First.TheVariants.{Empty, Bad, Whole}
use Rattle.record.proofs.RecordLaws.{first_within, first_short, found}
use Rattle.feeder.specs.Due.{belongs_by, judged, found_at}
use Rattle.feeder.specs.declared.found.Waiting.{Waiting}
use Rattle.std.specs.Prelude.{Option, Some, None}
use Rattle.std.specs.Bool.{then_some}

-- the type of a first record's message is in its first byte
pub first_type : (l : List ℕ) (at start end : ℕ) → first_of (drop at l) ≡ Whole start end → type_of (message_of (drop at l) start end) ≡ get_or l (at + start) 0 % 16
first_type l at start end e =
    let w = first_within (drop at l) start end e in
    let z : start + 0 ≡ start = omega arith in
    let a = get_d_part start (end - start) (drop at l) (omega arith) 0 (omega arith) in
    let b = get_or-drop at l (start + 0) 0 in
    ap (λ (k : ℕ). k % 16) (a ∙ b ∙ ap (λ (k : ℕ). get_or l (at + k) 0) z)

chosen : (b : Bool) (n : ℕ) → then_some b n ≡ pick b (Some n) None
chosen true n = refl
chosen false n = refl

-- what is read behind a position
module _ (w : Waiting) (l : List ℕ) (at : ℕ) (r : First) (e : r ≡ first_of (take (length l - at) (drop at l))) where
  pub found_empty : r ≡ Empty → None ≡ found_at w l at
  unfolding found_at
  found_empty q = rw (found l at r Empty e q)

  pub found_bad : r ≡ Bad → None ≡ found_at w l at
  unfolding found_at
  found_bad q = rw (found l at r Bad e q)

  module _ (h : at ≤ length l) (start end : ℕ) (q : r ≡ Whole start end) where
    pub whole_within : (at + start ≤ length l) × (at + end ≤ length l)
    whole_within =
        let b = first_within (drop at l) start end (found l at r (Whole start end) e q) in
        let n = length-drop at l in
        (omega arith, omega arith)

    module _ (k : ℕ) (ek : k ≡ get_or l (at + start) 0) (b : Bool) (eb : b ≡ belongs_by w (k % 16)) where
      kind : belongs_by w (type_of (message_of (drop at l) start end)) ≡ b
      kind = ap (belongs_by w) (first_type l at start end (found l at r (Whole start end) e q) ∙ ap (λ (x : ℕ). x % 16) (sym ek)) ∙ sym eb

      pub found_whole : (x : Option ℕ) → x ≡ then_some b (at + end) → x ≡ found_at w l at
      unfolding found_at
      found_whole x ex = ex ∙ rw (found l at r (Whole start end) e q, kind) (chosen b (at + end))

-- what a record that is found says of the first record behind its position
pub record FirstTo (w : Waiting) (l : List ℕ) (at : ℕ) (f : First) (end : ℕ) : Type 0 where
  pub start : ℕ
  pub stop : ℕ
  pub whole : f ≡ Whole start stop
  pub belongs : belongs_by w (type_of (message_of (drop at l) start stop)) ≡ true
  pub ends : at + stop ≡ end

judged_to : (w : Waiting) (l : List ℕ) (at : ℕ) (f : First) (end : ℕ) → judged w l at f ≡ Some end → FirstTo w l at f end
judged_to w l at Empty end e = let z : ◌≡◌ {A = ℕ} 0 1 = cc in absurd (omega arith)
judged_to w l at Bad end e = let z : ◌≡◌ {A = ℕ} 0 1 = cc in absurd (omega arith)
judged_to w l at (Whole start stop) end e = by (belongs_by w (type_of (message_of (drop at l) start stop))) refl e
  where
    by : (b : Bool) → belongs_by w (type_of (message_of (drop at l) start stop)) ≡ b → pick b (Some (at + stop)) None ≡ Some end → FirstTo w l at (Whole start stop) end
    by true k p = let ends : at + stop ≡ end = cc in record { start = start; stop = stop; whole = refl; belongs = k; ends = ends }
    by false k p = let z : ◌≡◌ {A = ℕ} 0 1 = cc in absurd (omega arith)

pub found_to : (w : Waiting) (l : List ℕ) (at end : ℕ) → found_at w l at ≡ Some end → FirstTo w l at (first_of (drop at l)) end
unfolding found_at
found_to w l at end e = judged_to w l at (first_of (drop at l)) end e

-- a record that is found ends behind its position, within the list, and has at most 121 bytes
pub found_within : (w : Waiting) (l : List ℕ) (at : ℕ) → at ≤ length l → (end : ℕ) → found_at w l at ≡ Some end → (at < end) × (end ≤ length l) × (end ≤ at + 121)
found_within w l at h end e =
    let j = found_to w l at end e in
    let b = first_within (drop at l) j.start j.stop j.whole in
    let c = first_short (drop at l) j.start j.stop j.whole in
    let n = length-drop at l in
    let k = j.ends in
    (omega arith, omega arith, omega arith)
