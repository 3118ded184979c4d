-- The bounds and the outcome of a fill over lent bytes. Assumes nothing.
use Prim.Native.Nat.{ℕ, zero, suc, ◌+◌, ◌*◌, ◌%◌, ◌≤◌, ◌<◌}
use mathlib.Core.Path.{◌≡◌, refl, sym, ap, ◌∙◌, subst}
use mathlib.Core.Bool.{true, false, ◌&&◌}
use mathlib.Core.List.{List}
use native.Mathlib.Omega.{arith}
use lib.ListN.{length, get_or, drop, length-drop}
use lib.Seq.{length-take-le}
use lib.Dec.{eqb, ltb, leb}
use borrow.Author.Tests.{eq-eqb, ne_eqb, leb-true, lt-ltb, le-ltb}
use Rattle.lists.proofs.PickLaws.{pick_by}
use Rattle.lists.proofs.Fill.{put_whole}
use Rattle.slices.proofs.CopyLaws.{copied_into, copied_whole}
use Rattle.cause.specs.Checks.{first_fault, when_accepted, or_else, Verdict, Accepted, Refused}
use Rattle.cause.specs.Causes.{cause_number}
use Rattle.cause.specs.declared.Cause.{Cause}
use Rattle.cause.proofs.CauseLaws.{number_most}
use Rattle.cause.proofs.CheckLaws.{accepted_pass}
use Rattle.container.specs.Layout.{format_of}
use Rattle.container.specs.Grants.{plane_allowed}
use Rattle.container.specs.declared.grant.Grant.{Grant}
use Rattle.record.specs.Records.{first_of, onward, fault_from, list_fault}
use Rattle.record.specs.declared.list.First.{First}
use Rattle.record.specs.declared.list.First.TheVariants.{Empty, Bad, Whole}
use Rattle.record.proofs.RecordLaws.{first_within}
use Rattle.writer.specs.Laying.{owes_after, used_of}
use Rattle.writer.specs.Filling.{tail_of, writer_ok, writer_with, call_checks, fill_fault, answer_of, filling, fill_bytes}
use Rattle.writer.specs.HoldingMirror.{Sane, cursor_at}
use Rattle.writer.specs.declared.writer.Writer.{Writer}
use Rattle.writer.specs.declared.writer.Answer.{Answer}
use Rattle.writer.specs.declared.writer.Answer.TheVariants as fill
use Rattle.writer.specs.declared.writer.Step.{Step}
use Rattle.writer.proofs.StateCases.{Callable, fill_callable}
use Rattle.writer.proofs.SaneLaws.{sane_at}
use Rattle.writer.proofs.HoldLaws.{owed_length, held_owes, held_used}
use Rattle.probe.specs.Fill.{grant_from, writer_from, answer_code, Small, sized, asked, fill_code, fill_tail, fill_container}
use Rattle.std.specs.Prelude.{Ok, Err}
use Rattle.cause.proofs.FaultLaws.{refused_at}

-- ---- a list copied over another of the same length

pub copied_over : (x d : List ℕ) → length x ≡ length d → copied_into 0 x d ≡ x
copied_over x d e = copied_whole 0 x d (omega arith) ∙ put_whole x d e

-- ---- the place of a broken record

place_from : (k : ℕ) (l : List ℕ) (at : ℕ) (c : Cause) (p : ℕ) → at ≤ length l → fault_from k l at ≡ Refused c p → p ≤ length l
unfolding fault_from
place_from zero l at c p h e = let z : ◌≡◌ {A = ℕ} 0 1 = cc in absurd (omega arith)
place_from (suc k) l at c p h e = by (first_of (drop at l)) refl e (λ next b f. place_from k l next c p b f)
  where
    by : (r : First) → first_of (drop at l) ≡ r → onward r at (λ next. fault_from k l next) ≡ Refused c p
        → ((next : ℕ) → next ≤ length l → fault_from k l next ≡ Refused c p → p ≤ length l) → p ≤ length l
    by Empty q v ih = let z : ◌≡◌ {A = ℕ} 0 1 = cc in absurd (omega arith)
    by Bad q v ih = let ep = refused_at _ _ _ _ v in omega arith
    by (Whole start end) q v ih =
        let w = first_within (drop at l) start end q in let n = length-drop at l in ih (at + end) (omega arith) v

list_place : (l : List ℕ) (c : Cause) (p : ℕ) → list_fault l ≡ Refused c p → p ≤ length l
unfolding list_fault
list_place l c p e = place_from (suc (length l)) l 0 c p (omega arith) e

-- ---- the numbers of an answer

-- every check of a call is at place 0
AtZero : Cause → ℕ → Verdict → Type 0
AtZero c p v = v ≡ Refused c p → p ≡ 0

refused_zero : (c : Cause) (p : ℕ) (k : Cause) → AtZero c p (Refused k 0)
unfolding AtZero
refused_zero c p k e = sym (refused_at _ _ _ _ e)

accepted_zero : (c : Cause) (p : ℕ) → AtZero c p Accepted
unfolding AtZero
accepted_zero c p e = let z : ◌≡◌ {A = ℕ} 0 1 = cc in absurd (omega arith)

call_zero : (w : Writer) (k : ℕ) (n : Grant) (size : ℕ) (c : Cause) (p : ℕ) → AtZero c p (first_fault (call_checks w k n size))
unfolding call_checks
call_zero w k n size c p =
    pick_by (AtZero c p) (writer_ok w)
    (λ _. pick_by (AtZero c p) (eqb size 256)
    (λ _. pick_by (AtZero c p) (leb k 4096)
    (λ _. pick_by (AtZero c p) (ltb n.rp 8 && plane_allowed n) (λ _. accepted_zero c p) (λ _. refused_zero c p _))
    (λ _. refused_zero c p _))
    (λ _. refused_zero c p _))
    (λ _. refused_zero c p _)

call_short : (w : Writer) (k : ℕ) (n : Grant) (size : ℕ) → first_fault (call_checks w k n size) ≡ Accepted → k ≤ 4096
unfolding call_checks
call_short w k n size e = leb-true k 4096 (accepted_pass (call_checks w k n size) e).1.1.0

-- the place of a refused fill
fault_place : (w : Writer) (l : List ℕ) (n : Grant) (size : ℕ) (c : Cause) (p : ℕ) → fill_fault w l n size ≡ Refused c p → p ≤ 4096
unfolding fill_fault AtZero
fault_place w l n size c p e = by (first_fault (call_checks w (length l) n size)) refl e
  where
    by : (v : Verdict) → first_fault (call_checks w (length l) n size) ≡ v → or_else v (list_fault l) ≡ Refused c p → p ≤ 4096
    by (Ok _) q f =
        let short = call_short w (length l) n size q in let place = list_place l c p f in omega arith
    by (Err fault) q f = let z : p ≡ 0 = call_zero w (length l) n size c p (q ∙ f) in omega arith

-- an accepted fill: few bytes used, and few owed
module _ (w : Writer) (l : List ℕ) (n : Grant) (size : ℕ) (long : length w.tail ≡ 100) (e : fill_fault w l n size ≡ Accepted) where
  can : Callable w l n size
  can = fill_callable w l n size e

  tail_length : length (tail_of w) ≡ w.len
  tail_length = length-take-le w.len w.tail (let h = can.valid.short in omega arith)

  low : length (tail_of w) ≤ 100
  low = rw tail_length can.valid.short

  granules : length (tail_of w) % 20 ≡ 0
  granules = rw tail_length can.valid.granules

  sane : Sane (tail_of w) l 12 (cursor_at (format_of w.format) n (tail_of w) l 12)
  sane = sane_at w.format n (tail_of w) l low granules can.short 12 (omega arith)

  used_low : used_of (format_of w.format) n (tail_of w) l ≤ 4096
  used_low =
      let h = sane.used in
      let short = can.short in
      rw (held_used w.format n (tail_of w) l low granules can.short) (omega arith)

  owes_low : length (owes_after (format_of w.format) n (tail_of w) l) ≤ 100
  owes_low =
      rw (held_owes w.format n (tail_of w) l low granules can.short, owed_length (tail_of w) l 12 (cursor_at (format_of w.format) n (tail_of w) l 12) sane) sane.most

-- the numbers of an answer are small
module _ (w : Writer) (l : List ℕ) (n : Grant) (size : ℕ) (long : length w.tail ≡ 100) where
  small_by : (v : Verdict) → fill_fault w l n size ≡ v
      → Small (answer_of v (used_of (format_of w.format) n (tail_of w) l)) (when_accepted v (writer_with w.format (owes_after (format_of w.format) n (tail_of w) l)) w).len
  small_by (Ok _) e = (used_low w l n size long e, owes_low w l n size long e)
  small_by (Err fault) e = fault_place w l n size fault.cause fault.place e

  fill_small : Small (filling w l n size).answer (filling w l n size).writer.len
  unfolding filling
  fill_small = small_by (fill_fault w l n size) refl

  pub step_small : (s : Step) → s ≡ filling w l n size → Small s.answer s.writer.len
  step_small s e = subst (λ (x : Step). Small x.answer x.writer.len) (sym e) fill_small

-- what that says of a refusal
pub refused_small : (a : Answer) (k : Cause) (p n x : ℕ) → a ≡ fill.Refused k p → Small a n → x ≡ cause_number k → (p ≤ 4096) × (x < 256)
refused_small a k p n x e h ex = let m = number_most k in (subst (λ (y : Answer). Small y n) e h, omega arith)

-- ---- the outcome of a call

module _ (f n : ℕ) (t b l : List ℕ) where
  module _ (d : sized t b ≡ false) where
    pub code_unsized : (size : ℕ) → 19 * 4_294_967_296 ≡ fill_code f n t b l size
    unfolding fill_code
    code_unsized size = rw d

    pub tail_unsized : (size : ℕ) → t ≡ fill_tail f n t b l size
    unfolding fill_tail
    tail_unsized size = rw d

    pub container_unsized : (c : List ℕ) → c ≡ fill_container f n t b l c
    unfolding fill_container
    container_unsized c = rw d

  module _ (d : sized t b ≡ true) (a : List ℕ) (ea : a ≡ t) (g : Grant) (eg : g ≡ grant_from b) where
    pub container_sized : (c x : List ℕ) → x ≡ fill_bytes (writer_from f n a) l g c → x ≡ fill_container f n t b l c
    unfolding fill_container
    container_sized c x e =
        e ∙ ap (λ (y : List ℕ). fill_bytes (writer_from f n y) l g c) ea ∙ ap (λ (y : Grant). fill_bytes (writer_from f n t) l y c) eg ∙ rw d

    module _ (size : ℕ) (s : Step) (es : s ≡ filling (writer_from f n a) l g size) where
      same : s ≡ asked f n t b l size
      same =
          es ∙ ap (λ (y : List ℕ). filling (writer_from f n y) l g size) ea ∙ ap (λ (y : Grant). filling (writer_from f n t) l y size) eg

      pub code_sized : (x : ℕ) → x ≡ answer_code s.answer s.writer.len → x ≡ fill_code f n t b l size
      unfolding fill_code
      code_sized x e = e ∙ ap (λ (y : Step). answer_code y.answer y.writer.len) same ∙ rw d

      pub tail_sized : (x : List ℕ) → x ≡ s.writer.tail → x ≡ fill_tail f n t b l size
      unfolding fill_tail
      tail_sized x e = e ∙ ap (λ (y : Step). y.writer.tail) same ∙ rw d

-- the sizes of a call
module _ (t b : List ℕ) where
  pub other_tail : (length t ≡ 100 → ⊥) → sized t b ≡ false
  other_tail d = rw (ne_eqb (length t) 100 d)

  pub other_grant : length t ≡ 100 → (length b ≡ 6 → ⊥) → sized t b ≡ false
  other_grant e d = rw (eq-eqb (length t) 100 e, ne_eqb (length b) 6 d)

  pub other_bit : length t ≡ 100 → length b ≡ 6 → 2 ≤ get_or b 0 0 → sized t b ≡ false
  other_bit e d h = rw (eq-eqb (length t) 100 e, eq-eqb (length b) 6 d, le-ltb (get_or b 0 0) 2 h)

  pub right_sizes : length t ≡ 100 → length b ≡ 6 → get_or b 0 0 < 2 → sized t b ≡ true
  right_sizes e d h = rw (eq-eqb (length t) 100 e, eq-eqb (length b) 6 d, lt-ltb (get_or b 0 0) 2 h)
