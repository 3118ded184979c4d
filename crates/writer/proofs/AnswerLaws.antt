-- An accepted fill: answer, next writer and container, as the code makes them; and the verdict of a fill by its answer. Assumes nothing.
use Prim.Native.Nat.{ℕ, ◌+◌, ◌-◌, ◌%◌, ◌≤◌}
use mathlib.Core.Path.{◌≡◌, refl, sym, ap, ◌∙◌}
use mathlib.Core.List.{List}
use native.Mathlib.Omega.{arith}
use lib.ListN.{length, take, drop, replicate, length-take}
use lib.Seq.{length-take-le}
use Rattle.lists.specs.Pick.{pick}
use Rattle.lists.specs.Parts.{pad}
use Rattle.slices.proofs.CopyLaws.{copied_into, copied_zeros}
use Rattle.cause.specs.Checks.{when_accepted, Verdict, Accepted, Refused}
use Rattle.cause.specs.declared.Cause.{Cause}
use Rattle.container.specs.Layout.{Format, format_of}
use Rattle.container.specs.declared.grant.Grant.{Grant}
use Rattle.writer.specs.Laying.{header_bytes, set_all, owes_after, used_of}
use Rattle.writer.specs.Filling.{tail_of, writer_with, fill_fault, answer_of, filling, fill_bytes}
use Rattle.writer.specs.HoldingMirror.{Sane, owed_of, cursor_at, laid_to}
use Rattle.writer.specs.declared.cursor.Cursor.{Cursor}
use Rattle.writer.specs.declared.writer.Writer.{Writer}
use Rattle.writer.specs.declared.writer.Answer.TheVariants as answer
use Rattle.writer.specs.declared.writer.Step.{Step}
use Rattle.writer.proofs.StateCases.{Callable, fill_callable}
use Rattle.writer.proofs.SaneLaws.{sane_at}
use Rattle.writer.proofs.HoldLaws.{owed_length, held_filled, held_owes, held_used}
use Rattle.std.specs.Prelude.{Ok, Err}

-- ---- from an answer to its verdict

pub fill_answer_refused : (v : Verdict) (n : ℕ) (k : Cause) (p : ℕ) → answer_of v n ≡ answer.Refused k p → v ≡ Refused k p
fill_answer_refused (Ok _) n k p e = let z : ◌≡◌ {A = ℕ} 0 1 = cc in absurd (omega arith)
fill_answer_refused (Err fault) n k p e = let a : fault.cause ≡ k = cc in let b : fault.place ≡ p = cc in (λ i. Refused (a i) (b i))

pub fill_answer_accepted : (v : Verdict) (n u : ℕ) → answer_of v n ≡ answer.Accepted u → (v ≡ Accepted) × (n ≡ u)
fill_answer_accepted (Ok _) n u e = (refl, cc)
fill_answer_accepted (Err fault) n u e = let z : ◌≡◌ {A = ℕ} 0 1 = cc in absurd (omega arith)

-- ---- what is owed, by where it lies

-- the bytes owed, copied over zeros from where they lie
pub tail_kept : (t l s : List ℕ) (p : Cursor) → s ≡ pick p.tail t l → p.left ≤ 100
    → (r : List ℕ) → r ≡ copied_into 0 (take ((p.from + p.left) - p.from) (drop p.from s)) (replicate 100 0) → r ≡ pad 100 (owed_of t l p)
tail_kept t l s p e most r q =
    let size : (p.from + p.left) - p.from ≡ p.left = omega arith in
    let few = length-take p.left (drop p.from s) in
    let part : r ≡ copied_into 0 (take p.left (drop p.from s)) (replicate 100 0) = rw size at q in
    part ∙ copied_zeros 100 (take p.left (drop p.from s)) (omega arith) ∙ rw e

-- ---- an accepted fill

module _ (w : Writer) (l : List ℕ) (n : Grant) (c : List ℕ) (long : length w.tail ≡ 100) (e : fill_fault w l n (length c) ≡ Accepted) where
  abbrev fm : Format
  fm = format_of w.format

  abbrev t : List ℕ
  t = tail_of w

  can : Callable w l n (length c)
  can = fill_callable w l n (length c) e

  tail_length : length t ≡ w.len
  tail_length = length-take-le w.len w.tail (let h = can.valid.short in omega arith)

  pub tail_fits : (length t ≤ 100) × (length t % 20 ≡ 0)
  tail_fits = (rw tail_length can.valid.short, rw tail_length can.valid.granules)

  module _ (p : Cursor) (ep : p ≡ cursor_at fm n t l 12) where
    pub sane : Sane t l 12 p
    sane = rw ep (sane_at w.format n t l tail_fits.0 tail_fits.1 can.short 12 (omega arith))

    owes : owed_of t l p ≡ owes_after fm n (tail_of w) l
    owes = ap (owed_of t l) ep ∙ sym (held_owes w.format n t l tail_fits.0 tail_fits.1 can.short)

    pub fill_done : (a : List ℕ) → a ≡ pad 100 (owed_of t l p)
        → ◌≡◌ {A = Step} (record { writer = record { format = w.format; tail = a; len = p.left }; answer = answer.Accepted p.at }) (filling w l n (length c))
    unfolding filling
    fill_done a ea =
        let at : a ≡ pad 100 (owes_after fm n (tail_of w) l) = ea ∙ ap (pad 100) owes in
        let len : p.left ≡ length (owes_after fm n (tail_of w) l) = sym (owed_length t l 12 p sane) ∙ ap length owes in
        let used : p.at ≡ used_of fm n (tail_of w) l =
        ap (λ (x : Cursor). x.at) ep ∙ sym (held_used w.format n t l tail_fits.0 tail_fits.1 can.short) in
        (λ i. record { writer = record { format = w.format; tail = at i; len = len i }; answer = answer.Accepted (used i) })
        ∙ (λ i. record { writer = when_accepted (sym e i) (writer_with w.format (owes_after fm n (tail_of w) l)) w; answer = answer_of (sym e i) (used_of fm n (tail_of w) l) })

    pub bytes_done : (d x : List ℕ) → x ≡ laid_to fm n t l 12 → d ≡ set_all fm.place 0 (header_bytes n p.msgstart) x → d ≡ fill_bytes w l n c
    unfolding fill_bytes
    bytes_done d x ex ed =
        ed ∙ ap (set_all fm.place 0 (header_bytes n p.msgstart)) ex
        ∙ ap (λ (y : Cursor). set_all fm.place 0 (header_bytes n y.msgstart) (laid_to fm n t l 12)) ep
        ∙ sym (held_filled w.format n t l tail_fits.0 tail_fits.1 can.short)
        ∙ rw e
