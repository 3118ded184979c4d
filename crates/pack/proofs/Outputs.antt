-- The output for an input by what stands at its front. Assumes nothing.
use Prim.Native.Nat.{ℕ, ◌-◌, ◌≤◌, ◌<◌}
use mathlib.Core.Path.{◌≡◌, refl, sym, ap, ◌∙◌}
use mathlib.Core.Bool.{true, false}
use mathlib.Core.List.{List, []}
use mathlib.Core.Logic.{⊎_elim}
use native.Mathlib.Omega.{arith}
use lib.ListN.{length, take, drop}
use lib.Dec.{ltb}
use borrow.Author.Tests.{ltb-true}
use Rattle.std.specs.Prelude.{Result, Ok, Err, Option, Some, None, ok_or}
use Rattle.lists.specs.Parts.{IsBytes}
use Rattle.lists.proofs.PartLaws.{rest_is}
use Rattle.lists.proofs.Tests.{cases}
use Rattle.cause.specs.declared.Fault.{Fault}
use Rattle.cause.specs.declared.Cause.TheVariants.{BrokenRecord, InvalidState}
use Rattle.record.specs.Number.{read_number}
use Rattle.record.specs.declared.number.Number.{Number}
use Rattle.record.proofs.NumberLaws.{number_inside}
use Rattle.text.specs.Lines.{refusal_line}
use Rattle.writer.specs.Filling.{writer_with, new_writer}
use Rattle.writer.specs.declared.writer.Writer.{Writer}
use Rattle.pack.specs.Packing.{list_output, output_behind, pack_output, Written}

-- a fault whose line is the output
faulty : (out d : List ℕ) (found fault : Fault) → out ≡ refusal_line found.cause found.place → found ≡ fault → Written out d d (Err fault)
faulty out d found fault e same = (e ∙ ap (λ (x : Fault). refusal_line x.cause x.place) same, refl)

-- the fault beside a writer, and that of a number that is no format where there is none
told : Result Writer (Writer × Fault) → Fault
told (Ok _) = record { cause = InvalidState; place = 0 }
told (Err (_, fault)) = fault

module _ (l d : List ℕ) where
  behind : (r : Option Number) → r ≡ read_number l → pack_output l ≡ output_behind l r
  unfolding pack_output
  behind r e = ap (output_behind l) (sym e)

  -- what is no number
  pub no_number : (r : Option Number) (at fault : Fault) → r ≡ read_number l → at ≡ record { cause = BrokenRecord; place = 0 } → Err fault ≡ ok_or r at
      → Written (pack_output l) d d (Err fault)
  no_number (Some number) at fault er ea e = let z : ◌≡◌ {A = ℕ} 0 1 = cc in absurd (omega arith)
  no_number None at fault er ea e = let same : at ≡ fault = cc in faulty (pack_output l) d (record { cause = BrokenRecord; place = 0 }) fault (behind None er) (sym ea ∙ same)

  module _ (number : Number) (er : Some number ≡ read_number l) where
    -- a format that is none
    pub no_format : (w : Writer) (fault : Fault) → Err (w, fault) ≡ new_writer number.value → Written (pack_output l) d d (Err fault)
    unfolding told
    no_format w fault e = ⊎_elim good bad (cases (ltb number.value 2))
      where
        good : ltb number.value 2 ≡ true → Written (pack_output l) d d (Err fault)
        good t = let f = rw t at e in let z : ◌≡◌ {A = ℕ} 0 1 = cc in absurd (omega arith)

        bad : ltb number.value 2 ≡ false → Written (pack_output l) d d (Err fault)
        bad t =
            let f = rw t at e in
            let same : record { cause = InvalidState; place = 0 } ≡ fault = ap told (sym f) in
            faulty (pack_output l) d (record { cause = InvalidState; place = 0 }) fault (behind (Some number) er ∙ rw t) same

    module _ (w : Writer) (e : Ok w ≡ new_writer number.value) where
      small : ltb number.value 2 ≡ true
      small = ⊎_elim (λ t. t) (λ (t : ltb number.value 2 ≡ false). let f = rw t at e in let z : ◌≡◌ {A = ℕ} 0 1 = cc in absurd (omega arith)) (cases (ltb number.value 2))

      writer_is : w ≡ writer_with number.value []
      writer_is = let f = rw small at e in cc

      pub list_asks : (w ≡ writer_with w.format []) × (w.format < 2)
      list_asks =
          let s : w.format ≡ number.value = ap (λ (x : Writer). x.format) writer_is in
          (writer_is ∙ ap (λ (x : ℕ). writer_with x []) (sym s), rw s (ltb-true number.value 2 small))

      -- the list behind the format
      pub list_is : list_output w.format (take (length l - number.used) (drop number.used l)) ≡ pack_output l
      list_is =
          let s : w.format ≡ number.value = ap (λ (x : Writer). x.format) writer_is in
          ap (λ (k : ℕ). list_output k (take (length l - number.used) (drop number.used l))) s
          ∙ ap (list_output number.value) (rest_is l number.used)
          ∙ sym (behind (Some number) er ∙ rw small)

    -- the number at the front of an input
    pub number_within : IsBytes l → number.used ≤ length l
    number_within hb = (number_inside l hb number.value number.used (sym er)).0
