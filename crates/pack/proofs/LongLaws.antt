-- The first 4,102 bytes of an input decide what is written: a number has at most five, and a list of more than 4,096 is refused.
-- Assumes nothing.
use Prim.Native.Nat.{ℕ, ◌≤◌, ◌<◌}
use mathlib.Core.Path.{◌≡◌, refl, sym, ap, ◌∙◌, subst}
use mathlib.Core.Bool.{true, false}
use mathlib.Core.List.{List, [], ◌++◌}
use mathlib.Core.Logic.{⊎_elim}
use native.Mathlib.Omega.{arith}
use lib.ListN.{length, drop, length-append, length-drop}
use lib.Dec.{ltb}
use borrow.Author.Tests.{ltb-true, lt-ltb, lt-leb}
use Rattle.lists.proofs.Tests.{cases}
use Rattle.cause.specs.declared.Cause.TheVariants.{TooLong}
use Rattle.container.specs.Layout.{format_of}
use Rattle.record.specs.Number.{read_number, Value}
use Rattle.record.specs.declared.number.Number.{Number}
use Rattle.record.proofs.NumberTakes.{Takes, takes_number, number_append}
use Rattle.text.specs.Lines.{refusal_line}
use Rattle.writer.specs.Filling.{writer_with, call_checks, fill_fault}
use Rattle.round_trip.specs.Calls.{zero_grant}
use Rattle.pack.specs.Packing.{containers_of, most_containers, output_of, list_output, output_behind, pack_output}
use Rattle.cause.specs.Checks.{Verdict, Refused}
use Rattle.std.specs.Prelude.{Option, Some, None}

long_fault : (f : ℕ) (l : List ℕ) → f < 2 → 4096 < length l → fill_fault (writer_with f []) l zero_grant 256 ≡ Refused TooLong 0
unfolding fill_fault call_checks
long_fault f l small h = rw (lt-ltb f 2 small, lt-leb (length l) 4096 h)

long_refused : (f : ℕ) (l : List ℕ) → f < 2 → 4096 < length l → list_output f l ≡ refusal_line TooLong 0
long_refused f l small h = ap (λ (v : Verdict). output_of v (containers_of most_containers (format_of f) [] l)) (long_fault f l small h)

behind_same : (l m : List ℕ) → 4102 ≤ length l → (r : Option Number) → read_number l ≡ r → output_behind (l ++ m) r ≡ output_behind l r
behind_same l m long None e = refl
behind_same l m long (Some number) e = ⊎_elim good other (cases (ltb number.value 2))
  where
    takes : Takes (Value number.value number.used) 5 (length l)
    takes = subst (λ (r : Option Number). Takes r 5 (length l)) e (takes_number l)

    good : ltb number.value 2 ≡ true → output_behind (l ++ m) (Value number.value number.used) ≡ output_behind l (Value number.value number.used)
    good t =
        let small = ltb-true number.value 2 t in
        let few = takes.1.0 in
        rw t (long_refused number.value (drop number.used (l ++ m)) small (omega (arith, length-drop number.used (l ++ m), length-append l m))
        ∙ sym (long_refused number.value (drop number.used l) small (omega (arith, length-drop number.used l))))

    other : ltb number.value 2 ≡ false → output_behind (l ++ m) (Value number.value number.used) ≡ output_behind l (Value number.value number.used)
    other t = rw t

-- whatever follows changes nothing
pub enough_read : (l m : List ℕ) → 4102 ≤ length l → pack_output (l ++ m) ≡ pack_output l
unfolding pack_output
enough_read l m long = ap (output_behind (l ++ m)) (number_append l m (omega arith)) ∙ behind_same l m long (read_number l) refl
