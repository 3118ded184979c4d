-- Demand 2, the return of messages: what a new writer has filled, a new reader of the same format reads back. Assumes nothing.
use Prim.Native.Nat.{ℕ, ◌<◌}
use mathlib.Core.Path.{◌≡◌, refl, sym, ap, ◌∙◌, subst}
use mathlib.Core.List.{List, [], ◌∷◌, ◌++◌, append-nil}
use lib.ListN.{length, take, drop}
use lib.Seq.{take-add, take-length}
use borrow.Author.Tests.{eq-eqb}
use Rattle.container.specs.Layout.{format_of}
use Rattle.container.specs.declared.grant.Grant.{Grant}
use Rattle.record.specs.Records.{records_of}
use Rattle.record.proofs.RecordLaws.{records_append}
use Rattle.reader.specs.Reading.{reader_with}
use Rattle.reader.specs.declared.reader.Reader.{Reader}
use Rattle.writer.specs.Filling.{tail_of, writer_with}
use Rattle.round_trip.specs.Calls.{AllOut, OutSoFar, Filling, none, then, FillingLeft, Reading, under_way}
use Rattle.writer.specs.declared.writer.Writer.{Writer}
use Rattle.writer.proofs.OtherOrder.{OtherOrder, unchanged, other_order_on, other_order_through, same_messages}
use Rattle.writer.proofs.Simulation.{idle}
use Rattle.round_trip.proofs.RoundTrip.{Linked, fill_read}

-- the readings of containers that were filled, up to the writer w: the grants are those handed in, and what came out and what is
-- under way are the messages used, in another order
pub record Returned (f : ℕ) (cs : List (List ℕ)) (ns : List Grant) (used : List ℕ) (w : Writer) : Type 0 where
  pub reader : Reader
  pub out : List (List ℕ)
  pub taken : List (List ℕ)
  pub readings : Reading (reader_with f []) cs ns (records_of out) reader
  pub is_used : used ≡ records_of taken
  pub same : OtherOrder (format_of f) (out ++ under_way reader w) taken
  pub linked : Linked f reader w

pub return_of_messages : (f : ℕ) (cs : List (List ℕ)) (ns : List Grant) (used : List ℕ) (w : Writer) → f < 2
    → Filling (writer_with f []) cs ns used w → Returned f cs ns used w
return_of_messages f cs ns used w small none = record {
  reader = reader_with f [];
  out = [];
  taken = [];
  readings = none;
  is_used = refl;
  same = unchanged refl;
  linked = record { format = small; carry = []; tail = []; reader = refl; writer = refl; link = idle };
}
return_of_messages f cs ns used w small (then {cs = cs₁} {ns = ns₁} {used = used₁} {w₁ = w₁} {c = c} l n u before h) =
    let r = return_of_messages f cs₁ ns₁ used₁ w₁ small before in
    let k = fill_read f r.reader w₁ l c n u w h.of_bytes r.linked h in
    record {
      reader = k.next;
      out = r.out ++ k.out;
      taken = r.taken ++ k.taken;
      readings = subst (λ (x : List ℕ). Reading (reader_with f []) cs ns x k.next) (sym (records_append r.out k.out)) (then r.readings k.reads);
      is_used = ap (λ (x : List ℕ). x ++ take u l) r.is_used ∙ ap (λ (x : List ℕ). records_of r.taken ++ x) k.used ∙ sym (records_append r.taken k.taken);
      same = other_order_through r.out (under_way r.reader w₁) r.taken k.out (under_way k.next w) k.taken r.same k.same;
      linked = k.linked;
    }

-- what came out and what is under way
pub out_so_far : (f : ℕ) (cs : List (List ℕ)) (ns : List Grant) (used : List ℕ) (w : Writer) → f < 2 → Filling (writer_with f []) cs ns used w → OutSoFar f cs ns used w
out_so_far f cs ns used w small h =
    let r = return_of_messages f cs ns used w small h in
    record { reader = r.reader; out = r.out; taken = r.taken; readings = r.readings; is_used = r.is_used; same = same_messages f r.same }

-- where no tail is owed, all messages used came out
pub all_returned : (f : ℕ) (cs : List (List ℕ)) (ns : List Grant) (used : List ℕ) (w : Writer) → f < 2
    → Filling (writer_with f []) cs ns used w → length (tail_of w) ≡ 0 → AllOut f cs ns used
all_returned f cs ns used w small h e =
    let r = return_of_messages f cs ns used w small h in
    let all : r.out ≡ r.out ++ under_way r.reader w = sym (rw (eq-eqb (length (tail_of w)) 0 e) (append-nil r.out)) in
    record { reader = r.reader; out = r.out; taken = r.taken; readings = r.readings; is_used = r.is_used; same = same_messages f (other_order_on (unchanged all) r.same) }

-- fills of one list, each with what is left of it, use its front
pub left_fills : {w : Writer} {l : List ℕ} {cs : List (List ℕ)} {ns : List Grant} {at : ℕ} {w' : Writer} → FillingLeft w l cs ns at w'
    → Filling w cs ns (take at l) w'
left_fills none = none
left_fills {w = w} {l = l} (then {cs = cs} {ns = ns} {at = at} {w₂ = w₂} {c = c} n u before h) =
    subst (λ (x : List ℕ). Filling w (cs ++ (c ∷ [])) (ns ++ (n ∷ [])) x w₂) (sym (take-add at u l)) (then (drop at l) n u (left_fills before) h)

-- a list that is used up with no tail owed comes out whole
pub list_returned : (f : ℕ) (l : List ℕ) (cs : List (List ℕ)) (ns : List Grant) (w : Writer) → f < 2
    → FillingLeft (writer_with f []) l cs ns (length l) w → length (tail_of w) ≡ 0 → AllOut f cs ns l
list_returned f l cs ns w small h e =
    all_returned f cs ns l w small (subst (λ (x : List ℕ). Filling (writer_with f []) cs ns x w) (take-length l) (left_fills h)) e
