-- Demand 2 holds. Assumes nothing.
use Prim.Native.Nat.{ℕ}
use mathlib.Core.Path.{◌≡◌, refl, sym}
use mathlib.Core.List.{List}
use lib.ListN.{length}
use Rattle.container.specs.Layout.{format_of}
use Rattle.container.proofs.TableLaws.{table}
use Rattle.container.specs.declared.grant.Grant.{Grant}
use Rattle.message.proofs.HeadLaws.{is_message_law}
use Rattle.message.proofs.KindLaws.{pays_charged}
use Rattle.reader.proofs.ReadRules.{state_exactly, read_rules, hands_out, carried_ends}
use Rattle.writer.specs.Plan.{plan, cursor_of}
use Rattle.writer.specs.Laying.{filled, owes_after, used_of}
use Rattle.writer.specs.Filling.{tail_of, fill_fault, filling, fill_bytes}
use Rattle.writer.specs.declared.writer.Writer.{Writer}
use Rattle.writer.specs.declared.writer.Answer.TheVariants.{Accepted}
use Rattle.writer.proofs.AnswerLaws.{fill_answer_accepted}
use Rattle.round_trip.proofs.Bound.{within_n, within_2n}
use Rattle.writer.proofs.LegalLaws.{plan_legal, plan_beneath}
use Rattle.writer.proofs.OneWayLaws.{one_way_exactly, one_way_only}
use Rattle.round_trip.proofs.Return.{out_so_far, list_returned}
use Rattle.demands.specs.Demand2.{Demand2, Laid}

one_way : (w : Writer) (l : List ℕ) (n : Grant) (c : List ℕ) (u : ℕ) → (filling w l n (length c)).answer ≡ Accepted u → Laid w l n c u
unfolding filling fill_bytes filled
one_way w l n c u e =
    let fm = format_of w.format in
    let t = tail_of w in
    let r = fill_answer_accepted (fill_fault w l n (length c)) (used_of fm n t l) u e in
    let k = (one_way_exactly fm n l t (plan fm n l 12 0 (cursor_of t)) u (owes_after fm n t l)).1 (refl, sym r.1, refl) in
    record {
      cells = plan fm n l 12 0 (cursor_of t);
      owes = owes_after fm n t l;
      twelve = k.0;
      legal = λ j m b. plan_legal w.format n l t j m b;
      beneath = λ j m b narrow. plan_beneath w.format n l t j m b narrow;
      way = k.1;
      bytes = rw r.0;
      next = rw r.0;
    }

pub demand2 : Demand2
demand2 = record {
  table = table;
  read_exactly = λ s c room valid size large. read_rules s c valid size room large;
  valid_exactly = state_exactly;
  in_order = hands_out;
  carried_ends = carried_ends;
  one_way = one_way;
  one_way_only = one_way_only;
  returned = list_returned;
  so_far = out_so_far;
  kinds = λ m h. pays_charged m (is_message_law m h);
  bound = λ f l ms n small hb short e a q. (within_n f l ms n small hb short e a q, within_2n f l ms n small hb short e a q);
}
