use Prim.Native.Nat.{◌%◌}
use mathlib.Core.Path.{sym, ◌∙◌}
use native.Mathlib.Omega.{arith}
use Rattle.message.specs.Heads.{class_of}
use Rattle.message.specs.Charges.{charges_by}
use Rattle.message.specs.declared.charge.Charges.{Charges}
use Rattle.pools.proofs.TallyLaws.{AllChargeable, all_chargeable, pay_none, pay_second, pay_two}
use Rattle.pools.proofs.tally.add_payment.Goals.{Start}
use Rattle.pools.proofs.tally.add_payment.Goals as goal

-- what the message pays

abbrev charged : Start → Charges
charged s = charges_by (s.args.byte0 % 16) s.args.byte0 s.args.byte1

able : (s : Start) → AllChargeable (charged s)
able s = all_chargeable (s.args.byte0 % 16) s.args.byte0 s.args.byte1 (omega arith) (class_of (s.args.byte0 % 16))

pub add_count-requires-in-Two-2 : goal.add_count-requires-in-Two-2
add_count-requires-in-Two-2 c = pay_second (charged (goal.at.add_count-requires-in-Two-2 c).Start) c.args.counts.now c.told-counts c.requires _ _ (sym c.charge_message-charges.ensures ∙ c.in-Two.is) _ c.add_count-in-Two.ensures (able (goal.at.add_count-requires-in-Two-2 c).Start)

pub returns-in-Free : goal.returns-in-Free
returns-in-Free c = pay_none (charged (goal.at.returns-in-Free c).Start) c.args.counts.now c.told-counts c.requires (sym c.charge_message-charges.ensures ∙ c.in-Free.is)

pub returns-in-Two : goal.returns-in-Two
returns-in-Two c = pay_two (charged (goal.at.returns-in-Two c).Start) c.args.counts.now c.told-counts c.requires _ _ (sym c.charge_message-charges.ensures ∙ c.in-Two.is) _ c.add_count-in-Two.ensures _ c.add_count-in-Two-2.ensures
