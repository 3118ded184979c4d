use Prim.Native.Nat.{ℕ}
use mathlib.Core.Path.{◌≡◌, refl}
use lib.ListN.{length, get_or}
use mir.Syntax.{w32}
use mir.Val.{Fits}
use Rattle.ledger.proofs.AuditLaws.{short_refused, over_refused, begun_covered, granted_fits, settle_done}
use borrow.Author.Rules.{rules}
use Rattle.ledger.proofs.ledger.Ledger.settle.Goals as goal

pub returns-in-Err : goal.returns-in-Err
returns-in-Err c = short_refused c.args.self c.args.direction c.args.next c.args.begun c.args.granted c.nest-held.ensures c.judge_begun.ensures c.in-Err.is c.refuse.ensures

pub returns-in-Err-judge_granted : goal.returns-in-Err-judge_granted
returns-in-Err-judge_granted c = over_refused c.args.self c.args.direction c.args.next c.args.begun c.args.granted c.nest-held.ensures c.judge_begun.ensures c.in_default.is
    c.nest-opened.ensures refl c.choose_receiver.ensures c.judge_granted.ensures c.in-Err-judge_granted.is c.refuse-in-Err-judge_granted.ensures

pub settle_held-held_after-requires-clause-by_index : goal.settle_held-held_after-requires-clause-by_index
settle_held-held_after-requires-clause-by_index c = let n : length c.args.begun ≡ 14 = search rules in
    begun_covered c.args.self c.args.direction c.args.next c.args.begun c.args.granted c.nest-held.ensures c.judge_begun.ensures c.in_default.is n

pub settle_held-held_after-requires-clause-by_index_2 : goal.settle_held-held_after-requires-clause-by_index_2
settle_held-held_after-requires-clause-by_index_2 c = let n : length c.args.granted ≡ 14 = search rules in
    let limit : (p : ℕ) → Fits w32 (get_or c.choose_receiver.result.capacities p 0) = λ p. search rules in
    granted_fits c.args.self c.args.direction c.args.next c.args.begun c.args.granted c.nest-held.ensures c.judge_begun.ensures c.in_default.is
    c.nest-opened.ensures refl c.choose_receiver.ensures c.judge_granted.ensures c.in_default-judge_granted.is n (λ p. (limit p).fits)

pub returns : goal.returns
returns c = settle_done c.args.self c.args.direction c.args.next c.args.begun c.args.granted c.nest-held.ensures c.judge_begun.ensures c.in_default.is
    c.nest-opened.ensures refl c.choose_receiver.ensures c.judge_granted.ensures c.in_default-judge_granted.is
    c.count_carry-paid.ensures c.settle_held-held_after.ensures refl c.settle_opened-opened_after.ensures refl c.enter.ensures
