use Rattle.probe.proofs.JudgeLaws.{accepted_code, refused_code, refused_small}
use borrow.Author.Rules.{rules}
use Rattle.probe.proofs.c2c_judge.Goals as goal

pub overflow_cast-result : goal.overflow_cast-result
overflow_cast-result c = let low = refused_small c.args.format c.args.container.now c.empty.result c.empty.ensures c.judge.result c.judge.ensures _ _ _ c.in-Refused.is c.number_cause.ensures in
    search rules

pub overflow_add-result : goal.overflow_add-result
overflow_add-result c = let low = refused_small c.args.format c.args.container.now c.empty.result c.empty.ensures c.judge.result c.judge.ensures _ _ _ c.in-Refused.is c.number_cause.ensures in
    search rules

pub returns-in-Accepted : goal.returns-in-Accepted
returns-in-Accepted c = accepted_code c.args.format c.args.container.now c.empty.result c.empty.ensures c.judge.result c.judge.ensures _ _ c.in-Accepted.is

pub returns-in-Refused : goal.returns-in-Refused
returns-in-Refused c = refused_code c.args.format c.args.container.now c.empty.result c.empty.ensures c.judge.result c.judge.ensures _ _ _ c.in-Refused.is c.number_cause.ensures
