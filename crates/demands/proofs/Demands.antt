-- Demands 1 and 3 hold. Assumes nothing.
use mathlib.Core.Path.{refl}
use Rattle.reader.specs.Reading.{records}
use Rattle.ledger.proofs.RunRuleLaws.{run_follows, run_only}
use Rattle.logs.proofs.LogRuleLaws.{consume_follows, consume_only}
use Rattle.feeder.proofs.RuleLaws.{follows, only}
use Rattle.history.proofs.DelayTheorem.{delays}
use Rattle.demands.specs.Tap.{link_of}
use Rattle.demands.specs.Demand1.{Demand1}
use Rattle.demands.specs.Demand3.{Demand3}
use Rattle.demands.proofs.Refusals.{untouched}
use Rattle.demands.proofs.TableLaws.{table, missing_pools}
use Rattle.demands.proofs.HostLaws.{hosts}
use Rattle.demands.proofs.LinkRuleLaws.{link_rules}
use Rattle.demands.proofs.Simulation.{closed, reports}
use Rattle.demands.proofs.LogTap.{log_demand}

pub demand1 : Demand1
demand1 = record {
  table = table;
  missing_pools = missing_pools;
  untouched = untouched;
  run_follows = run_follows;
  run_only = run_only;
  consume_follows = consume_follows;
  consume_only = consume_only;
  ask_follows = follows;
  ask_only = only;
  hosts = hosts;
}

pub demand3 : Demand3
unfolding records
demand3 = record {
  books_close = closed;
  reports = reports;
  rules = link_rules;
  delays = λ f a b. delays (link_of f a b);
  handed_out = λ s c. refl;
  logs = log_demand;
}
