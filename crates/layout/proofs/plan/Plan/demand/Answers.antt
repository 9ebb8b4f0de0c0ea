-- `Plan::demand` meets its contract: the demands begin at 2.
use Rattle.layout.proofs.Readings.{demand_at}
use Rattle.layout.proofs.plan.Plan.demand.Goals as goal

pub returns : goal.returns
returns c = demand_at c.args.self.numbers.now c.args.t c.requires
