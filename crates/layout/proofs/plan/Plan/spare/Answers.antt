-- `Plan::spare` meets its contract: the spares begin at 50.
use Rattle.layout.proofs.Readings.{spare_at}
use Rattle.layout.proofs.plan.Plan.spare.Goals as goal

pub returns : goal.returns
returns c = spare_at c.args.self.numbers.now c.args.t c.requires
