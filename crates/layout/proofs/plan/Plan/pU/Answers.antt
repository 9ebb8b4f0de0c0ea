-- `Plan::pU` meets its contract: pU is the fifth of a generator's numbers.
use Rattle.layout.proofs.Readings.{pU_at}
use Rattle.layout.proofs.plan.Plan.pU.Goals as goal

pub returns : goal.returns
returns c = pU_at c.args.self.numbers.now c.args.u c.requires
