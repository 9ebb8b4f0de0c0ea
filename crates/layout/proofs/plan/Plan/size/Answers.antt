-- `Plan::size` meets its contract: the pU begin at 610.
use Rattle.layout.specs.Ranks.{pU_of}
use Rattle.layout.proofs.Readings.{of_rank_at}
use Rattle.layout.proofs.plan.Plan.size.Goals as goal

pub returns : goal.returns
returns c =
    of_rank_at c.args.self.numbers.now c.args.i c.requires pU_of 610 c.args.self.laid.sizes
