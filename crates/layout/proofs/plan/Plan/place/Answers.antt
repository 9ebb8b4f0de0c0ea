-- `Plan::place` meets its contract: the places begin at 642.
use Rattle.layout.specs.Numbers.{instance_in}
use Rattle.layout.specs.Ranks.{place_of}
use Rattle.layout.proofs.Readings.{of_rank_at}
use Rattle.layout.proofs.plan.Plan.place.Goals as goal

pub returns : goal.returns
returns c =
    of_rank_at c.args.self.numbers.now c.args.i c.requires (place_of (instance_in c.args.self.numbers.now).periods) 642 c.args.self.laid.places
