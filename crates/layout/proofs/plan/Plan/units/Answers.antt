-- `Plan::units` meets its contract: the units are as many as the second number says.
use mathlib.Core.Path.{sym}
use Rattle.layout.proofs.Readings.{units_long}
use Rattle.layout.proofs.plan.Plan.units.Goals as goal

pub returns : goal.returns
returns c = sym (units_long c.args.self.numbers.now)
