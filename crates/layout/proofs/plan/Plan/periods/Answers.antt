-- `Plan::periods` meets its contract: the periods stand first.
use mathlib.Core.Path.{refl}
use Rattle.layout.specs.Numbers.{instance_in}
use Rattle.layout.proofs.plan.Plan.periods.Goals as goal

pub returns : goal.returns
unfolding instance_in
returns c = refl
