-- What a plan's numbers say.
use Rattle.model.specs.Instance.{Instance}
use Rattle.layout.specs.declared.plan.Plan.{Plan}
use Rattle.layout.specs.Numbers.{instance_in}

-- the problem that it is of
abbrev pub instance_of : Plan → Instance
instance_of plan = instance_in plan.numbers.now
