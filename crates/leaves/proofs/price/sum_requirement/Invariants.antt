-- `sum_requirement` meets its contract. The loop's invariant: the sum is that of the periods passed.
use Rattle.std.proofs.Common.{◌≡◌}
use Rattle.model.specs.Instance.{sum as sum_of}
use Rattle.layout.specs.Numbers.{instance_in}
use Rattle.leaves.proofs.Requirements.{required_at}
use Rattle.leaves.proofs.price.sum_requirement.Given as goal

abbrev pub invariant-loop-t : goal.invariant-loop-t
invariant-loop-t l = l.sum ≡ sum_of l.t (λ i. required_at (instance_in l.plan.numbers.now) l.q l.s i)
