-- `sum_ramp_offset` meets its contract. The loop's invariant: the sum is that of the periods passed.
use Rattle.std.proofs.Common.{◌≡◌, ℕ, List, length, pred}
use Rattle.model.specs.declared.generator.Generator.{Generator}
use Rattle.model.specs.Instance.{◌at◌, sum as sum_of}
use Rattle.model.specs.RampCosts.{added}
use Rattle.least.proofs.StepCosts.{steps}
use Rattle.least.proofs.ramp.sum_ramp_offset.Given as goal

-- what is added in a period
abbrev pub added-in : Generator → List ℕ → List ℕ → List ℕ → List ℕ → ℕ → ℕ
added-in g q s up down = added (pred (length q)) g (λ t. q at t) (λ t. s at t) (steps up) (steps down)

abbrev pub invariant-loop-t : goal.invariant-loop-t
invariant-loop-t l = l.sum ≡ sum_of l.t (added-in l.unit.generator l.q l.s l.up l.down)
