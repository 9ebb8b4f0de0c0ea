-- `fill_ramp_costs` meets its contract. The loop's invariant: the periods passed have their costs.
use Rattle.std.proofs.Common.{◌≡◌, ℕ, ◌<◌, Bool, true, false, List, length, pred}
use Rattle.model.specs.declared.generator.Generator.{Generator}
use Rattle.model.specs.Instance.{◌at◌}
use Rattle.model.specs.RampCosts.{ramp_worth}
use Rattle.least.proofs.StepCosts.{steps}
use Rattle.least.proofs.ramp.fill_ramp_costs.Given as goal

-- what the periods cost
abbrev pub costs : Generator → List ℕ → List ℕ → List ℕ → List ℕ → ℕ → Bool → ℕ
costs g q s up down = ramp_worth (pred (length q)) g (λ t. q at t) (λ t. s at t) (steps up) (steps down)

abbrev pub invariant-loop-t : goal.invariant-loop-t
invariant-loop-t l = record {
  on_at : (k : ℕ) → k < l.t → l.on at k ≡ costs l.unit.generator l.q l.s l.up l.down k true;
  off_at : (k : ℕ) → k < l.t → l.off at k ≡ costs l.unit.generator l.q l.s l.up l.down k false;
}
