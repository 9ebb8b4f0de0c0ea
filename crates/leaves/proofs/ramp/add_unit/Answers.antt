-- `add_unit` meets its contract: both answers taken apart, and the values added.
use Rattle.std.proofs.Common.{rules, ◌≡◌, sym, suc, get_or, Some, w64, to_z, of_z}
use Rattle.model.specs.Instance.{◌at◌}
use Rattle.model.specs.Ranges.{GoodUnit}
use Rattle.model.specs.Held.{blank_generator}
use Rattle.layout.specs.Numbers.{instance_in}
use Rattle.walk.specs.Marks.{above_of}
use Rattle.least.proofs.Costs.{price_in, reserve_in}
use Rattle.least.proofs.StepCosts.{steps, step_in}
use Rattle.least.proofs.UnitParts.{all_get_d}
use Rattle.leaves.proofs.SmallSums.{small_told}
use Rattle.leaves.proofs.RampUnits.{ramp_value_small}
use Rattle.leaves.proofs.ramp.add_unit.Goals as goal

-- the unit's value is small
pub add-requires : goal.add-requires
add-requires c =
    let a = c.args in
    let P = instance_in a.plan.numbers.now in
    let W = c.args.plan.laid.well_formed in
    let prices = c.requires.good_prices in
    let rises = c.requires.good_steps.0 in
    let falls = c.requires.good_steps.1 in
    let z = c.in_ok-before.before in
    let v = c.in_ok-v.v in
    let same_sum : to_z w64 (of_z w64 z) ≡ z = search rules in
    let same : to_z w64 (of_z w64 v) ≡ v = search rules in
    let was_sum : Some z ≡ a.sum = sym c.in_ok-before.was in (
      rw same_sum (small_told a.sum z was_sum c.requires.small_least),
      rw same (
          ramp_value_small P.periods W.periods_in.1 (λ t. a.q.now at t) (λ t. a.s.now at t)
          (λ t l. price_in P.periods a.q.now a.s.now prices t) (λ t l. reserve_in P.periods a.q.now a.s.now prices t)
          (steps a.up.now) (steps a.down.now) (λ t. step_in P.periods a.up.now rises (suc t)) (λ t. step_in P.periods a.down.now falls (suc t))
          (get_or P.units a.u blank_generator) (all_get_d GoodUnit a.u P.units blank_generator c.requires.u_in_bounds W.units_good) ((above_of P a.above.now).marks a.u) v c.in_ok-v.ensures
          ),
    )
