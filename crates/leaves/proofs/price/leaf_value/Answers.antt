-- `leaf_value` meets its contract: the units' answer leaves room for the requirement, and with it is the leaf's.
use mathlib.Core.Path.{ap, ◌∙◌}
use Rattle.model.specs.Instance.{◌at◌}
use Rattle.layout.specs.Numbers.{instance_in}
use Rattle.walk.specs.Marks.{above_of}
use Rattle.leaves.specs.LeafLeasts.{plus_requirement}
use Rattle.leaves.proofs.LeafAnswers.{leaf_answer, leasts_small}
use Rattle.leaves.proofs.price.leaf_value.Goals as goal

pub with_requirement-requires : goal.with_requirement-requires
with_requirement-requires c =
    let a = c.args in
    let P = instance_in a.plan.numbers.now in
    record { good_prices = c.requires.good_prices; small_least = rw c.units_least.ensures (leasts_small P c.args.plan.laid.well_formed (above_of P a.above.now).marks a.q.now a.s.now c.requires.good_prices) }

pub returns : goal.returns
returns c =
    let a = c.args in
    let P = instance_in a.plan.numbers.now in
    c.with_requirement.ensures ∙ ap (plus_requirement P (λ t. a.q.now at t) (λ t. a.s.now at t)) c.units_least.ensures
    ∙ leaf_answer P (above_of P a.above.now).marks (λ t. a.q.now at t) (λ t. a.s.now at t)
