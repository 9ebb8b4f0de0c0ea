-- `unit_answer` meets its contract: the unit's part of the fixed statuses has the unit's marks.
use mathlib.Core.Path.{◌≡◌, sym, ap, ◌∙◌}
use Prim.Native.Nat.{ℕ, ◌+◌, ◌*◌, ◌-◌, ◌≤◌}
use native.Mathlib.Omega.{arith}
use lib.ListN.{length, get_or, take, drop}
use Rattle.model.specs.declared.generator.Generator.{Generator}
use Rattle.model.specs.Instance.{◌at◌}
use Rattle.model.specs.Ranges.{GoodUnit}
use Rattle.model.specs.Held.{blank_generator}
use Rattle.layout.specs.Numbers.{instance_in}
use Rattle.walk.specs.Marks.{marks_of}
use Rattle.least.specs.UnitLeasts.{ramp_least_of}
use Rattle.least.proofs.StepCosts.{steps}
use Rattle.least.proofs.UnitParts.{all_get_d, part_within, part_long, ramp_part_answer}
use Rattle.leaves.proofs.ramp.unit_answer.Goals as goal
use Rattle.leaves.proofs.ramp.unit_answer.Tie as tie
use Rattle.leaves.proofs.ramp.unit_answer.Reads as reads
use Rattle.leaves.proofs.ramp.unit_answer.Lts as lts

-- the unit's part is within the fixed statuses
within : (c : lts.After-periods tie.the-claims reads.Pre reads.Post tie.handed_clauses) →
    c.args.u * c.periods-n.result + c.periods-n.result ≤ length c.args.above.now
within c =
    let P = instance_in c.args.plan.numbers.now in
    part_within (length P.units) c.periods-n.result c.args.u (length c.args.above.now) c.requires.u_in_bounds (rw c.periods-n.ensures c.requires.numbers_in_bounds)

-- the unit is good
good : (c : lts.After-periods tie.the-claims reads.Pre reads.Post tie.handed_clauses) → GoodUnit (get_or (instance_in c.args.plan.numbers.now).units c.args.u blank_generator)
good c = all_get_d GoodUnit c.args.u (instance_in c.args.plan.numbers.now).units blank_generator c.requires.u_in_bounds c.args.plan.laid.well_formed.units_good

pub overflow_mul-begin : goal.overflow_mul-begin
overflow_mul-begin c = omega (arith, within c.before)

pub overflow_add-end : goal.overflow_add-end
overflow_add-end c = omega (arith, within c.before)

pub slice_bounds-ramp_least-end : goal.slice_bounds-ramp_least-end
slice_bounds-ramp_least-end c = within c.before.before

pub ramp_least-requires : goal.ramp_least-requires
ramp_least-requires c =
    let a = c.args in
    let n = c.periods-n.result in
    let long : length a.q.now ≡ (instance_in a.plan.numbers.now).periods = c.requires.good_prices.q_long in record { good_prices = (rw long c.requires.good_prices, part_long n (a.u * n) a.above.now (within c.before.before.before) ∙ c.periods-n.ensures ∙ sym long); good_steps = rw long c.requires.good_steps }

pub returns : goal.returns
returns c =
    let a = c.args in
    let P = instance_in a.plan.numbers.now in
    let n = c.periods-n.result in
    let e : n ≡ P.periods = c.periods-n.ensures in
    let place = a.u * n in
    let long = place + n - place in
    c.ramp_least.ensures
    ∙ ap (λ (g : Generator). ramp_least_of (length a.q.now) (λ t. a.q.now at t) (λ t. a.s.now at t) (steps a.up.now) (steps a.down.now) g (marks_of (take long (drop place a.above.now))))
    c.unit.ensures
    ∙ ramp_part_answer (length P.units) P.periods a.u a.above.now c.requires.u_in_bounds (λ t. a.q.now at t) (λ t. a.s.now at t) (get_or P.units a.u blank_generator) (good c.before.before.before.before)
    (steps a.up.now) (steps a.down.now) (length a.q.now) place long c.requires.good_prices.q_long (ap (λ (k : ℕ). a.u * k) e) (omega (arith, e))
