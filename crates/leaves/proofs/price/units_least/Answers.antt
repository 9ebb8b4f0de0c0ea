use Rattle.std.proofs.Common.{rules, arith, ◌≡◌, ◌∙◌, sym, ap, ap₂, refl, ◌+◌, ◌*◌, ◌-◌, ◌≤◌, ◌<◌, length, ℕ, get_or, take, drop, ◌+ℤ◌, w64, to_z, of_z}
use Rattle.model.specs.declared.generator.Generator.{Generator}
use Rattle.model.specs.Instance.{◌at◌}
use Rattle.model.specs.Ranges.{GoodUnit}
use Rattle.model.specs.Held.{blank_generator}
use Rattle.model.specs.Leaf.{units_least}
use Rattle.layout.specs.Numbers.{instance_in}
use Rattle.walk.specs.Marks.{marks_of, above_of}
use Rattle.least.specs.UnitLeasts.{least_of}
use Rattle.least.proofs.UnitParts.{part_answer, all_get_d, part_within, part_long}
use Rattle.leaves.proofs.Units.{stuck_found, value_found, none_found, value_small, front_small}
use Rattle.leaves.proofs.price.units_least.Goals as goal
use Rattle.leaves.proofs.price.units_least.Tie as tie
use Rattle.leaves.proofs.price.units_least.Reads as reads
use Rattle.leaves.proofs.price.units_least.Lts as lts

pub loop-u-init : goal.loop-u-init
unfolding units_least
loop-u-init c = record { free = refl; summed = refl }

-- the next unit is one of the problem's
next : (c : lts.In-loop tie.the-claims reads.Pre reads.Post goal.the-invariant-loop-u goal.the-decreases-loop-u tie.handed_clauses) → c.loop-u.u < length (instance_in c.args.plan.numbers.now).units
next c = omega (arith, c.units-u-end.ensures, c.loop-u-test.true)

-- and good
next-good : (c : lts.In-loop tie.the-claims reads.Pre reads.Post goal.the-invariant-loop-u goal.the-decreases-loop-u tie.handed_clauses) → GoodUnit (get_or (instance_in c.args.plan.numbers.now).units c.loop-u.u blank_generator)
next-good c = all_get_d GoodUnit c.loop-u.u (instance_in c.args.plan.numbers.now).units blank_generator (next c) c.args.plan.laid.well_formed.units_good

-- its part is within the fixed statuses
within : (c : lts.In-loop tie.the-claims reads.Pre reads.Post goal.the-invariant-loop-u goal.the-decreases-loop-u tie.handed_clauses) → c.loop-u.u * c.periods-n.result + c.periods-n.result ≤ length c.args.above.now
within c =
    let P = instance_in c.args.plan.numbers.now in
    rw c.periods-n.ensures (part_within (length P.units) P.periods c.loop-u.u (length c.args.above.now) (next c) c.requires.numbers_in_bounds)

-- what the call found
answer : (c : lts.After-unit_least tie.the-claims reads.Pre reads.Post goal.the-invariant-loop-u goal.the-decreases-loop-u tie.handed_clauses) →
    let a = c.args in
    let P = instance_in a.plan.numbers.now in
    c.unit_least.result
    ≡ least_of P.periods (λ t. a.q.now at t) (λ t. a.s.now at t) (get_or P.units c.loop-u.u blank_generator) ((above_of P a.above.now).marks c.loop-u.u)
answer c =
    let a = c.args in
    let P = instance_in a.plan.numbers.now in
    let n = c.periods-n.result in
    let begin = c.loop-u.u * n in
    let long = begin + n - begin in
    c.unit_least.ensures
    ∙ ap (λ (g : Generator). least_of (length a.q.now) (λ t. a.q.now at t) (λ t. a.s.now at t) g (marks_of (take long (drop begin a.above.now)))) c.unit.ensures
    ∙ part_answer (length P.units) P.periods c.loop-u.u a.above.now (next c.before.before.before) (λ t. a.q.now at t) (λ t. a.s.now at t) (get_or P.units c.loop-u.u blank_generator)
    (next-good c.before.before.before) (length a.q.now) begin long c.requires.good_prices.q_long (ap (λ (k : ℕ). c.loop-u.u * k) c.periods-n.ensures) (omega (arith, c.periods-n.ensures))

pub slice_bounds-unit_least-end : goal.slice_bounds-unit_least-end
slice_bounds-unit_least-end c = within c.before.before

pub unit_least-requires : goal.unit_least-requires
unit_least-requires c =
    let long = c.requires.good_prices.q_long in
    let n = c.periods-n.result in
    let begin = c.loop-u.u * n in
    (rw long c.requires.good_prices, part_long n begin c.args.above.now (within c.before.before.before) ∙ c.periods-n.ensures ∙ sym long)

pub returns-in_err-v : goal.returns-in_err-v
returns-in_err-v c =
    let a = c.args in
    let P = instance_in a.plan.numbers.now in
    c.from_residual.ensures
    ∙ stuck_found P.periods (λ t. a.q.now at t) (λ t. a.s.now at t) c.loop-u.u P.units blank_generator (above_of P a.above.now).marks
    (next c.before.before.before.before.before.before.before) (sym c.in_err-v.was ∙ answer c.before.before.before.before)

pub add-total-requires : goal.add-total-requires
add-total-requires c =
    let a = c.args in
    let P = instance_in a.plan.numbers.now in
    let W = c.args.plan.laid.well_formed in
    let m = (above_of P a.above.now).marks in
    let v = c.in_ok-v.v in
    let same : to_z w64 (of_z w64 v) ≡ v = search rules in (
      rw c.loop-u.invariant.summed (front_small P.periods a.q.now a.s.now c.requires.good_prices c.loop-u.u P.units W.units_good W.units_in.1 m),
      rw same (
          value_small P.periods a.q.now a.s.now c.requires.good_prices (get_or P.units c.loop-u.u blank_generator) (next-good c.before.before.before.before.before.before) (m c.loop-u.u) v
          (sym c.in_ok-v.was ∙ answer c.before.before.before)
          ),
    )

pub loop-u-preserved : goal.loop-u-preserved
loop-u-preserved c =
    let a = c.args in
    let P = instance_in a.plan.numbers.now in
    let v = c.in_ok-v.v in
    let same : to_z w64 (of_z w64 v) ≡ v = search rules in
    let sum : to_z w64 (of_z w64 c.add-total.result) ≡ c.add-total.result = search rules in
    let f = value_found P.periods (λ t. a.q.now at t) (λ t. a.s.now at t) c.loop-u.u P.units blank_generator (above_of P a.above.now).marks
    (next c.before.before.before.before.before.before.before) v (sym c.in_ok-v.was ∙ answer c.before.before.before.before) c.loop-u.invariant.free in record {
      free = f.0;
      summed = sum ∙ c.add-total.ensures ∙ ap₂ ◌+ℤ◌ c.loop-u.invariant.summed same ∙ f.1;
    }

pub returns : goal.returns
returns c =
    let a = c.args in
    let P = instance_in a.plan.numbers.now in
    let end : c.loop-u.u ≡ length P.units = omega (arith, c.units-u-end.ensures, c.loop-u-test.false, c.loop-u.auto.u-end) in
    none_found P.periods (λ t. a.q.now at t) (λ t. a.s.now at t) c.loop-u.u P.units (above_of P a.above.now).marks
    _ end c.loop-u.invariant.free c.loop-u.invariant.summed
