-- `find_unmet_spare` meets its contract: the first period that the loop leaves by is that of the rule.
use Rattle.std.proofs.Common.{rules, ◌≡◌, ℕ, List, sym, ap, ◌∙◌, arith}
use borrow.Author.Count.{below_more}
use lib.ListN.{length, take}
use Rattle.judge.specs.Judgement.{place_found}
use Rattle.judge.specs.Loads.{capacity_in}
use Rattle.judge.proofs.Units.{periods_most, demand_most, spare_most}
use Rattle.judge.proofs.Standing.{caps_standing, caps_in, caps_are}
use Rattle.judge.proofs.Shortage.{spare_found, spare_ends}
use Rattle.judge.proofs.loads.find_unmet_spare.Goals as goal

pub sum_capacities-requires : goal.sum_capacities-requires
sum_capacities-requires c =
    let p = c.args.problem in
    let r = c.args.rows.now in
    let many : length p.generators ≡ 32 = search rules in
    rw c.list_capacities-capacities.ensures (caps_standing p r c.requires many, c.loop-t-test.true, caps_in p r c.requires many)

pub offset_bounds-problem-t : goal.offset_bounds-problem-t
offset_bounds-problem-t c = omega (arith, periods_most c.args.problem c.args.rows.now c.requires)

pub bounds-problem-t : goal.bounds-problem-t
bounds-problem-t c = omega (arith, periods_most c.args.problem c.args.rows.now c.requires)

pub offset_bounds-problem-t-in-loop-t : goal.offset_bounds-problem-t-in-loop-t
offset_bounds-problem-t-in-loop-t c = omega (arith, periods_most c.args.problem c.args.rows.now c.requires)

pub bounds-problem-t-in-loop-t : goal.bounds-problem-t-in-loop-t
bounds-problem-t-in-loop-t c = omega (arith, periods_most c.args.problem c.args.rows.now c.requires)

pub overflow_add-problem : goal.overflow_add-problem
overflow_add-problem c =
    let t = c.loop-t.t in
    omega (
      arith,
      demand_most c.args.problem c.args.rows.now c.requires t c.loop-t-test.true,
      spare_most c.args.problem c.args.rows.now c.requires t c.loop-t-test.true,
    )

pub returns-then-sum_capacities-problem : goal.returns-then-sum_capacities-problem
returns-then-sum_capacities-problem c =
    let p = c.args.problem in
    let r = c.args.rows.now in
    let t = c.loop-t.t in
    let many : length p.generators ≡ 32 = search rules in
    let summed = c.sum_capacities.ensures
    ∙ ap (λ (x : List ℕ). capacity_in (take p.units x) p.periods r t) c.list_capacities-capacities.ensures
    ∙ caps_are p r c.requires many t c.loop-t-test.true in
    sym (ap place_found (spare_found p r t c.loop-t-test.true c.loop-t.invariant (omega (arith, summed, c.if-sum_capacities-problem.true))))

pub loop-t-preserved : goal.loop-t-preserved
loop-t-preserved c =
    let p = c.args.problem in
    let r = c.args.rows.now in
    let t = c.loop-t.t in
    let many : length p.generators ≡ 32 = search rules in
    let summed = c.sum_capacities.ensures
    ∙ ap (λ (x : List ℕ). capacity_in (take p.units x) p.periods r t) c.list_capacities-capacities.ensures
    ∙ caps_are p r c.requires many t c.loop-t-test.true in
    below_more _ t c.loop-t.invariant (omega (arith, summed, c.if-sum_capacities-problem.false))

pub returns : goal.returns
returns c =
    sym (ap place_found (spare_ends c.args.problem c.args.rows.now (λ k h. c.loop-t.invariant k (omega arith))))
