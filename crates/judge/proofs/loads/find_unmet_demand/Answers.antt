-- `find_unmet_demand` meets its contract: the first period that the loop leaves by is that of the rule.
use Rattle.std.proofs.Common.{rules, ◌≡◌, sym, ap, ◌∙◌, arith}
use borrow.Author.Count.{below_more}
use lib.ListN.{length}
use Rattle.judge.specs.Judgement.{place_found}
use Rattle.judge.proofs.Units.{periods_most}
use Rattle.judge.proofs.Sums.{outputs_are}
use Rattle.judge.proofs.Shortage.{demand_found, demand_ends}
use Rattle.judge.proofs.loads.find_unmet_demand.Goals as goal

pub offset_bounds-problem-t : goal.offset_bounds-problem-t
offset_bounds-problem-t c = omega (arith, periods_most c.args.problem c.args.rows.now c.requires)

pub bounds-problem-t : goal.bounds-problem-t
bounds-problem-t c = omega (arith, periods_most c.args.problem c.args.rows.now c.requires)

pub returns-then-sum_outputs-problem : goal.returns-then-sum_outputs-problem
returns-then-sum_outputs-problem c =
    let p = c.args.problem in
    let r = c.args.rows.now in
    let many : length p.generators ≡ 32 = search rules in
    let summed = c.sum_outputs.ensures ∙ sym (outputs_are p r c.requires many c.loop-t.t c.loop-t-test.true) in
    sym (ap place_found (demand_found p r c.loop-t.t c.loop-t-test.true c.loop-t.invariant (omega (arith, summed, c.if-sum_outputs-problem.true))))

pub loop-t-preserved : goal.loop-t-preserved
loop-t-preserved c =
    let p = c.args.problem in
    let r = c.args.rows.now in
    let many : length p.generators ≡ 32 = search rules in
    let summed = c.sum_outputs.ensures ∙ sym (outputs_are p r c.requires many c.loop-t.t c.loop-t-test.true) in
    below_more _ c.loop-t.t c.loop-t.invariant (omega (arith, summed, c.if-sum_outputs-problem.false))

pub returns : goal.returns
returns c =
    sym (ap place_found (demand_ends c.args.problem c.args.rows.now (λ k h. c.loop-t.invariant k (omega arith))))
