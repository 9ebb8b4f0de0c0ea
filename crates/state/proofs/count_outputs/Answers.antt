-- A sound docket's schedule has at most 1,536 outputs.
use Rattle.std.proofs.Common.{◌*◌, ◌≤◌, Option, sym, ap, arith}
use Rattle.docket.specs.declared.held.CostBy.{CostBy}
use Rattle.state.specs.Kept.{count_under}
use Rattle.state.proofs.Outputs.{outputs_few}
use Rattle.state.proofs.count_outputs.Goals as goal

pub overflow_mul-result : goal.overflow_mul-result
overflow_mul-result c =
    let d = c.args.docket in
    let e = ap (λ (h : Option CostBy). count_under h d.problem.units d.problem.periods) (sym c.in-Some.is) in
    let f : d.problem.units * d.problem.periods ≤ 1536 = rw e (outputs_few d c.requires) in
    record { fits = omega (arith, f) }
