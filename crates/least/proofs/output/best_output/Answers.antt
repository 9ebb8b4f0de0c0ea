-- `best_output` meets its contract, by the cases of the closed form.
use Rattle.least.proofs.Outputs.{best_at_low, best_at_flat, best_at_top, best_at_quotient}
use Rattle.least.proofs.output.best_output.Goals as goal
use Rattle.least.proofs.output.best_output.Goals.{then-g-eq0-via-then-g-eq0, then-g-eq0-via-else-g-eq0+then-x-g}

pub returns-then-y-x : goal.returns-then-y-x
returns-then-y-x c = best_at_low c.args.unit.generator c.args.x c.args.y c.if-y-x.true

pub returns-then-g-eq0 : goal.returns-then-g-eq0
returns-then-g-eq0 c =
    let a = c.args in
    elim c.then-g-eq0.branch [
      | then-g-eq0-via-then-g-eq0 w ↦ best_at_flat a.unit.generator a.x a.y c.if-y-x.false w.if-g-eq0.true
      | then-g-eq0-via-else-g-eq0+then-x-g w ↦ best_at_top a.unit.generator a.x a.y c.if-y-x.false w.if-g-eq0.false w.if-x-g.true
    ]

pub returns : goal.returns
returns c = best_at_quotient c.args.unit.generator c.args.x c.args.y c.if-y-x.false c.if-g-eq0.false c.if-x-g.false
