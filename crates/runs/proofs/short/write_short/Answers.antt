use mathlib.Core.Path.{◌∙◌}
use native.Mathlib.Omega.{arith}
use Rattle.layout.specs.Numbers.{instance_in}
use Rattle.runs.proofs.PeriodLists.{filled}
use Rattle.runs.proofs.Columns.{short_at}
use Rattle.runs.proofs.short.write_short.Goals as goal

pub returns : goal.returns
returns c =
    let P = instance_in c.args.plan.numbers.now in
    filled (short_at P c.args.rows.now) P.periods c.loop-t.short (c.loop-t.auto.short ∙ c.requires.short_len) (λ t h. c.loop-t.invariant t (omega (arith, c.requires.short_len, c.loop-t-test.false)))
