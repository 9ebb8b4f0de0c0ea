-- Before period 1 the generator says; later the row does.
use mathlib.Core.Path.{sym, ◌∙◌}
use native.Mathlib.Omega.{arith}
use Rattle.judge.proofs.Before.{status_later}
use Rattle.judge.proofs.updown.was_on.Goals as goal

pub returns-else-t-eq0 : goal.returns-else-t-eq0
returns-else-t-eq0 c =
    let a = c.args in
    c.is_on.ensures ∙ sym (status_later a.g.on a.row.now a.t c.if-t-eq0.false (omega (arith, c.requires)))
