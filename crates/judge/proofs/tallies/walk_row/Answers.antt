use mathlib.Core.Path.{sym, ap, subst, ◌∙◌}
use native.Mathlib.Omega.{arith}
use Rattle.model.specs.Instance.{◌at◌}
use Rattle.model.specs.Rules.{on}
use Rattle.judge.specs.declared.tallies.Walk.{Walk}
use Rattle.judge.specs.Walk.{Room, one_further}
use Rattle.judge.proofs.Tests.{on_is}
use Rattle.judge.proofs.Walk.{walk_next, walk_room}
use Rattle.judge.proofs.tallies.walk_row.Goals as goal

pub pass-walk-requires : goal.pass-walk-requires
pass-walk-requires c =
    let l = c.loop-output in
    subst (λ (w : Walk). Room w) (sym l.invariant) (walk_room c.args.unit.generator c.args.unit.good c.args.row.now l.output-index (omega (arith, c.requires)))

pub loop-output-preserved : goal.loop-output-preserved
loop-output-preserved c =
    let a = c.args in
    let l = c.loop-output in
    c.pass-walk.ensures
    ∙ ap (one_further a.unit.generator l.walk) (on_is (a.row.now at l.output-index))
    ∙ ap (λ (w : Walk). one_further a.unit.generator w (on (a.row.now at l.output-index))) l.invariant
    ∙ walk_next a.unit.generator a.row.now l.output-index c.loop-output-test.true
