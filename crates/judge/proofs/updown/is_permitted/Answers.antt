-- A status that stays is permitted; one that changes is judged by the periods spent in the old one.
use mathlib.Core.Path.{sym}
use Rattle.judge.proofs.Tests.{beq_true, beq_false}
use Rattle.judge.proofs.Before.{permitted_same, permitted_off, permitted_on}
use Rattle.judge.proofs.updown.is_permitted.Goals as goal

pub returns-then-before-after : goal.returns-then-before-after
returns-then-before-after c =
    sym (permitted_same c.args.g c.args.g.on c.args.g.since c.args.row.now c.args.t c.requires.1 _ _
    c.was_on-before.ensures c.is_on-after.ensures (beq_true _ _ c.if-before-after.true))

pub returns-then-before : goal.returns-then-before
returns-then-before c =
    sym (permitted_off c.args.g c.args.g.on c.args.g.since c.args.row.now c.args.t c.requires.1 _ _
    c.was_on-before.ensures c.is_on-after.ensures _ c.count_back-spent.ensures
    (beq_false _ _ c.if-before-after.false) c.if-before.true)

pub returns-else-before : goal.returns-else-before
returns-else-before c =
    sym (permitted_on c.args.g c.args.g.on c.args.g.since c.args.row.now c.args.t c.requires.1 _ _
    c.was_on-before.ensures c.is_on-after.ensures _ c.count_back-spent.ensures
    (beq_false _ _ c.if-before-after.false) c.if-before.false)
