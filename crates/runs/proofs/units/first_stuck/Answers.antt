use mathlib.Core.Path.{◌≡◌, sym, ◌∙◌}
use native.Mathlib.Omega.{arith}
use borrow.Author.Count.{below_more}
use lib.ListN.{length}
use Rattle.layout.specs.Numbers.{instance_in}
use Rattle.walk.specs.Marks.{above_of}
use Rattle.runs.proofs.FirstStuck.{stuck_here, all_free}
use Rattle.runs.proofs.units.first_stuck.Goals as goal

pub returns-then-is_unit_stuck : goal.returns-then-is_unit_stuck
returns-then-is_unit_stuck c =
    let a = c.args in
    let P = instance_in a.plan.numbers.now in
    sym (stuck_here P.periods P.units (above_of P a.fixed.now).marks c.loop-u.u c.loop-u.invariant (sym c.is_unit_stuck.ensures ∙ c.if-is_unit_stuck.true))

pub loop-u-preserved : goal.loop-u-preserved
loop-u-preserved c = below_more _ c.loop-u.u c.loop-u.invariant (sym c.is_unit_stuck.ensures ∙ c.if-is_unit_stuck.false)

pub returns : goal.returns
returns c =
    let a = c.args in
    let P = instance_in a.plan.numbers.now in
    let m = (above_of P a.fixed.now).marks in
    let end : c.loop-u.u ≡ length P.units = omega (arith, c.units-units.ensures, c.loop-u.auto.u-end, c.loop-u-test.false) in
    c.units-units.ensures ∙ sym (all_free P.periods P.units m (rw end at c.loop-u.invariant))
