use native.Mathlib.Omega.{arith}
use mathlib.Core.Path.{refl}
use Rattle.pieces.proofs.Places.{line_none, line_stop, line_on}
use Rattle.pieces.proofs.line_end.Goals as goal

pub loop-i-init : goal.loop-i-init
loop-i-init c = (refl, omega arith)

pub returns-then-s-i-eq10 : goal.returns-then-s-i-eq10
returns-then-s-i-eq10 c =
    let a = c.args in
    omega (arith, line_stop a.s.now c.loop-i.i c.loop-i-test.true c.if-s-i-eq10.true, c.loop-i.invariant.0)

pub loop-i-preserved : goal.loop-i-preserved
loop-i-preserved c =
    let a = c.args in
    (omega (arith, line_on a.s.now c.loop-i.i c.loop-i-test.true c.if-s-i-eq10.false, c.loop-i.invariant.0), omega arith)

pub returns : goal.returns
returns c =
    let a = c.args in
    omega (arith, line_none a.s.now c.loop-i.i c.loop-i-test.false, c.loop-i.invariant, c.max.ensures)
