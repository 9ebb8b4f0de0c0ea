-- `lesser_value` meets its contract: each way through it is one case of the definition.
use native.Mathlib.Omega.{arith}
use Rattle.model.specs.Walk.{lesser}
use Rattle.model.proofs.Coded.{lesser_none, lesser_some}
use Rattle.walk.proofs.table.lesser_value.Goals as goal

pub returns-then-x-eq0 : goal.returns-then-x-eq0
unfolding lesser
returns-then-x-eq0 c = rw c.if-x-eq0.true

pub returns-then-y-eq0 : goal.returns-then-y-eq0
returns-then-y-eq0 c = rw (c.if-y-eq0.true, lesser_none)

pub returns : goal.returns
returns c =
    let a = c.args in
    rw (lesser_some a.x a.y (omega arith) (omega arith)) c.min.ensures
