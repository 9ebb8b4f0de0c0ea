-- `is_no_worse` meets its contract: each way through it is one case of the definition.
use mathlib.Core.Path.{sym}
use Rattle.model.specs.RunWalk.{no_worse}
use Rattle.runs.proofs.Forward.{no_worse_alone, no_worse_both}
use Rattle.runs.proofs.status.is_no_worse.Goals as goal

pub returns-then-y-eq0 : goal.returns-then-y-eq0
returns-then-y-eq0 c = rw c.if-y-eq0.true (sym (no_worse_alone _ c.if-x-ne0.true))

pub returns-else-y-eq0 : goal.returns-else-y-eq0
returns-else-y-eq0 c = sym (no_worse_both _ _ c.if-x-ne0.true c.if-y-eq0.false)

pub returns-else-x-ne0 : goal.returns-else-x-ne0
unfolding no_worse
returns-else-x-ne0 c = rw c.if-x-ne0.false
