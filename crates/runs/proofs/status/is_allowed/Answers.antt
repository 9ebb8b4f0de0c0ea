-- `is_allowed` meets its contract by the laws of a byte of a fixed status.
use mathlib.Core.Path.{sym}
use Rattle.walk.proofs.StatusMarks.{allows_on, allows_off}
use Rattle.runs.proofs.status.is_allowed.Goals as goal

pub returns-then-next : goal.returns-then-next
returns-then-next c = rw c.if-next.true (sym (allows_on c.args.mark))

pub returns-else-next : goal.returns-else-next
returns-else-next c = rw c.if-next.false (sym (allows_off c.args.mark))
