-- `kept_value` meets its contract: each way through it is one case of the definition.
use Rattle.std.proofs.Common.{sym, arith}
use Rattle.model.specs.Walk.{plus}
use Rattle.model.proofs.Coded.{plus_some}
use Rattle.walk.proofs.table.kept_value.Goals as goal
use Rattle.walk.proofs.table.kept_value.Goals.{else-allowed-via-else-allowed, else-allowed-via-then-allowed+else-v-ne0}

pub returns-then-v-ne0 : goal.returns-then-v-ne0
returns-then-v-ne0 c = rw c.if-allowed.true (sym (plus_some _ _ (omega arith)))

pub returns-else-allowed : goal.returns-else-allowed
unfolding plus
returns-else-allowed c =
    elim c.else-allowed.branch [
      | else-allowed-via-else-allowed w ↦ rw w.if-allowed.false
      | else-allowed-via-then-allowed+else-v-ne0 w ↦ rw (w.if-allowed.true, w.if-v-ne0.false)
    ]
