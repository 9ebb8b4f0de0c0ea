-- `plus_value` meets its contract: each way through it is one case of the definition.
use Rattle.std.proofs.Common.{rules, arith, sym, ◌<◌}
use Rattle.model.specs.Walk.{plus}
use Rattle.model.proofs.Coded.{plus_some}
use Rattle.walk.proofs.chain.plus_value.Goals as goal
use Rattle.walk.proofs.chain.plus_value.Goals.{else-not-this-via-then-not-this+else-v-eq0, else-not-this-via-else-not-this}

pub returns-then-v-eq0 : goal.returns-then-v-eq0
unfolding plus
returns-then-v-eq0 g c = rw c.if-v-eq0.true

pub returns-else-not-this : goal.returns-else-not-this
returns-else-not-this g c =
    let there : 0 < c.args.v = elim c.else-not-this.branch [
      | else-not-this-via-then-not-this+else-v-eq0 w ↦ omega arith
      | else-not-this-via-else-not-this w ↦ c.requires.valued (search rules)
    ] in
    sym (plus_some _ _ there)
