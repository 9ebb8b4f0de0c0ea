-- `lesser_plus` meets its contract: each way through it is one case of the definition.
use Rattle.std.proofs.Common.{rules, arith, ◌<◌, ◌+◌}
use Rattle.model.specs.Walk.{plus}
use Rattle.model.proofs.Coded.{plus_some, lesser_none, lesser_some}
use Rattle.walk.proofs.chain.lesser_plus.Goals as goal
use Rattle.walk.proofs.chain.lesser_plus.Goals.{else-not-this-via-then-not-this+else-v-eq0, else-not-this-via-else-not-this}

pub returns-then-v-eq0 : goal.returns-then-v-eq0
unfolding plus
returns-then-v-eq0 g c = rw (c.if-v-eq0.true, lesser_none)

pub returns-else-not-this : goal.returns-else-not-this
returns-else-not-this g c =
    let a = c.args in
    let there : 0 < a.v = elim c.else-not-this.branch [
      | else-not-this-via-then-not-this+else-v-eq0 w ↦ omega arith
      | else-not-this-via-else-not-this w ↦ c.requires.valued (search rules)
    ] in
    rw (plus_some a.k a.v there, lesser_some a.early (a.k + a.v) c.requires.good.0 (omega arith)) (omega (arith, c.min.ensures))
