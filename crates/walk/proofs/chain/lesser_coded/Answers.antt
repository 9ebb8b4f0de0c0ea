-- `lesser_coded` meets its contract: of no value and another, the lesser is the other.
use Rattle.std.proofs.Common.{rules, arith, ◌<◌}
use Rattle.model.specs.Walk.{lesser}
use Rattle.walk.proofs.chain.lesser_coded.Goals as goal
use Rattle.walk.proofs.chain.lesser_coded.Goals.{else-not-this-via-then-not-this+else-x-eq0, else-not-this-via-else-not-this}

pub returns-then-x-eq0 : goal.returns-then-x-eq0
unfolding lesser
returns-then-x-eq0 g c = rw c.if-x-eq0.true c.plus_value.ensures

pub lesser_plus-requires : goal.lesser_plus-requires
lesser_plus-requires g c =
    let there : 0 < c.args.x = elim c.else-not-this.branch [
      | else-not-this-via-then-not-this+else-x-eq0 w ↦ omega arith
      | else-not-this-via-else-not-this w ↦ (c.requires.valued (search rules)).0
    ] in
    record { good = (there, c.requires.good); valued = λ e. (c.requires.valued e).1 }
