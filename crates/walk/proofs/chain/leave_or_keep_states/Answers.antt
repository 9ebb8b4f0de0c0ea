-- `leave_or_keep_states` meets its contract: of leaving where there is no leaving and keeping, the lesser is keeping.
use Rattle.model.specs.Walk.{lesser}
use Rattle.walk.proofs.chain.leave_or_keep_states.Goals as goal

pub returns-then-early-eq0 : goal.returns-then-early-eq0
unfolding lesser
returns-then-early-eq0 g c = rw c.if-early-eq0.true c.keep_states.ensures
