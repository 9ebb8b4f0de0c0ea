-- `is_sound` meets its contract: with a problem known or none.
use Rattle.docket.specs.Docket.{sound}
use Rattle.docket.proofs.Differences.{no_cost_is}
use Rattle.docket.proofs.sound.is_sound.Goals as goal

pub returns-then-docket : goal.returns-then-docket
unfolding sound
returns-then-docket c = simp (c.is_sound_under.ensures, c.if-docket.true)

pub returns-then-is_none : goal.returns-then-is_none
unfolding sound
returns-then-is_none c = simp (c.is_no_bound.ensures, c.if-docket.false, no_cost_is c.args.docket.held.cost, c.if-is_none.ensures)

pub returns-else-is_none : goal.returns-else-is_none
unfolding sound
returns-else-is_none c = simp (c.if-is_none.false, c.if-docket.false, no_cost_is c.args.docket.held.cost, c.if-is_none.ensures)
