-- `keep_back` meets its contract: the three runs one after the other, the last state's value being read before any is written.
use mathlib.Core.Bool.{true}
use native.Mathlib.Omega.{arith}
use Rattle.walk.proofs.Chains.{backed_is}
use Rattle.walk.proofs.table.keep_back.Goals as goal

pub keep_states-requires : goal.keep_states-requires
keep_states-requires g c =
    record { from_le_to = omega arith; good_cost = (c.requires.good_cost.0, λ k h. c.requires.good_cost.1 k); valued = λ e k h i. (c.requires.valued e).2 k (omega arith) }

pub leave_or_keep_states-requires : goal.leave_or_keep_states-requires
leave_or_keep_states-requires g c =
    let kept = c.keep_states.ensures in
    record { from_le_to = omega (arith, kept.same); good_cost = (c.requires.good_cost.0, λ k h. rw (kept.above k h) (c.requires.good_cost.1 k)); valued = λ e. ((c.requires.valued e).0, λ k h i. rw (kept.above k h) ((c.requires.valued e).2 k (omega arith))) }

pub lesser_coded-requires : goal.lesser_coded-requires
lesser_coded-requires g c =
    record { good = (c.requires.good_cost.0, c.requires.good_cost.1 c.args.end); valued = λ e. ((c.requires.valued e).1, (c.requires.valued e).2 c.args.end (omega arith)) }

pub returns : goal.returns
returns g c =
    let a = c.args in
    backed_is _ _ _ a.begin a.end a.early a.last true a.cost _ c.requires.begin_le_end.0 c.requires.begin_le_end.1 c.keep_states.ensures
    c.leave_or_keep_states.ensures c.lesser_coded.ensures

pub shape_of-states : goal.shape_of-states
shape_of-states g c = (returns g c).same
