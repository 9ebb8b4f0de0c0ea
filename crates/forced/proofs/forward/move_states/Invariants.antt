-- `move_states` meets its contract. The loop's invariant: the states above this one are moved, and those up to it not yet.
use Rattle.forced.proofs.Moving.{Moving}
use Rattle.forced.proofs.forward.move_states.Given as goal

abbrev pub invariant-loop-i : goal.invariant-loop-i
invariant-loop-i l = Moving l.initial.states l.states l.i l.top l.allowed l.cost
