-- `lower_states` meets its contract. The loop's invariant: the states from the first to this one are written, and no other.
use Prim.Native.Nat.{◌+◌}
use Rattle.model.specs.Instance.{◌at◌}
use Rattle.model.specs.Walk.{plus, lesser}
use Rattle.walk.specs.GoingBack.{Rewritten}
use Rattle.walk.proofs.chain.lower_states.Given as goal

abbrev pub invariant-loop-i : goal.invariant-loop-i
invariant-loop-i g l = Rewritten l.initial.states l.states l.from l.i (λ k. lesser l.early (plus l.cost (l.initial.states at (k + 1))))
