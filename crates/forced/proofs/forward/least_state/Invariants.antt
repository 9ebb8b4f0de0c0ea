-- `least_state` meets its contract. The loop's invariant: what is found is the least of the states from the first to this one.
use mathlib.Core.Path.{◌≡◌}
use Prim.Native.Nat.{◌+◌, ◌-◌, ◌≤◌}
use Rattle.model.specs.Instance.{◌at◌}
use Rattle.model.specs.ForcedWalk.{least_upto}
use Rattle.forced.proofs.forward.least_state.Given as goal

abbrev pub invariant-loop-i : goal.invariant-loop-i
invariant-loop-i l = (l.i - l.from ≤ l.to - l.from) × (l.found ≡ least_upto (l.i - l.from) (λ j. l.states at (l.from + j)))
