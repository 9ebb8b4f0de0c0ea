-- `join_states` meets its contract. The loop's invariant: what is found is the least sum of the states passed.
use mathlib.Core.Path.{◌≡◌}
use Prim.Native.Nat.{◌+◌}
use Rattle.model.specs.Instance.{◌at◌}
use Rattle.model.specs.ForcedWalk.{both, least_upto}
use Rattle.forced.proofs.entry.join_states.Given as goal

abbrev pub invariant-loop-i : goal.invariant-loop-i
invariant-loop-i l = l.found ≡ least_upto l.i (λ k. both (l.states at k) (l.table at (l.begin + k)))
