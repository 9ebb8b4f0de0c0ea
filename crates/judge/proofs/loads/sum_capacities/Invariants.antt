-- The total is the sum over the units that have been passed, each of which adds at most 10,000.
use mathlib.Core.Path.{◌≡◌}
use Prim.Native.Nat.{◌+◌, ◌*◌}
use Rattle.model.specs.Instance.{◌at◌, sum}
use Rattle.model.specs.Rules.{on, if_on}
use Rattle.judge.proofs.loads.sum_capacities.Given as goal

abbrev pub invariant-loop-u : goal.invariant-loop-u
invariant-loop-u l = l.total ≡ sum l.u (λ i. if_on (on (l.rows at (i * l.periods + l.t))) (l.capacities at i))
