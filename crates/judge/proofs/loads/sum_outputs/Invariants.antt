-- The total is the sum over the units that have been passed, each of which adds at most 10,000.
use mathlib.Core.Path.{◌≡◌}
use Rattle.judge.specs.Loads.{output_in}
use Rattle.judge.proofs.loads.sum_outputs.Given as goal

abbrev pub invariant-loop-u : goal.invariant-loop-u
invariant-loop-u l = l.total ≡ output_in l.u l.periods l.rows l.t
