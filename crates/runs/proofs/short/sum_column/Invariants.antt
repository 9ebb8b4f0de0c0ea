-- `sum_column` meets its contract. The loop's invariant: the sum is that of the rows passed, each of which adds at most 10,000.
use mathlib.Core.Path.{◌≡◌}
use Rattle.judge.specs.Loads.{output_in}
use Rattle.runs.proofs.short.sum_column.Given as goal

abbrev pub invariant-loop-u : goal.invariant-loop-u
invariant-loop-u l = l.sum ≡ output_in l.u l.periods l.rows l.t
