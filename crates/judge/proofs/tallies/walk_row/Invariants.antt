-- The walk stands where the walk along the periods passed does.
use mathlib.Core.Path.{◌≡◌}
use Rattle.judge.specs.Walk.{walk_to}
use Rattle.judge.proofs.tallies.walk_row.Given as goal

abbrev pub invariant-loop-output : goal.invariant-loop-output
invariant-loop-output l = l.walk ≡ walk_to l.unit.generator l.row l.output-index
