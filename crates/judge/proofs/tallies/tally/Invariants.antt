-- The tallies are those of the units passed.
use mathlib.Core.Path.{◌≡◌}
use Rattle.judge.proofs.UnitTallies.{tallied}
use Rattle.judge.proofs.tallies.tally.Given as goal

abbrev pub invariant-loop-u : goal.invariant-loop-u
invariant-loop-u l = l.all ≡ tallied l.problem l.rows l.u
