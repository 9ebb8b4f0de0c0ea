-- `first_stuck` meets its contract. The loop's invariant: none of the units passed is stuck.
use Rattle.layout.specs.Numbers.{instance_in}
use Rattle.walk.specs.Marks.{above_of}
use Rattle.runs.proofs.FirstStuck.{Free}
use Rattle.runs.proofs.units.first_stuck.Given as goal

abbrev pub invariant-loop-u : goal.invariant-loop-u
invariant-loop-u l = Free (instance_in l.plan.numbers.now).periods (instance_in l.plan.numbers.now).units (above_of (instance_in l.plan.numbers.now) l.fixed).marks l.u
