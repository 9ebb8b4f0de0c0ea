-- `write_runs` meets its contract. The loop's invariant: the rows begin with the runs of the units passed.
use mathlib.Core.Path.{◌≡◌}
use Prim.Native.Nat.{◌*◌}
use lib.ListN.{take}
use Rattle.model.specs.Instance.{◌at◌}
use Rattle.layout.specs.Numbers.{instance_in}
use Rattle.walk.specs.Marks.{above_of}
use Rattle.runs.proofs.AllRuns.{front_runs}
use Rattle.runs.proofs.units.write_runs.Given as goal

abbrev pub invariant-loop-u : goal.invariant-loop-u
invariant-loop-u l =
    take (l.u * l.n) l.rows ≡ front_runs (instance_in l.plan.numbers.now).periods (λ t. l.q at t) (λ t. l.s at t) l.u (instance_in l.plan.numbers.now).units (above_of (instance_in l.plan.numbers.now) l.fixed).marks
