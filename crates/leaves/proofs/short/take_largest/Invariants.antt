-- `take_largest` meets its contract. The loop's invariant: of the ranks passed, those of units not fixed off are taken, and with fewer the sum was below the need.
use mathlib.Core.Path.{◌≡◌}
use Prim.Native.Nat.{◌-◌}
use lib.ListN.{length}
use Rattle.layout.specs.Ranks.{pU_of, ranked}
use Rattle.layout.specs.Numbers.{instance_in}
use Rattle.walk.specs.Marks.{above_of}
use Rattle.leaves.proofs.Takings.{Passed}
use Rattle.leaves.proofs.Shorts.{usable_rank}
use Rattle.leaves.proofs.short.take_largest.Given as goal

abbrev pub invariant-loop-taken : goal.invariant-loop-taken
invariant-loop-taken l = (l.units ≡ length (instance_in l.plan.numbers.now).units)
    × Passed (usable_rank (above_of (instance_in l.plan.numbers.now) l.above).marks l.t) pU_of (ranked (instance_in l.plan.numbers.now).units) l.most l.need l.i l.taken l.sum

abbrev pub decreases-loop-taken : goal.decreases-loop-taken
decreases-loop-taken l = l.units - l.i
