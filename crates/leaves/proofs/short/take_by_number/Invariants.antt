-- `take_by_number` meets its contract. The loop's invariant: of the units passed, those not fixed off are taken, and with fewer the sum was below the need.
use Rattle.std.proofs.Common.{length}
use Rattle.layout.specs.Ranks.{pU_of, ranks_from}
use Rattle.layout.specs.Numbers.{instance_in}
use Rattle.walk.specs.Marks.{above_of}
use Rattle.leaves.proofs.Takings.{Passed}
use Rattle.leaves.proofs.Shorts.{usable_rank}
use Rattle.leaves.proofs.short.take_by_number.Given as goal

abbrev pub invariant-loop-u : goal.invariant-loop-u
invariant-loop-u l =
    let P = instance_in l.plan.numbers.now in
    Passed (usable_rank (above_of P l.above).marks l.t) pU_of (ranks_from 0 P.units) (length P.units) l.need l.u l.taken l.sum
