-- Unit by unit. The invariant: what is left to read, with what the units so far answered, gives what the whole gives; the buffers keep their ends.
use mathlib.Core.Path.{◌≡◌}
use mathlib.Core.List.{[]}
use Prim.Native.Nat.{◌+◌}
use lib.ListN.{length, take}
use Rattle.layout.specs.Numbers.{instance_in}
use Rattle.walk.specs.Marks.{above_of}
use Rattle.tree.specs.Places.{with_steps}
use Rattle.tree.specs.ReadAnswers.{part_read}
use Rattle.tree.specs.RampReads.{Padded}
use Rattle.tree.proofs.RampReading.{Reading}
use Rattle.tree.proofs.ramp.read_units.Given as goal

abbrev pub invariant-loop-u : goal.invariant-loop-u
invariant-loop-u l = let P = instance_in l.plan.numbers.now in record {
  room : l.end ≡ P.periods + 1;
  rises : (length l.up ≡ 49) × Padded P.periods (take l.end l.up);
  falls : (length l.down ≡ 49) × Padded P.periods (take l.end l.down);
  reading : Reading P l.text l.figures (above_of P l.above) l.q l.s (part_read P l.text l.at l.line l.figures (above_of P l.above) (with_steps l.q l.s [])) l.u l.next l.here l.sum;
}
