-- The first u generators are read.
use Rattle.std.proofs.Common.{◌≡◌}
use lib.ListN.{replicate}
use Rattle.model.specs.Held.{blank_generator}
use Rattle.layout.specs.Numbers.{generators_in}
use Rattle.layout.proofs.Overlays.{overlay}
use Rattle.layout.proofs.reading.generators_in.Given as goal

abbrev pub invariant-loop-u : goal.invariant-loop-u
invariant-loop-u l = l.generators ≡ overlay (replicate 32 blank_generator) (generators_in l.numbers 0 32) l.u
