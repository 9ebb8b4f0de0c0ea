-- `write_numbers` meets its contract. The loop's invariant: the entries passed are written in numbers.
use mathlib.Core.Path.{◌≡◌}
use mathlib.Core.List.{map}
use lib.ListN.{take}
use Rattle.forced.specs.Entries.{number_of, byte_of}
use Rattle.forced.proofs.numbers.write_numbers.Given as goal

abbrev pub invariant-loop-i : goal.invariant-loop-i
invariant-loop-i l = (take l.i l.values ≡ map (number_of l.added) (take l.i l.entries)) × (take l.i l.stuck ≡ map (byte_of l.added) (take l.i l.entries))
