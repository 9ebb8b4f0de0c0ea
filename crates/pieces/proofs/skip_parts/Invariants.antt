-- `skip_parts` meets its contract: a place before the next line that begins with e and the whole parts that are left make the same place.
use Prim.Native.Nat.{◌+◌, ◌-◌, ◌*◌, ◌/◌}
use mathlib.Core.Path.{◌≡◌}
use lib.ListN.{length, drop}
use Rattle.pieces.specs.Search.{to_e}
use Rattle.pieces.proofs.skip_parts.Given as goal

abbrev pub invariant-loop-i : goal.invariant-loop-i
invariant-loop-i l = l.i + (to_e (drop l.i l.s) - 1) / 32 * 32 ≡ l.at + (to_e (drop l.at l.s) - 1) / 32 * 32

abbrev pub decreases-loop-i : goal.decreases-loop-i
decreases-loop-i l = length l.s - l.i
