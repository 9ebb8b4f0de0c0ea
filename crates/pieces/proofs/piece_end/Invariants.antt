-- `piece_end` meets its contract: where the line does not begin end=, the piece goes on up to the next line that begins with e.
use Prim.Native.Nat.{◌+◌, ◌-◌}
use mathlib.Core.Path.{◌≡◌}
use lib.ListN.{length, drop}
use Rattle.pieces.proofs.Places.{piece_size}
use Rattle.pieces.proofs.piece_end.Given as goal

abbrev pub invariant-loop-i : goal.invariant-loop-i
invariant-loop-i l = l.i + piece_size (drop l.i l.s) ≡ l.at + piece_size (drop l.at l.s)

abbrev pub decreases-loop-i : goal.decreases-loop-i
decreases-loop-i l = length l.s - l.i
