-- `line_end` meets its contract: the line goes on by a byte where that is not byte 10.
use Prim.Native.Nat.{◌≤◌, max, ◌+◌}
use mathlib.Core.Path.{◌≡◌}
use lib.ListN.{length, drop}
use Rattle.pieces.proofs.Places.{line_size}
use Rattle.pieces.proofs.line_end.Given as goal

abbrev pub invariant-loop-i : goal.invariant-loop-i
invariant-loop-i l = (l.i + line_size (drop l.i l.s) ≡ l.at + line_size (drop l.at l.s)) × (l.i ≤ max l.at (length l.s))
