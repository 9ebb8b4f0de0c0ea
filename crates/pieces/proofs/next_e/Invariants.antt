-- `next_e` meets its contract: the parts that are skipped stand before the next line that begins with e, which is then a byte nearer at each byte.
use Prim.Native.Nat.{◌≤◌, max, ◌+◌}
use mathlib.Core.Path.{◌≡◌}
use lib.ListN.{length, drop}
use Rattle.pieces.specs.Search.{to_e}
use Rattle.pieces.proofs.next_e.Given as goal

abbrev pub invariant-loop-i : goal.invariant-loop-i
invariant-loop-i l = (l.i + to_e (drop l.i l.s) ≡ l.at + to_e (drop l.at l.s)) × (l.i ≤ max l.from (length l.s))
