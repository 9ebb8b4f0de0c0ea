-- `lodge_pieces` meets its contract: at each turn one text more is lodged, or refused as it would be, and the line of its answer written after those
-- before it.
use Prim.Native.Nat.{◌-◌}
use lib.ListN.{length}
use Rattle.list.proofs.ListedSoFar.{SoFar}
use Rattle.list.proofs.lodge_pieces.Given as goal

abbrev pub invariant-loop-at : goal.invariant-loop-at
invariant-loop-at l = SoFar l.input l.initial.output l.docket l.n l.at l.output

abbrev pub decreases-loop-at : goal.decreases-loop-at
decreases-loop-at l = length l.input - l.at
