-- `walk_back` meets its contract. The loop's invariant: before period t, the lists are the table of the periods from t on.
use Prim.Native.Nat.{◌≤◌}
use lib.ListN.{length}
use Rattle.model.specs.Table.{values}
use Rattle.walk.specs.Marks.{marks_of}
use Rattle.walk.specs.GoingBack.{costs_of, Tables}
use Rattle.walk.proofs.walk_back.Given as goal

abbrev pub invariant-loop-t : goal.invariant-loop-t
invariant-loop-t l = (l.t ≤ length l.on) × Tables l.unit.generator (values (length l.on) l.unit.generator (marks_of l.fixed) (costs_of l.on l.off) l.t) l.ons l.offs

abbrev pub decreases-loop-t : goal.decreases-loop-t
decreases-loop-t l = l.t
