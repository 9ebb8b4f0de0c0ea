-- `store_back` meets its contract. The loop's invariant: before period t, the lists are the table of the periods from t on, and the
-- rows of these periods are stored.
use Prim.Native.Nat.{◌≤◌}
use lib.ListN.{length}
use Rattle.model.specs.Table.{values}
use Rattle.walk.specs.Marks.{marks_of}
use Rattle.walk.specs.GoingBack.{costs_of, Tables}
use Rattle.runs.proofs.Tables.{Begun}
use Rattle.runs.proofs.table.store_back.Given as goal

abbrev pub invariant-loop-t : goal.invariant-loop-t
invariant-loop-t l = let m = marks_of l.fixed in
    let w = costs_of l.on l.off in
    (l.t ≤ length l.on) × (Tables l.unit.generator (values (length l.on) l.unit.generator m w l.t) l.ons l.offs × Begun (length l.on) l.unit.generator m w l.t l.table)
