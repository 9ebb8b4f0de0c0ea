-- `walk_reached` meets its contract. The loop's invariant: before period t, each list begins with the values of the states that a
-- change of status has led to in t periods or less, and value is that of the state which no change has led to.
use mathlib.Core.Path.{◌≡◌}
use mathlib.Core.Bool.{true, false}
use Prim.Native.Nat.{◌+◌, ◌≤◌, min}
use lib.ListN.{length}
use Rattle.model.specs.Walk.{cap}
use Rattle.model.specs.Table.{values}
use Rattle.walk.specs.Marks.{marks_of}
use Rattle.walk.specs.GoingBack.{costs_of, Known}
use Rattle.walk.proofs.walk_reached.Given as goal

abbrev pub invariant-loop-t : goal.invariant-loop-t
invariant-loop-t l = ((l.t ≤ length l.on) × (length l.ons ≡ l.unit.generator.TU) × (length l.offs ≡ cap l.unit.generator false))
    × ((Known (values (length l.on) l.unit.generator (marks_of l.fixed) (costs_of l.on l.off) l.t) true (min l.t l.unit.generator.TU) l.ons
    × Known (values (length l.on) l.unit.generator (marks_of l.fixed) (costs_of l.on l.off) l.t) false (min l.t (cap l.unit.generator false)) l.offs)
    × (l.value ≡ values (length l.on) l.unit.generator (marks_of l.fixed) (costs_of l.on l.off) l.t l.unit.generator.on (l.unit.generator.since + l.t)))

abbrev pub decreases-loop-t : goal.decreases-loop-t
decreases-loop-t l = l.t
