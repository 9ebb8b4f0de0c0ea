-- `fill_forward` meets its contract. The loop's invariant: the walk forward stands before period t, and the entries of the periods before it are filled in.
use lib.ListN.{length}
use Rattle.walk.specs.Marks.{marks_of}
use Rattle.walk.specs.GoingBack.{costs_of}
use Rattle.forced.proofs.Filling.{Filling}
use Rattle.forced.proofs.unit.fill_forward.Given as goal

abbrev pub invariant-loop-t : goal.invariant-loop-t
invariant-loop-t l = Filling (length l.on) l.unit.generator (marks_of l.fixed) (costs_of l.on l.off) l.t l.own l.ons l.offs l.entries
