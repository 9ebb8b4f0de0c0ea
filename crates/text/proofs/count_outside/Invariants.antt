-- Those of the numbers passed are counted.
use Rattle.std.proofs.Common.{◌≡◌, not, ◌&&◌, leb}
use Rattle.std.specs.List.{count_by}
use lib.ListN.{take}
use Rattle.text.proofs.count_outside.Given as goal

abbrev pub invariant-loop-x : goal.invariant-loop-x
invariant-loop-x l = l.n ≡ count_by (λ x. not (leb l.lo x && leb x l.hi)) (take l.x-index l.v)
