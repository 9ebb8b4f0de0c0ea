-- `is_without_e` meets its contract: what was found of the bytes looked at and the bytes to come make the whole answer.
use Prim.Native.Nat.{◌-◌, ◌≤◌}
use mathlib.Core.Path.{◌≡◌}
use mathlib.Core.Bool.{◌&&◌}
use lib.ListN.{drop}
use Rattle.pieces.specs.Search.{without_e}
use Rattle.pieces.proofs.is_without_e.Given as goal

abbrev pub invariant-loop-i : goal.invariant-loop-i
invariant-loop-i l = (1 ≤ l.i) × ((l.without && without_e (drop (l.i - 1) l.part)) ≡ without_e l.part)
