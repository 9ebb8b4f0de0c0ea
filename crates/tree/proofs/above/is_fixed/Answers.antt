-- 1 and 2 are the bytes that fix a status.
use mathlib.Core.Path.{◌≡◌, refl}
use mathlib.Core.Bool.{Bool, true, false, cond}
use lib.Dec.{eqb}
use borrow.Author.Tests.{eq-eqb, ne_eqb}
use Rattle.model.specs.Above.{free, fixed}
use Rattle.walk.specs.Marks.{mark_of}
use Rattle.tree.specs.NodeLines.{is_fixed}
use Rattle.tree.proofs.above.is_fixed.Goals as goal

on_is : (b : Bool) → b ≡ is_fixed (cond b (fixed true) free)
on_is true = refl
on_is false = refl

pub returns-then-status-eq-OFF : goal.returns-then-status-eq-OFF
unfolding mark_of
returns-then-status-eq-OFF c = rw (eq-eqb _ _ c.if-status-eq-OFF.true) refl

pub returns-else-status-eq-OFF : goal.returns-else-status-eq-OFF
unfolding mark_of
returns-else-status-eq-OFF c = rw (ne_eqb _ _ c.if-status-eq-OFF.false) (on_is (eqb c.args.status 2))
