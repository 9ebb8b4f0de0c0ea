-- `shift_states` meets its contract: the last state's own value is read before any is moved, and joins what is moved to it.
use mathlib.Core.Path.{◌≡◌, ◌∙◌, ap}
use Prim.Native.Nat.{◌+◌, ◌-◌}
use native.Mathlib.Omega.{arith}
use lib.ListN.{length}
use Rattle.model.specs.Walk.{lesser}
use Rattle.forced.proofs.Moving.{shifted_is}
use Rattle.forced.proofs.forward.shift_states.Goals as goal

pub returns : goal.returns
returns c =
    let a = c.args in
    let old = a.states.now in
    let end = length old - 1 in
    let all : length old ≡ end + 1 = omega arith in
    shifted_is old _ a.t end a.entered a.allowed a.cost all c.requires.beyond
    (rw c.min.ensures at c.move_states.ensures) _
    (c.lesser_value.ensures ∙ ap (lesser _) c.kept_value-last.ensures)
