-- `step_forward` meets its contract: what enters either status is read from the old lists, before either changes.
use mathlib.Core.Path.{sym, ◌∙◌, ap, ap₂}
use mathlib.Core.Bool.{Bool}
use Prim.Native.Nat.{◌+◌, ◌-◌}
use Rattle.model.specs.Instance.{◌at◌}
use Rattle.model.specs.Walk.{lesser}
use Rattle.model.specs.Table.{kept}
use Rattle.walk.proofs.StatusMarks.{allows_on, allows_off}
use Rattle.forced.proofs.forward.step_forward.Goals as goal

pub returns : goal.returns
returns c =
    let a = c.args in
    let g = a.unit.generator in
    let x = a.mark in
    let of_on = c.lesser_value-entered_on.ensures ∙ ap₂ lesser c.started_value-starting.ensures c.own_into.ensures in
    let stop = c.kept_value-stopping.ensures ∙ ap (λ (b : Bool). kept b (g.Dc + a.off) (a.ons.now at (g.TU - 1))) (sym (allows_off x)) in
    let of_off = c.lesser_value-entered_off.ensures ∙ ap₂ lesser stop c.own_into-2.ensures in
    record { of_on = rw (← of_on, allows_on x) c.shift_states.ensures; of_off = rw (← of_off, allows_off x) c.shift_states-2.ensures }
