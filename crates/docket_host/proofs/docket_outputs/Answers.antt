-- `docket_outputs` meets its contract.
use mathlib.Core.Path.{sym, ap, ◌∙◌}
use Rattle.docket.specs.Docket.{sound}
use Rattle.state.proofs.Opening.{holds_sound}
use Rattle.docket_host.proofs.Calls.{outputs_lent, outputs_short, outputs_none, outputs_done}
use Rattle.state.proofs.Opening.{opened_is, not_opened}
use Rattle.docket_host.proofs.docket_outputs.Goals as goal

pub copy_outputs-requires : goal.copy_outputs-requires
copy_outputs-requires c =
    let a = c.args in record { docket_value = let o = opened_is a.numbers.now a.rows.now c.opened_in.result c.in-Ok.docket c.opened_in.ensures c.in-Ok.is in ap sound o.1 ∙ holds_sound a.numbers.now a.rows.now o.0; in_bounds = (outputs_lent a.numbers.now a.rows.now a.outputs.now (sym c.has_outputs_room.ensures ∙ c.if-not-has_outputs_room.false)).1 }

pub returns : goal.returns
returns c =
    let a = c.args in let whole = outputs_done a.numbers.now a.rows.now a.outputs.now (sym c.has_outputs_room.ensures ∙ c.if-not-has_outputs_room.false)
    (opened_is c.args.numbers.now c.args.rows.now c.opened_in.result c.in-Ok.docket c.opened_in.ensures c.in-Ok.is).0
    c.in-Ok.docket (opened_is c.args.numbers.now c.args.rows.now c.opened_in.result c.in-Ok.docket c.opened_in.ensures c.in-Ok.is).1
    c.copy_outputs.result c.copy_outputs.ensures.value _ c.copy_outputs.ensures.outputs_after in record { answer = whole.0; rows = whole.1 }

pub returns-in_default : goal.returns-in_default
returns-in_default c =
    let a = c.args in let whole = outputs_none a.numbers.now a.rows.now a.outputs.now (sym c.has_outputs_room.ensures ∙ c.if-not-has_outputs_room.false)
    (not_opened c.args.numbers.now c.args.rows.now c.opened_in.result _ c.opened_in.ensures c.in_default.is).0 in record { answer = whole.0; rows = whole.1 }

pub returns-then-not-has_outputs_room : goal.returns-then-not-has_outputs_room
returns-then-not-has_outputs_room c =
    let a = c.args in let whole = outputs_short a.numbers.now a.rows.now a.outputs.now (sym c.has_outputs_room.ensures ∙ c.if-not-has_outputs_room.true) in record { answer = whole.0; rows = whole.1 }
