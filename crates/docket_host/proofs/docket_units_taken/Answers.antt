-- `docket_units_taken` meets its contract.
use mathlib.Core.Path.{sym, ◌∙◌}
use Rattle.docket_host.proofs.Calls.{taken_lent, taken_short, taken_none, taken_done}
use Rattle.state.proofs.Opening.{opened_is, not_opened}
use Rattle.docket_host.proofs.docket_units_taken.Goals as goal

pub tell_taken-requires : goal.tell_taken-requires
tell_taken-requires c =
    let a = c.args in
    (taken_lent a.numbers.now a.rows.now a.taken.now (sym c.has_taken_room.ensures ∙ c.if-not-has_taken_room.false)).1

pub returns : goal.returns
returns c =
    let a = c.args in let whole = taken_done a.numbers.now a.rows.now a.period a.most a.fixed.now a.taken.now (sym c.has_taken_room.ensures ∙ c.if-not-has_taken_room.false)
    (opened_is c.args.numbers.now c.args.rows.now c.opened_in.result c.in-Ok.docket c.opened_in.ensures c.in-Ok.is).0
    c.in-Ok.docket (opened_is c.args.numbers.now c.args.rows.now c.opened_in.result c.in-Ok.docket c.opened_in.ensures c.in-Ok.is).1
    c.units_taken.result c.units_taken.ensures c.tell_taken.result c.tell_taken.ensures.number _ c.tell_taken.ensures.taken in record { answer = whole.0; taken = whole.1 }

pub returns-in_default : goal.returns-in_default
returns-in_default c =
    let a = c.args in let whole = taken_none a.numbers.now a.rows.now a.period a.most a.fixed.now a.taken.now (sym c.has_taken_room.ensures ∙ c.if-not-has_taken_room.false)
    (not_opened c.args.numbers.now c.args.rows.now c.opened_in.result _ c.opened_in.ensures c.in_default.is).0 in record { answer = whole.0; taken = whole.1 }

pub returns-then-not-has_taken_room : goal.returns-then-not-has_taken_room
returns-then-not-has_taken_room c =
    let a = c.args in let whole = taken_short a.numbers.now a.rows.now a.period a.most a.fixed.now a.taken.now (sym c.has_taken_room.ensures ∙ c.if-not-has_taken_room.true) in record { answer = whole.0; taken = whole.1 }
