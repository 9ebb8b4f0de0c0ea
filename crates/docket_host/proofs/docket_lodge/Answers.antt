-- `docket_lodge` meets its contract.
use mathlib.Core.Path.{◌≡◌, sym, ap, ◌∙◌}
use native.Mathlib.Omega.{arith}
use lib.ListN.{length}
use Rattle.docket.specs.declared.Docket.{Docket}
use Rattle.docket.specs.Lodging.{lodge_of}
use Rattle.state.proofs.Room.{long_room}
use Rattle.state.proofs.Opening.{opened_is, not_opened}
use Rattle.docket_host.proofs.Calls.{lodge_lent, line_most, lodge_short, lodge_none, lodge_done}
use borrow.Author.Rules.{rules}
use Rattle.docket_host.proofs.docket_lodge.Goals as goal

pub opened_in-requires : goal.opened_in-requires
opened_in-requires c =
    let a = c.args in
    let lent = lodge_lent a.numbers.now a.rows.now a.line.now a.values.now (sym c.has_lodge_room.ensures ∙ c.if-not-has_lodge_room.false) in
    let whole = long_room a.numbers.now a.rows.now lent.0 in
    record { in_bounds = whole.0; in_bounds_2 = whole.1 }

pub keep_held-requires : goal.keep_held-requires
keep_held-requires c =
    let a = c.args in
    let lent = lodge_lent a.numbers.now a.rows.now a.line.now a.values.now (sym c.has_lodge_room.ensures ∙ c.if-not-has_lodge_room.false) in
    let whole = long_room a.numbers.now a.rows.now lent.0 in
    record { in_bounds = whole.0; in_bounds_2 = whole.1 }

pub store-requires : goal.store-requires
store-requires c =
    let a = c.args in
    let lent = lodge_lent a.numbers.now a.rows.now a.line.now a.values.now (sym c.has_lodge_room.ensures ∙ c.if-not-has_lodge_room.false) in
    let n : length c.answer_numbers.result ≡ 16 = search rules in
    omega (arith, n, lent.1.1)

pub write_answer-requires : goal.write_answer-requires
write_answer-requires c =
    let a = c.args in
    let lent = lodge_lent a.numbers.now a.rows.now a.line.now a.values.now (sym c.has_lodge_room.ensures ∙ c.if-not-has_lodge_room.false) in
    let e = c.lodge-lodged.ensures ∙ ap (λ (d : Docket). lodge_of d a.text.now) (opened_is c.args.numbers.now c.args.rows.now c.opened_in.result c.in-Ok.docket c.opened_in.ensures c.in-Ok.is).1 in
    rw e (omega (arith, line_most a.numbers.now a.rows.now a.text.now lent.0, lent.1.0))

pub returns : goal.returns
returns c =
    let a = c.args in
    let o = opened_is c.args.numbers.now c.args.rows.now c.opened_in.result c.in-Ok.docket c.opened_in.ensures c.in-Ok.is in
    let whole = lodge_done a.numbers.now a.rows.now a.text.now a.line.now a.values.now (sym c.has_lodge_room.ensures ∙ c.if-not-has_lodge_room.false)
    o.0 c.in-Ok.docket o.1
    c.lodge-lodged.result c.lodge-lodged.ensures c.answer_numbers.result c.answer_numbers.ensures
    c.write_answer.result _ _ _ _ c.write_answer.ensures.value c.keep_held.ensures.numbers_after c.keep_held.ensures.rows_after c.write_answer.ensures.buf_after c.store.ensures in
    record { answer = whole.0; numbers = whole.1.0; rows = whole.1.1.0; line = whole.1.1.1.0; values = whole.1.1.1.1 }

pub returns-in_default : goal.returns-in_default
returns-in_default c =
    let a = c.args in
    let whole = lodge_none a.numbers.now a.rows.now a.text.now a.line.now a.values.now (sym c.has_lodge_room.ensures ∙ c.if-not-has_lodge_room.false)
    (not_opened a.numbers.now a.rows.now c.opened_in.result _ c.opened_in.ensures c.in_default.is).0 in
    record { answer = whole.0; numbers = whole.1.0; rows = whole.1.1.0; line = whole.1.1.1.0; values = whole.1.1.1.1 }

pub returns-then-not-has_lodge_room : goal.returns-then-not-has_lodge_room
returns-then-not-has_lodge_room c =
    let a = c.args in
    let whole = lodge_short a.numbers.now a.rows.now a.text.now a.line.now a.values.now (sym c.has_lodge_room.ensures ∙ c.if-not-has_lodge_room.true) in
    record { answer = whole.0; numbers = whole.1.0; rows = whole.1.1.0; line = whole.1.1.1.0; values = whole.1.1.1.1 }
