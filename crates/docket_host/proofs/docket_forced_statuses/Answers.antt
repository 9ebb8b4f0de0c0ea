-- `docket_forced_statuses` meets its contract.
use mathlib.Core.Path.{sym, ◌∙◌}
use Rattle.state.proofs.Opening.{opened_is, not_opened}
use Rattle.docket_host.proofs.ForcedCalls.{forced_small, forced_empty, forced_done}
use Rattle.docket_host.proofs.docket_forced_statuses.Goals as goal

pub returns : goal.returns
returns c =
    let a = c.args in
    let told = c.forced_statuses.ensures in let whole = forced_done a.numbers.now a.rows.now a.q.now a.s.now a.fixed.now a.values.now a.stuck.now (sym c.is_long.ensures ∙ c.if-not-is_long.false)
    (opened_is c.args.numbers.now c.args.rows.now c.opened_in.result c.in-Ok.docket c.opened_in.ensures c.in-Ok.is).0
    c.in-Ok.docket (opened_is c.args.numbers.now c.args.rows.now c.opened_in.result c.in-Ok.docket c.opened_in.ensures c.in-Ok.is).1
    c.forced_statuses.result told.answer _ told.values _ told.stuck
    c.forced_number.result c.forced_number.ensures in record { answer = whole.0; values = whole.1.0; stuck = whole.1.1 }

pub returns-in_default : goal.returns-in_default
returns-in_default c =
    let a = c.args in let whole = forced_empty a.numbers.now a.rows.now a.q.now a.s.now a.fixed.now a.values.now a.stuck.now (sym c.is_long.ensures ∙ c.if-not-is_long.false)
    (not_opened c.args.numbers.now c.args.rows.now c.opened_in.result _ c.opened_in.ensures c.in_default.is).0 in record { answer = whole.0; values = whole.1.0; stuck = whole.1.1 }

pub returns-then-not-is_long : goal.returns-then-not-is_long
returns-then-not-is_long c =
    let a = c.args in let whole = forced_small a.numbers.now a.rows.now a.q.now a.s.now a.fixed.now a.values.now a.stuck.now (sym c.is_long.ensures ∙ c.if-not-is_long.true) in record { answer = whole.0; values = whole.1.0; stuck = whole.1.1 }
