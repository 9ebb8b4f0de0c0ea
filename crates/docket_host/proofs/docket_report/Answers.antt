-- `docket_report` meets its contract.
use mathlib.Core.Path.{sym, ◌∙◌}
use Rattle.docket_host.proofs.HostAnswers.{told_or_43}
use Rattle.docket_host.proofs.Calls.{report_short, report_none, report_done}
use Rattle.state.proofs.Opening.{opened_is, not_opened}
use Rattle.docket_host.proofs.docket_report.Goals as goal

pub returns : goal.returns
returns c =
    let a = c.args in let whole = report_done a.numbers.now a.rows.now a.buffer.now a.at (sym c.is_long.ensures ∙ c.if-not-is_long.false)
    (opened_is c.args.numbers.now c.args.rows.now c.opened_in.result c.in-Ok.docket c.opened_in.ensures c.in-Ok.is).0
    c.in-Ok.docket (opened_is c.args.numbers.now c.args.rows.now c.opened_in.result c.in-Ok.docket c.opened_in.ensures c.in-Ok.is).1
    c.report.result c.report.ensures.answer c.unwrap_or.result (told_or_43 c.report.result.answer _ c.unwrap_or.ensures) _ c.report.ensures.bytes in record { answer = whole.0; bytes = whole.1 }

pub returns-in_default : goal.returns-in_default
returns-in_default c =
    let a = c.args in let whole = report_none a.numbers.now a.rows.now a.buffer.now a.at (sym c.is_long.ensures ∙ c.if-not-is_long.false)
    (not_opened c.args.numbers.now c.args.rows.now c.opened_in.result _ c.opened_in.ensures c.in_default.is).0 in record { answer = whole.0; bytes = whole.1 }

pub returns-then-not-is_long : goal.returns-then-not-is_long
returns-then-not-is_long c =
    let a = c.args in let whole = report_short a.numbers.now a.rows.now a.buffer.now a.at (sym c.is_long.ensures ∙ c.if-not-is_long.true) in record { answer = whole.0; bytes = whole.1 }
