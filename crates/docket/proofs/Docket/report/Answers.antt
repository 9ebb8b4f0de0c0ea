-- `report` meets its contract: the lines are those of the figures shown.
use Rattle.std.proofs.Common.{ap}
use Rattle.report.specs.Report.{report_lines}
use Rattle.docket.proofs.Reports.{reported}
use Rattle.docket.proofs.Docket.report.Goals as goal

pub returns : goal.returns
returns c =
    let p = c.write_report in
    let a = c.args in
    let whole = reported a.self a.buffer.now a.at (ap report_lines c.figures_shown.ensures) p.ensures.answer p.ensures.bytes in
    record { answer = whole.0; bytes = whole.1 }
