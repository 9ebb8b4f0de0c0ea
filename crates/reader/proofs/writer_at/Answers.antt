use borrow.Author.Rules.{rules}
use Rattle.std.proofs.lemmas.Result.{err_from_is_err_and}
use Rattle.text.specs.Lines.{line_at}
use Rattle.reader.proofs.WriterLines.{row_refused, row_written}
use Rattle.reader.proofs.writer_at.Goals as goal

pub returns-in_err-row : goal.returns-in_err-row
returns-in_err-row c =
    let a = c.args in
    let p = err_from_is_err_and c.from_residual.result c.from_residual.ensures.1 in
    rw (p.1, p.2) (row_refused (line_at a.s.now a.at) a.at c.read_row.result c.read_row.ensures _ c.in_err-row.was)

pub returns : goal.returns
returns c =
    let a = c.args in
    row_written (line_at a.s.now a.at) a.at c.read_row.result c.read_row.ensures _ c.in_ok-row.was
