use mathlib.Core.Path.{sym, ◌∙◌}
use Rattle.text.specs.Lines.{line_at}
use Rattle.std.proofs.lemmas.Result.{err_from_is_err_and}
use Rattle.problem.proofs.UnitRows.{unit_refused, unit_unordered, unit_good}
use Rattle.problem.proofs.unit.read_unit.Goals as goal

pub returns-in_err-row : goal.returns-in_err-row
returns-in_err-row c =
    let a = c.args in
    let p = err_from_is_err_and c.from_residual.result c.from_residual.ensures.1 in
    rw (p.1, p.2) (unit_refused (line_at a.s.now a.at) a.at c.read_line.result c.read_line.ensures _ c.in_err-row.was)

pub returns-then-not-is_ordered : goal.returns-then-not-is_ordered
returns-then-not-is_ordered c =
    let a = c.args in
    unit_unordered (line_at a.s.now a.at) a.at c.read_line.result c.read_line.ensures _ c.in_ok-row.was c.make_generator-generator.result c.make_generator-generator.ensures
    (sym c.is_ordered.ensures ∙ c.if-not-is_ordered.true)

pub returns : goal.returns
returns c =
    let a = c.args in
    unit_good (line_at a.s.now a.at) a.at c.read_line.result c.read_line.ensures _ c.in_ok-row.was c.make_generator-generator.result c.make_generator-generator.ensures
    (sym c.is_ordered.ensures ∙ c.if-not-is_ordered.false)
