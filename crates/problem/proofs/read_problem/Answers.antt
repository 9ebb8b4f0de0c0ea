use mathlib.Core.Path.{◌≡◌, refl, sym, ap, ◌∙◌}
use native.Mathlib.Omega.{arith}
use Rattle.std.specs.Prelude.{Err}
use Rattle.refusal.specs.declared.Refusal.{Refusal}
use Rattle.refusal.specs.Refusals.{refusal_of}
use Rattle.text.specs.Forms.{fault_number}
use Rattle.problem.specs.ReadAnswers.{read_as}
use Rattle.text.specs.Lines.{line_at}
use Rattle.text.proofs.PlainRows.{plain_row}
use Rattle.problem.proofs.LineByLine.{line_refused, line_good}
use Rattle.problem.specs.Rendering.{periods_key}
use Rattle.problem.specs.Course.{periods_due, units_due}
use Rattle.problem.specs.Refusals.{periods_form}
use Rattle.problem.proofs.FirstLine.{from_second}
use Rattle.std.proofs.lemmas.Result.{err_from_is_err_and}
use Rattle.text.proofs.Mapped.{mapped_ok, mapped_err}
use borrow.Author.Rules.{rules}
use Rattle.problem.proofs.read_problem.Goals as goal

pub read_from_units-requires : goal.read_from_units-requires
read_from_units-requires c =
    let a = c.args in
    let is = mapped_ok c.read_row.result c.map_err.result _ c.map_err.ensures.cases c.in_ok-row.was in
    let h = plain_row periods_key 1 1 48 (line_at a.s.now 13) 13 c.read_row.result c.read_row.ensures _ is in
    (h.first_in (omega arith)).1

pub returns-in_err-row : goal.returns-in_err-row
unfolding read_as
returns-in_err-row c =
    let a = c.args in
    let p = err_from_is_err_and c.from_residual.result c.from_residual.ensures.1 in
    let m = mapped_err c.read_row.result c.map_err.result _ c.map_err.ensures.cases c.in_err-row.was in
    let e : c.in_err-row.field-0.0 ≡ refusal_of (fault_number m.fault) 2 0 0 = search (rules, m.met) in
    rw (p.1, p.2) (line_refused a.s.now 13 2 periods_due periods_form refl c.read_row.result c.read_row.ensures _ m.fault refl m.was (ap (λ (x : Refusal). Err x) e) ∙ from_second a.s.now c.requires)

pub returns : goal.returns
returns c =
    let a = c.args in
    let is = mapped_ok c.read_row.result c.map_err.result _ c.map_err.ensures.cases c.in_ok-row.was in
    let h = plain_row periods_key 1 1 48 (line_at a.s.now 13) 13 c.read_row.result c.read_row.ensures _ is in
    line_good a.s.now 13 2 periods_due periods_form refl c.read_row.result c.read_row.ensures _ c.in_ok-row.row _ is (ap units_due (sym (h.first (omega arith)))) c.read_from_units.ensures ∙ from_second a.s.now c.requires
