use mathlib.Core.Path.{◌≡◌, refl, sym, ap}
use Rattle.refusal.specs.Refusals.{refusal_of}
use Rattle.text.specs.Forms.{fault_number}
use Rattle.problem.specs.ReadAnswers.{read_as}
use native.Mathlib.Omega.{arith}
use Rattle.std.specs.Prelude.{Err}
use Rattle.refusal.specs.declared.Refusal.{Refusal}
use Rattle.text.specs.Lines.{line_at}
use Rattle.text.proofs.PlainRows.{plain_row}
use Rattle.problem.proofs.LineByLine.{line_refused, line_good}
use Rattle.problem.specs.Rendering.{units_key}
use Rattle.problem.specs.Course.{units_due, demand_due}
use Rattle.problem.specs.Refusals.{units_form}
use Rattle.std.proofs.lemmas.Result.{err_from_is_err_and}
use Rattle.text.proofs.Mapped.{mapped_ok, mapped_err}
use borrow.Author.Rules.{rules}
use Rattle.problem.proofs.read_from_units.Goals as goal

pub read_from_demand-requires : goal.read_from_demand-requires
read_from_demand-requires c =
    let a = c.args in
    let is = mapped_ok c.read_row.result c.map_err.result _ c.map_err.ensures.cases c.in_ok-row.was in
    let h = plain_row units_key 1 1 32 (line_at a.s.now a.at) a.at c.read_row.result c.read_row.ensures _ is in
    (c.requires, (h.first_in (omega arith)).1)

pub returns-in_err-row : goal.returns-in_err-row
unfolding read_as
returns-in_err-row c =
    let a = c.args in
    let p = err_from_is_err_and c.from_residual.result c.from_residual.ensures.1 in
    let m = mapped_err c.read_row.result c.map_err.result _ c.map_err.ensures.cases c.in_err-row.was in
    let e : c.in_err-row.field-0.0 ≡ refusal_of (fault_number m.fault) 3 0 0 = search (rules, m.met) in
    rw (p.1, p.2) (line_refused a.s.now a.at 3 (units_due a.periods) units_form refl c.read_row.result c.read_row.ensures _ m.fault refl m.was (ap (λ (x : Refusal). Err x) e))

pub returns : goal.returns
returns c =
    let a = c.args in
    let is = mapped_ok c.read_row.result c.map_err.result _ c.map_err.ensures.cases c.in_ok-row.was in
    let h = plain_row units_key 1 1 32 (line_at a.s.now a.at) a.at c.read_row.result c.read_row.ensures _ is in
    line_good a.s.now a.at 3 (units_due a.periods) units_form refl c.read_row.result c.read_row.ensures _ c.in_ok-row.row _ is (ap (demand_due a.periods) (sym (h.first (omega arith)))) c.read_from_demand.ensures
