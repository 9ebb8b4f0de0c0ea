use mathlib.Core.Path.{◌≡◌, refl, sym, ap}
use Rattle.std.specs.Prelude.{Err}
use Rattle.refusal.specs.declared.Refusal.{Refusal}
use Rattle.refusal.specs.Refusals.{refusal_of}
use Rattle.text.specs.Forms.{fault_number}
use Rattle.problem.specs.ReadAnswers.{read_as}
use Rattle.text.specs.Lines.{line_at}
use Rattle.text.proofs.PlainRows.{plain_row}
use Rattle.problem.proofs.LineByLine.{line_refused, line_good}
use Prim.Native.Nat.{ℕ}
use mathlib.Core.List.{List}
use lib.ListN.{take}
use Rattle.problem.specs.Rendering.{spare_key}
use Rattle.problem.specs.Course.{spare_due, fleet_due, no_units}
use Rattle.problem.specs.Refusals.{spare_form}
use Rattle.std.proofs.lemmas.Result.{err_from_is_err_and}
use Rattle.text.proofs.Mapped.{mapped_ok, mapped_err}
use borrow.Author.Rules.{rules}
use Rattle.problem.proofs.read_from_spare.Goals as goal

pub read_from_fleet-requires : goal.read_from_fleet-requires
read_from_fleet-requires c =
    let a = c.args in
    let is = mapped_ok c.read_row.result c.map_err.result _ c.map_err.ensures.cases c.in_ok-row.was in
    let h = plain_row spare_key a.periods 0 320000 (line_at a.s.now a.at) a.at c.read_row.result c.read_row.ensures _ is in
    (c.requires.0, (c.requires.1.0, (c.requires.1.1, h.holds)))

pub returns-in_err-row : goal.returns-in_err-row
unfolding read_as
returns-in_err-row c =
    let a = c.args in
    let p = err_from_is_err_and c.from_residual.result c.from_residual.ensures.1 in
    let m = mapped_err c.read_row.result c.map_err.result _ c.map_err.ensures.cases c.in_err-row.was in
    let e : c.in_err-row.field-0.0 ≡ refusal_of (fault_number m.fault) 5 0 0 = search (rules, m.met) in
    rw (p.1, p.2) (line_refused a.s.now a.at 5 (spare_due a.periods a.units (take a.periods a.demand)) (spare_form a.periods) refl c.read_row.result c.read_row.ensures _ m.fault refl m.was (ap (λ (x : Refusal). Err x) e))

pub returns : goal.returns
returns c =
    let a = c.args in
    let is = mapped_ok c.read_row.result c.map_err.result _ c.map_err.ensures.cases c.in_ok-row.was in
    let h = plain_row spare_key a.periods 0 320000 (line_at a.s.now a.at) a.at c.read_row.result c.read_row.ensures _ is in
    line_good a.s.now a.at 5 (spare_due a.periods a.units (take a.periods a.demand)) (spare_form a.periods) refl c.read_row.result c.read_row.ensures _ c.in_ok-row.row _ is (ap (λ (R : List ℕ). fleet_due a.units (no_units a.periods (take a.periods a.demand) R)) (sym h.values)) c.read_from_fleet.ensures
