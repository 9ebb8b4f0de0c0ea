-- The reserve line is read; the leaf has a value exactly where no unit is stuck, and otherwise 35 refuses it.
use borrow.Author.Rules.{rules}
use mathlib.Core.Path.{◌≡◌, sym, ap, subst, ◌∙◌}
use Prim.Native.Nat.{ℕ}
use lib.ListN.{take}
use Rattle.std.specs.Prelude.{Err}
use Rattle.std.proofs.lemmas.Result.{err_from_is_err_and}
use Rattle.model.specs.Instance.{◌at◌}
use Rattle.layout.specs.Numbers.{instance_in}
use Rattle.walk.specs.Marks.{above_of}
use Rattle.text.specs.Lines.{line_at}
use Rattle.text.specs.Forms.{plain, row_of, fault_number}
use Rattle.tree.specs.declared.read.BrokenLine.{BrokenLine}
use Rattle.tree.specs.ReadAnswers.{broken}
use Rattle.text.proofs.Mapped.{mapped_err, mapped_ok}
use Rattle.tree.proofs.Rows.{row_refused, row_moved, taken_multipliers}
use lib.IntN.{ℤ}
use mir.Syntax.{w64}
use mir.Val.{SFits}
use mir.ValLaws.{to_z-of_z}
use Rattle.std.specs.Prelude.{Some as Number}
use Rattle.model.specs.Figures.{add_leaf}
use Rattle.leaves.specs.LeafLeasts.{leaf_of}
use Rattle.least.specs.Limits.{GoodPrices}
use Rattle.walk.proofs.AboveMarks.{statuses_inside}
use Rattle.tree.specs.Rendering.{reserve_key}
use Rattle.tree.specs.Places.{priced}
use Rattle.tree.specs.Refusals.{part_form}
use Rattle.tree.proofs.WaysThrough.{part_refused, part_leaf}
use Rattle.tree.proofs.Leaves.{part_line_refused, unit_stuck, value_read}
use Rattle.tree.proofs.leaf.read_reserve.Goals as goal

pub returns-in_err-row : goal.returns-in_err-row
returns-in_err-row c =
    let a = c.args in
    let P = instance_in a.plan.numbers.now in
    let A = above_of P a.above.now in
    let is = c.read_row.ensures ∙ ap (λ (n : ℕ). row_of (plain reserve_key n 0 1000000000) (line_at a.text.now a.at) a.at) c.periods-periods.ensures in
    let part = priced (take P.periods a.q) in
    let p = err_from_is_err_and c.from_residual.result c.from_residual.ensures.1 in
    let m = mapped_err c.read_row.result c.map_err.result _ c.map_err.ensures.cases c.in_err-row.was in
    let e : c.in_err-row.field-0.0 ≡ broken (fault_number m.fault) a.line = search (rules, m.met) in
    rw (p.1, p.2) (ap (λ (x : BrokenLine). Err x) e ∙ part_refused P a.text.now a.at a.line a.figures A part _
    (part_line_refused P a.text.now a.at A part _ (row_refused (part_form P part) a.text.now a.at c.read_row.result is m.fault m.was)))

pub leaf_value-requires-clause-good_prices : goal.leaf_value-requires-clause-good_prices
leaf_value-requires-clause-good_prices c =
    let a = c.args in
    let P = instance_in a.plan.numbers.now in
    let A = above_of P a.above.now in
    let is = c.read_row.ensures ∙ ap (λ (n : ℕ). row_of (plain reserve_key n 0 1000000000) (line_at a.text.now a.at) a.at) c.periods-periods.ensures in
    let part = priced (take P.periods a.q) in
    let v = mapped_ok c.read_row.result c.map_err.result _ c.map_err.ensures.cases c.in_ok-row.was in
    let row = c.in_ok-row.row in
    let m = taken_multipliers P reserve_key a.text.now a.at c.read_row.result is row v in
    subst (λ (n : ℕ). GoodPrices P.periods (take n a.q) (take n row.values)) (sym c.periods-periods.ensures)
    (record { periods_in = c.args.plan.laid.well_formed.periods_in; q_long = c.requires.multipliers.0; s_long = m.0; q_in = c.requires.multipliers.1; s_in = m.1 })

pub leaf_value-requires-clause-numbers_in_bounds : goal.leaf_value-requires-clause-numbers_in_bounds
leaf_value-requires-clause-numbers_in_bounds c = statuses_inside (instance_in c.args.plan.numbers.now) c.args.plan.laid.well_formed c.args.above.now c.requires.above_len

pub returns-in_default : goal.returns-in_default
returns-in_default c =
    let a = c.args in
    let P = instance_in a.plan.numbers.now in
    let A = above_of P a.above.now in
    let is = c.read_row.ensures ∙ ap (λ (n : ℕ). row_of (plain reserve_key n 0 1000000000) (line_at a.text.now a.at) a.at) c.periods-periods.ensures in
    let part = priced (take P.periods a.q) in
    let v = mapped_ok c.read_row.result c.map_err.result _ c.map_err.ensures.cases c.in_ok-row.was in
    let row = c.in_ok-row.row in
    let q = take P.periods a.q in
    let it = c.leaf_value.ensures ∙ ap (λ (n : ℕ). leaf_of P A.marks (λ t. take n a.q at t) (λ t. take n row.values at t)) c.periods-periods.ensures in
    part_refused P a.text.now a.at a.line a.figures A part 35 (unit_stuck P a.text.now a.at A q c.read_row.result is row v (sym c.in_default.is ∙ it))

pub returns : goal.returns
returns c =
    let a = c.args in
    let P = instance_in a.plan.numbers.now in
    let A = above_of P a.above.now in
    let is = c.read_row.ensures ∙ ap (λ (n : ℕ). row_of (plain reserve_key n 0 1000000000) (line_at a.text.now a.at) a.at) c.periods-periods.ensures in
    let part = priced (take P.periods a.q) in
    let v = mapped_ok c.read_row.result c.map_err.result _ c.map_err.ensures.cases c.in_ok-row.was in
    let row = c.in_ok-row.row in
    let q = take P.periods a.q in
    let it = c.leaf_value.ensures ∙ ap (λ (n : ℕ). leaf_of P A.marks (λ t. take n a.q at t) (λ t. take n row.values at t)) c.periods-periods.ensures in
    let fits : SFits w64 c.in-Some.value = search rules in
    part_leaf P a.text.now a.at a.line a.figures A part (Number c.in-Some.value) row.next c.with_leaf.result
    (value_read P a.text.now a.at A q c.read_row.result is row v c.in-Some.value (sym c.in-Some.is ∙ it)) (row_moved (part_form P part) a.text.now a.at c.read_row.result is row v)
    (c.with_leaf.ensures ∙ ap (λ (z : ℤ). add_leaf a.figures (Number z)) (to_z-of_z w64 c.in-Some.value fits))
