-- The reserve line is read, and what follows it is the units' lines to say.
use borrow.Author.Rules.{rules}
use mathlib.Core.Path.{◌≡◌, sym, ap, subst, ◌∙◌}
use mathlib.Core.List.{[]}
use Prim.Native.Nat.{ℕ, ◌+◌, ◌<◌}
use native.Mathlib.Omega.{arith}
use lib.ListN.{length, take}
use Rattle.std.specs.Prelude.{Err}
use Rattle.std.proofs.lemmas.Result.{err_from_is_err_and}
use Rattle.layout.specs.Numbers.{instance_in}
use Rattle.walk.specs.Marks.{above_of}
use Rattle.text.specs.Lines.{line_at}
use Rattle.text.specs.Forms.{plain, row_of, fault_number}
use Rattle.tree.specs.declared.read.BrokenLine.{BrokenLine}
use Rattle.tree.specs.ReadAnswers.{broken}
use Rattle.text.proofs.Mapped.{mapped_err, mapped_ok}
use Rattle.tree.proofs.Rows.{row_refused, row_moved, taken_multipliers}
use Rattle.tree.proofs.ReadLines.{moved_placed}
use mathlib.Core.Bool.{Bool, cond}
use borrow.Author.Tests.{ne_eqb}
use Rattle.model.specs.Tree.{ramped}
use Rattle.least.specs.Limits.{GoodPrices}
use Rattle.tree.specs.Rendering.{reserve_key}
use Rattle.tree.specs.Places.{ramp_priced, with_steps}
use Rattle.tree.specs.Refusals.{part_form}
use Rattle.tree.specs.ReadAnswers.{part_read}
use Rattle.tree.proofs.WaysThrough.{part_refused, part_part}
use Rattle.tree.proofs.Leaves.{part_line_refused}
use Rattle.tree.proofs.RampLeaves.{reserve_read}
use Rattle.tree.proofs.ramp.read_ramp_reserve.Goals as goal

pub returns-in_err-row : goal.returns-in_err-row
returns-in_err-row c =
    let a = c.args in
    let P = instance_in a.plan.numbers.now in
    let A = above_of P a.above.now in
    let is = c.read_row.ensures ∙ ap (λ (n : ℕ). row_of (plain reserve_key n 0 1000000000) (line_at a.text.now a.at) a.at) c.periods-n.ensures in
    let part = ramp_priced (take P.periods a.q) in
    let p = err_from_is_err_and c.from_residual.result c.from_residual.ensures.1 in
    let m = mapped_err c.read_row.result c.map_err.result _ c.map_err.ensures.cases c.in_err-row.was in
    let e : c.in_err-row.field-0.0 ≡ broken (fault_number m.fault) a.line = search (rules, m.met) in
    rw (p.1, p.2) (ap (λ (x : BrokenLine). Err x) e ∙ part_refused P a.text.now a.at a.line a.figures A part _
    (part_line_refused P a.text.now a.at A part _ (row_refused (part_form P part) a.text.now a.at c.read_row.result is m.fault m.was)))

pub read_units-requires : goal.read_units-requires
read_units-requires c =
    let a = c.args in
    let P = instance_in a.plan.numbers.now in
    let A = above_of P a.above.now in
    let is = c.read_row.ensures ∙ ap (λ (n : ℕ). row_of (plain reserve_key n 0 1000000000) (line_at a.text.now a.at) a.at) c.periods-n.ensures in
    let part = ramp_priced (take P.periods a.q) in
    let v = mapped_ok c.read_row.result c.map_err.result _ c.map_err.ensures.cases c.in_ok-row.was in
    let row = c.in_ok-row.row in
    let m = taken_multipliers P reserve_key a.text.now a.at c.read_row.result is row v in
    record {
      periods_bound = c.requires.periods_bound;
      above_len = c.requires.above_len;
      placed = moved_placed a.text.now a.at a.line a.figures c.requires.placed row.next (row_moved (part_form P part) a.text.now a.at c.read_row.result is row v) a.figures (omega arith);
      good_prices = subst (λ (n : ℕ). GoodPrices P.periods (take n a.q) (take n row.values)) (sym c.periods-n.ensures)
          (record { periods_in = c.args.plan.laid.well_formed.periods_in; q_long = c.requires.multipliers.0; s_long = m.0; q_in = c.requires.multipliers.1; s_in = m.1 });
    }

pub returns : goal.returns
returns c =
    let a = c.args in
    let P = instance_in a.plan.numbers.now in
    let A = above_of P a.above.now in
    let is = c.read_row.ensures ∙ ap (λ (n : ℕ). row_of (plain reserve_key n 0 1000000000) (line_at a.text.now a.at) a.at) c.periods-n.ensures in
    let part = ramp_priced (take P.periods a.q) in
    let v = mapped_ok c.read_row.result c.map_err.result _ c.map_err.ensures.cases c.in_ok-row.was in
    let row = c.in_ok-row.row in
    let q = take P.periods a.q in
    let e : ramped P ≡ length P.units = ap (λ (b : Bool). cond b 0 (length P.units)) (ne_eqb P.periods 1 (λ e. omega (arith, c.requires.periods_bound, e))) in
    let some : 0 < ramped P = omega (arith, e, c.args.plan.laid.well_formed.units_in.0) in
    c.read_units.ensures
    ∙ ap (λ (n : ℕ). part_read P a.text.now row.next (a.line + 1) a.figures A (with_steps (take n a.q) (take n row.values) [])) c.periods-n.ensures
    ∙ sym (part_part P a.text.now a.at a.line a.figures A part (with_steps q (take P.periods row.values) []) row.next
    (reserve_read P some a.text.now a.at A q c.read_row.result is row v) (row_moved (part_form P part) a.text.now a.at c.read_row.result is row v))
