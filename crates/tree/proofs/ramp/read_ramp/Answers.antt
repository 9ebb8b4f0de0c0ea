-- The rampprice line is read, and what follows it is the reserve line's to say: a price leaf's, where there is but one period.
use borrow.Author.Rules.{rules}
use mathlib.Core.Path.{◌≡◌, ap, ◌∙◌}
use Prim.Native.Nat.{ℕ, ◌+◌, ◌≤◌}
use native.Mathlib.Omega.{arith}
use lib.ListN.{take}
use Rattle.std.specs.Prelude.{Err}
use Rattle.std.proofs.lemmas.Result.{err_from_is_err_and}
use Rattle.layout.specs.Numbers.{instance_in}
use Rattle.walk.specs.Marks.{above_of}
use Rattle.text.specs.Lines.{line_at}
use Rattle.text.specs.Forms.{plain, row_of, fault_number}
use Rattle.tree.specs.declared.read.BrokenLine.{BrokenLine}
use Rattle.tree.specs.ReadAnswers.{broken}
use Rattle.text.proofs.Mapped.{mapped_err, mapped_ok}
use Rattle.tree.proofs.Rows.{row_refused, row_moved, taken_multipliers}
use Rattle.tree.proofs.ReadLines.{moved_placed}
use Rattle.tree.specs.Rendering.{rampprice_key}
use Rattle.tree.specs.Places.{ramp_priced}
use Rattle.tree.specs.Refusals.{ramp_line, node_form}
use Rattle.tree.proofs.WaysThrough.{node_refused, node_part}
use Rattle.tree.proofs.Leaves.{line_refused, ramp_read}
use Rattle.tree.proofs.RampLeaves.{one_period_read}
use Rattle.tree.proofs.ramp.read_ramp.Goals as goal

pub returns-in_err-row : goal.returns-in_err-row
returns-in_err-row c =
    let a = c.args in
    let P = instance_in a.plan.numbers.now in
    let A = above_of P a.above.now in
    let is = c.read_row.ensures ∙ ap (λ (n : ℕ). row_of (plain rampprice_key n 0 1000000000) (line_at a.text.now a.at) a.at) c.periods-n.ensures in
    let p = err_from_is_err_and c.from_residual.result c.from_residual.ensures.1 in
    let m = mapped_err c.read_row.result c.map_err.result _ c.map_err.ensures.cases c.in_err-row.was in
    let e : c.in_err-row.field-0.0 ≡ broken (fault_number m.fault) a.line = search (rules, m.met) in
    rw (p.1, p.2) (ap (λ (x : BrokenLine). Err x) e ∙ node_refused P a.text.now a.at a.line a.figures A 0 _
    (line_refused P a.text.now a.at A 0 ramp_line c.requires.at_value _ (row_refused (node_form P ramp_line) a.text.now a.at c.read_row.result is m.fault m.was)))

pub read_reserve-requires : goal.read_reserve-requires
read_reserve-requires c =
    let a = c.args in
    let P = instance_in a.plan.numbers.now in
    let A = above_of P a.above.now in
    let is = c.read_row.ensures ∙ ap (λ (n : ℕ). row_of (plain rampprice_key n 0 1000000000) (line_at a.text.now a.at) a.at) c.periods-n.ensures in
    let v = mapped_ok c.read_row.result c.map_err.result _ c.map_err.ensures.cases c.in_ok-row.was in
    let row = c.in_ok-row.row in
    record {
      above_len = c.requires.above_len;
      placed = moved_placed a.text.now a.at a.line a.figures c.requires.placed row.next (row_moved (node_form P ramp_line) a.text.now a.at c.read_row.result is row v) a.figures (omega arith);
      multipliers = taken_multipliers P rampprice_key a.text.now a.at c.read_row.result is row v;
    }

pub returns-then-n-eq1 : goal.returns-then-n-eq1
returns-then-n-eq1 c =
    let a = c.args in
    let P = instance_in a.plan.numbers.now in
    let A = above_of P a.above.now in
    let is = c.read_row.ensures ∙ ap (λ (n : ℕ). row_of (plain rampprice_key n 0 1000000000) (line_at a.text.now a.at) a.at) c.periods-n.ensures in
    let v = mapped_ok c.read_row.result c.map_err.result _ c.map_err.ensures.cases c.in_ok-row.was in
    let row = c.in_ok-row.row in
    let one : P.periods ≡ 1 = omega (arith, c.periods-n.ensures, c.if-n-eq1.true) in
    node_part P a.text.now a.at a.line a.figures A 0 (ramp_priced (take P.periods row.values)) row.next c.read_reserve.result
    (ramp_read P a.text.now a.at A 0 c.requires.at_value c.read_row.result is row v) (row_moved (node_form P ramp_line) a.text.now a.at c.read_row.result is row v)
    (c.read_reserve.ensures ∙ one_period_read P one a.text.now row.next (a.line + 1) a.figures A (take P.periods row.values))

pub read_ramp_reserve-requires : goal.read_ramp_reserve-requires
read_ramp_reserve-requires c =
    let a = c.args in
    let P = instance_in a.plan.numbers.now in
    let A = above_of P a.above.now in
    let is = c.read_row.ensures ∙ ap (λ (n : ℕ). row_of (plain rampprice_key n 0 1000000000) (line_at a.text.now a.at) a.at) c.periods-n.ensures in
    let v = mapped_ok c.read_row.result c.map_err.result _ c.map_err.ensures.cases c.in_ok-row.was in
    let row = c.in_ok-row.row in
    let more : 2 ≤ P.periods = omega (arith, c.periods-n.ensures, c.if-n-eq1.false, c.args.plan.laid.well_formed.periods_in.0) in
    record {
      periods_bound = more;
      above_len = c.requires.above_len;
      placed = moved_placed a.text.now a.at a.line a.figures c.requires.placed row.next (row_moved (node_form P ramp_line) a.text.now a.at c.read_row.result is row v) a.figures (omega arith);
      multipliers = taken_multipliers P rampprice_key a.text.now a.at c.read_row.result is row v;
    }

pub returns : goal.returns
returns c =
    let a = c.args in
    let P = instance_in a.plan.numbers.now in
    let A = above_of P a.above.now in
    let is = c.read_row.ensures ∙ ap (λ (n : ℕ). row_of (plain rampprice_key n 0 1000000000) (line_at a.text.now a.at) a.at) c.periods-n.ensures in
    let v = mapped_ok c.read_row.result c.map_err.result _ c.map_err.ensures.cases c.in_ok-row.was in
    let row = c.in_ok-row.row in
    node_part P a.text.now a.at a.line a.figures A 0 (ramp_priced (take P.periods row.values)) row.next c.read_ramp_reserve.result
    (ramp_read P a.text.now a.at A 0 c.requires.at_value c.read_row.result is row v) (row_moved (node_form P ramp_line) a.text.now a.at c.read_row.result is row v) c.read_ramp_reserve.ensures
