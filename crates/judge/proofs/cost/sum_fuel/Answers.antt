use mathlib.Core.Path.{◌≡◌, ap, ◌∙◌}
use Prim.Native.Nat.{ℕ, ◌*◌, ◌≤◌}
use native.Mathlib.Omega.{arith}
use lib.ListN.{length}
use Rattle.model.specs.Instance.{◌at◌, sum}
use Rattle.model.specs.Ranges.{GoodOutput}
use Rattle.model.specs.Rules.{on}
use Rattle.judge.proofs.Rows.{all_at}
use Rattle.judge.proofs.Sums.{sum_next}
use Rattle.judge.proofs.Counts.{bit_most}
use Rattle.judge.proofs.Fuel.{ons, outputs, squares, fuel_sum, ons_most, outputs_most, squares_most, square_most, a_most, b_most, c_most}
use Rattle.judge.proofs.cost.sum_fuel.Goals as goal

pub overflow_add-periods : goal.overflow_add-periods
overflow_add-periods c =
    let r = c.args.row.now in
    let l = c.loop-output in
    omega (arith, c.count_on-periods.ensures, bit_most (on (r at l.output-index)), l.invariant.0, ons_most r l.output-index, c.requires.1)

pub overflow_add-outputs : goal.overflow_add-outputs
overflow_add-outputs c =
    let r = c.args.row.now in
    let l = c.loop-output in
    omega (
      arith,
      c.from-p.ensures,
      (all_at GoodOutput r 0 c.requires.2 l.output-index c.loop-output-test.true).1,
      l.invariant.1.0,
      outputs_most r c.requires.2 l.output-index (omega arith),
      c.requires.1,
    )

pub overflow_add-squares : goal.overflow_add-squares
overflow_add-squares c =
    let r = c.args.row.now in
    let l = c.loop-output in
    let here : c.from-squares.result ≡ squares r l.output-index = rw c.from-p.ensures at c.from-squares.ensures in
    let most = square_most _ (all_at GoodOutput r 0 c.requires.2 l.output-index c.loop-output-test.true).1 in
    omega (arith, here, most, l.invariant.1.1, squares_most r c.requires.2 l.output-index (omega arith), c.requires.1)

pub loop-output-preserved : goal.loop-output-preserved
loop-output-preserved c =
    let r = c.args.row.now in
    let l = c.loop-output in
    let i = l.output-index in
    let here : c.from-squares.result ≡ squares r i = rw c.from-p.ensures at c.from-squares.ensures in (
      omega (arith, c.count_on-periods.ensures, l.invariant.0, sum_next i (ons r)),
      (omega (arith, c.from-p.ensures, l.invariant.1.0, sum_next i (outputs r)), omega (arith, here, l.invariant.1.1, sum_next i (squares r))),
    )

pub overflow_mul-result-3 : goal.overflow_mul-result-3
overflow_mul-result-3 c =
    let r = c.args.row.now in
    let l = c.loop-output in
    let few = squares_most r c.requires.2 l.output-index (omega arith) in
    omega (arith, c_most c.args.g c.requires.0 l.squares (omega (arith, few, l.invariant.1.1, c.requires.1)))

pub overflow_add-result-2 : goal.overflow_add-result-2
overflow_add-result-2 c =
    let g = c.args.g in
    let r = c.args.row.now in
    let l = c.loop-output in
    let i = l.output-index in
    let h : i ≤ length r = omega arith in
    let a = a_most g c.requires.0 c.from.result (omega (arith, c.from.ensures, ons_most r i, l.invariant.0, c.requires.1)) in
    let b = b_most g c.requires.0 c.from-2.result (omega (arith, c.from-2.ensures, outputs_most r c.requires.2 i h, l.invariant.1.0, c.requires.1)) in
    let c' = c_most g c.requires.0 l.squares (omega (arith, squares_most r c.requires.2 i h, l.invariant.1.1, c.requires.1)) in
    omega (arith, a, b, c')

pub returns : goal.returns
returns c =
    let a = c.args in
    let r = a.row.now in
    let l = c.loop-output in
    let e : l.output-index ≡ length r = omega arith in
    omega (
      arith,
      ap (λ (n : ℕ). a.g.a * n) (c.from.ensures ∙ l.invariant.0 ∙ ap (λ (n : ℕ). sum n (ons r)) e),
      ap (λ (n : ℕ). a.g.b * n) (c.from-2.ensures ∙ l.invariant.1.0 ∙ ap (λ (n : ℕ). sum n (outputs r)) e),
      ap (λ (n : ℕ). a.g.c * n) (l.invariant.1.1 ∙ ap (λ (n : ℕ). sum n (squares r)) e),
      fuel_sum a.g r (length r),
    )
