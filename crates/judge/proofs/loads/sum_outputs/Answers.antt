use Prim.Native.Nat.{◌+◌, ◌*◌}
use native.Mathlib.Omega.{arith}
use Rattle.model.specs.Instance.{◌at◌}
use Rattle.model.proofs.PeriodSums.{sum_most}
use Rattle.judge.proofs.Sums.{sum_next}
use Rattle.judge.proofs.Standing.{output_most}
use Rattle.judge.proofs.loads.sum_outputs.Goals as goal

pub overflow_add-total : goal.overflow_add-total
overflow_add-total c =
    let a = c.args in
    let l = c.loop-u in
    let most = output_most c.requires.0 c.requires.1 in
    let m = sum_most l.u 10000 (λ i. a.rows.now at (i * a.periods + a.t)) (λ i h. most i (omega arith)) in
    omega (arith, c.from-total.ensures, l.invariant, m, c.requires.0.few, most l.u c.loop-u-test.true)

pub loop-u-preserved : goal.loop-u-preserved
loop-u-preserved c =
    let a = c.args in
    omega (arith, c.from-total.ensures, c.loop-u.invariant, sum_next c.loop-u.u (λ i. a.rows.now at (i * a.periods + a.t)))
