use Prim.Native.Nat.{ℕ, ◌+◌, ◌*◌}
use native.Mathlib.Omega.{arith}
use Rattle.model.specs.Instance.{◌at◌}
use Rattle.model.specs.Rules.{on, if_on}
use Rattle.model.proofs.PeriodSums.{sum_most}
use Rattle.judge.proofs.Sums.{sum_next}
use Rattle.judge.proofs.Standing.{cap_most}
use Rattle.judge.proofs.loads.sum_capacities.Goals as goal

pub overflow_add-total : goal.overflow_add-total
overflow_add-total c =
    let a = c.args in
    let l = c.loop-u in
    let most = λ (i : ℕ). cap_most a.capacities.now c.requires.2 (on (a.rows.now at (i * a.periods + a.t))) i in
    let m = sum_most l.u 10000 (λ i. if_on (on (a.rows.now at (i * a.periods + a.t))) (a.capacities.now at i)) (λ i h. most i (omega arith)) in
    omega (arith, c.count_if_on-total.ensures, l.invariant, m, c.requires.0.few, most l.u c.loop-u-test.true)

pub loop-u-preserved : goal.loop-u-preserved
loop-u-preserved c =
    let a = c.args in
    omega (
      arith,
      c.count_if_on-total.ensures,
      c.loop-u.invariant,
      sum_next c.loop-u.u (λ i. if_on (on (a.rows.now at (i * a.periods + a.t))) (a.capacities.now at i)),
    )
