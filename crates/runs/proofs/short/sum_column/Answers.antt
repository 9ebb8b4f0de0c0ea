use native.Mathlib.Omega.{arith}
use Rattle.runs.proofs.Columns.{place_most, column_most, column_next}
use Rattle.runs.proofs.short.sum_column.Goals as goal

pub overflow_add-sum-in-loop-u : goal.overflow_add-sum-in-loop-u
overflow_add-sum-in-loop-u c =
    let a = c.args in
    let good = c.requires.units_bound.2 in
    omega (arith, column_most a.periods a.rows.now good a.t c.loop-u.u, place_most a.periods a.rows.now good a.t c.loop-u.u, c.requires.units_bound.0)

pub loop-u-preserved : goal.loop-u-preserved
loop-u-preserved c = omega (arith, column_next c.loop-u.u c.args.periods c.args.rows.now c.args.t)
