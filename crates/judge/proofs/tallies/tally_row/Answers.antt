-- Three counts and two sums, each as its function gives it.
use mathlib.Core.Path.{ap}
use native.Mathlib.Omega.{arith}
use Rattle.judge.specs.declared.tallies.Walk.{Walk}
use Rattle.judge.proofs.CostSize.{row_cost_is, row_most}
use Rattle.judge.proofs.Tallied.{tallies_same}
use Rattle.judge.proofs.tallies.tally_row.Goals as goal

pub overflow_add-result : goal.overflow_add-result
overflow_add-result c =
    let a = c.args in
    omega (
      arith,
      c.sum_fuel.ensures,
      ap (λ (w : Walk). w.cost) c.walk_row-walk.ensures,
      row_cost_is a.unit.generator a.row.now,
      row_most a.unit.generator a.unit.good a.row.now c.requires.2 c.requires.0,
    )

pub returns : goal.returns
returns c =
    let a = c.args in
    tallies_same
    c.count_off_limits.ensures
    (ap (λ (w : Walk). w.barred) c.walk_row-walk.ensures)
    c.count_off_ramp.ensures
    (omega (arith, c.sum_fuel.ensures, ap (λ (w : Walk). w.cost) c.walk_row-walk.ensures, row_cost_is a.unit.generator a.row.now))
