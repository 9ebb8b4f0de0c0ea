use mathlib.Core.Path.{◌≡◌, ap, ◌∙◌}
use mathlib.Core.List.{flatten}
use Prim.Native.Nat.{ℕ, ◌+◌, ◌*◌, ◌-◌, ◌≤◌, ◌<◌}
use native.Mathlib.Nat.{mul-le-mul_right}
use native.Mathlib.Omega.{arith}
use lib.ListN.{drop, length, take}
use Rattle.model.specs.declared.generator.Generator.{Generator}
use Rattle.model.specs.Instance.{◌at◌}
use Rattle.model.specs.Held.{blank_generator}
use Rattle.model.specs.Runs.{least_rows}
use Rattle.layout.specs.Numbers.{instance_in}
use Rattle.walk.specs.Marks.{marks_of}
use Rattle.runs.proofs.AllRuns.{run_left, run_written, all_written}
use Rattle.runs.proofs.units.write_runs.Goals as goal

-- the next unit's part is within the rows; N is the periods as the code knows them
within : (u I n N : ℕ) → u < I → N ≡ n → u * N + N ≤ I * n
within u I n N more e = rw e (omega (arith, mul-le-mul_right n more))

pub loop-u-init : goal.loop-u-init
unfolding least_rows flatten
loop-u-init c = let none : 0 * c.periods-n.result ≡ 0 = omega arith in rw none

pub slice_bounds-unit_run-end : goal.slice_bounds-unit_run-end
slice_bounds-unit_run-end c =
    let P = instance_in c.args.plan.numbers.now in
    omega (arith, within c.loop-u.u (length P.units) P.periods c.periods-n.result (omega (arith, c.loop-u-test.true, c.units-u-end.ensures)) c.periods-n.ensures, c.requires.numbers_in_bounds)

pub slice_bounds-unit_run-end-in-loop-u : goal.slice_bounds-unit_run-end-in-loop-u
slice_bounds-unit_run-end-in-loop-u c =
    let P = instance_in c.args.plan.numbers.now in
    omega (arith, within c.loop-u.u (length P.units) P.periods c.periods-n.result (omega (arith, c.loop-u-test.true, c.units-u-end.ensures)) c.periods-n.ensures, c.requires.rows_len, c.loop-u.auto.rows)

pub loop-u-preserved : goal.loop-u-preserved
loop-u-preserved c =
    let a = c.args in
    let P = instance_in a.plan.numbers.now in
    let n = c.periods-n.result in
    let u = c.loop-u.u in
    let more : u < length P.units = omega (arith, c.loop-u-test.true, c.units-u-end.ensures) in
    let e : n ≡ P.periods = c.periods-n.ensures in
    let long = u * n + n - u * n in
    let part = marks_of (take long (drop (u * n) a.fixed.now)) in
    let old = take long (drop (u * n) c.loop-u.rows) in
    let w = run_written P c.args.plan.laid.well_formed.units_good (λ t. a.q.now at t) (λ t. a.s.now at t) a.fixed.now c.requires.fixed_value
    blank_generator u more (u * n) (length a.q.now) n c.requires.good_prices.q_long e (ap (λ (k : ℕ). u * k) e)
    c.loop-u.rows old _ (omega (arith, within u (length P.units) P.periods n more e, c.loop-u.auto.rows, c.requires.rows_len)) c.loop-u.invariant
    (c.unit_run.ensures.row ∙ ap (λ (g : Generator). run_left (λ t. a.q.now at t) (λ t. a.s.now at t) g old (length a.q.now) part) c.unit-unit.ensures) in
    let next : (u + 1) * n ≡ u * n + n = omega arith in
    rw next w.1

pub returns : goal.returns
returns c =
    let a = c.args in
    let P = instance_in a.plan.numbers.now in
    all_written P c.args.plan.laid.well_formed.units_good (λ t. a.q.now at t) (λ t. a.s.now at t) a.fixed.now c.requires.fixed_value
    c.loop-u.u (c.loop-u.u * c.periods-n.result) c.loop-u.rows (omega (arith, c.loop-u.auto.u-end, c.units-u-end.ensures, c.loop-u-test.false)) (ap (λ (k : ℕ). c.loop-u.u * k) c.periods-n.ensures)
    (c.loop-u.auto.rows ∙ c.requires.rows_len) c.loop-u.invariant
