use mathlib.Core.Path.{◌≡◌, refl, ap, ◌∙◌}
use mathlib.Core.List.{map}
use Prim.Native.Nat.{ℕ, ◌+◌, ◌*◌, ◌-◌, ◌≤◌, ◌<◌}
use native.Mathlib.Nat.{mul-le-mul_right}
use native.Mathlib.Omega.{arith}
use lib.ListN.{drop, length, take}
use Rattle.model.specs.declared.generator.Generator.{Generator}
use Rattle.model.specs.Instance.{◌at◌}
use Rattle.model.specs.Held.{blank_generator}
use Rattle.model.specs.Forced.{forced_table, forced_tables, value_number, stuck_number}
use Rattle.layout.specs.Numbers.{instance_in}
use Rattle.walk.specs.Marks.{marks_of}
use Rattle.forced.proofs.AllEntries.{table_written, tables_written}
use Rattle.forced.proofs.units.write_forced.Goals as goal

-- the next unit's part is within the statuses; N is the periods as the code knows them
within : (u I n N : ℕ) → u < I → N ≡ n → u * N + N ≤ I * n
within u I n N more e = rw e (omega (arith, mul-le-mul_right n more))

pub loop-u-init : goal.loop-u-init
unfolding forced_tables
loop-u-init c = let none : 2 * (0 * c.periods-n.result) ≡ 0 = omega arith in rw none (refl, refl)

pub slice_bounds-unit_forced-end : goal.slice_bounds-unit_forced-end
slice_bounds-unit_forced-end c =
    let P = instance_in c.args.plan.numbers.now in
    omega (arith, within c.loop-u.u (length P.units) P.periods c.periods-n.result (omega (arith, c.loop-u-test.true, c.units-u-end.ensures)) c.periods-n.ensures, c.requires.numbers_in_bounds)

pub slice_bounds-unit_forced-end-in-loop-u : goal.slice_bounds-unit_forced-end-in-loop-u
slice_bounds-unit_forced-end-in-loop-u c =
    let P = instance_in c.args.plan.numbers.now in
    omega (arith, within c.loop-u.u (length P.units) P.periods c.periods-n.result (omega (arith, c.loop-u-test.true, c.units-u-end.ensures)) c.periods-n.ensures, c.requires.values_len, c.loop-u.auto.values)

pub loop-u-preserved : goal.loop-u-preserved
loop-u-preserved c =
    let a = c.args in
    let P = instance_in a.plan.numbers.now in
    let good = c.args.plan.laid.well_formed.units_good in
    let n = c.periods-n.result in
    let u = c.loop-u.u in
    let more : u < length P.units = omega (arith, c.loop-u-test.true, c.units-u-end.ensures) in
    let e : n ≡ P.periods = c.periods-n.ensures in
    let room = within u (length P.units) P.periods n more e in
    let begins = ap (λ (k : ℕ). u * k) e in
    let part = marks_of (take (u * n + n - u * n) (drop (u * n) a.fixed.now)) in
    let g = ap (λ (g : Generator). forced_table (length a.q.now) (λ t. a.q.now at t) (λ t. a.s.now at t) g part) c.unit.ensures in
    let v = table_written P good (λ t. a.q.now at t) (λ t. a.s.now at t) a.fixed.now value_number
    blank_generator u more (u * n) (length a.q.now) n c.requires.good_prices.q_long e begins
    c.loop-u.values _ (omega (arith, room, c.loop-u.auto.values, c.requires.values_len.0)) c.loop-u.invariant.0 (c.unit_forced.ensures.values ∙ ap (map value_number) g) in
    let w = table_written P good (λ t. a.q.now at t) (λ t. a.s.now at t) a.fixed.now stuck_number
    blank_generator u more (u * n) (length a.q.now) n c.requires.good_prices.q_long e begins
    c.loop-u.stuck _ (omega (arith, room, c.loop-u.auto.stuck, c.requires.values_len.1)) c.loop-u.invariant.1 (c.unit_forced.ensures.stuck ∙ ap (map stuck_number) g) in
    let next : 2 * ((u + 1) * n) ≡ 2 * (u * n + n) = omega arith in
    rw next (v.1, w.1)

pub returns : goal.returns
returns c =
    let a = c.args in
    let P = instance_in a.plan.numbers.now in
    let all : c.loop-u.u ≡ length P.units = omega (arith, c.loop-u.auto.u-end, c.units-u-end.ensures, c.loop-u-test.false) in
    let begins = ap (λ (k : ℕ). c.loop-u.u * k) c.periods-n.ensures in
    let good = c.args.plan.laid.well_formed.units_good in record {
      values = tables_written P good (λ t. a.q.now at t) (λ t. a.s.now at t) a.fixed.now value_number
          c.loop-u.u _ c.loop-u.values all begins (c.loop-u.auto.values ∙ c.requires.values_len.0) c.loop-u.invariant.0;
      stuck = tables_written P good (λ t. a.q.now at t) (λ t. a.s.now at t) a.fixed.now stuck_number
          c.loop-u.u _ c.loop-u.stuck all begins (c.loop-u.auto.stuck ∙ c.requires.values_len.1) c.loop-u.invariant.1;
    }
