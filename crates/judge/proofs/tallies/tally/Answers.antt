use mathlib.Core.Path.{◌≡◌, refl, ap, ◌∙◌, sym}
use Prim.Native.Nat.{◌+◌, ◌-◌, ◌*◌}
use native.Mathlib.Omega.{arith}
use borrow.Author.Rules.{rules}
use lib.ListN.{length}
use Rattle.judge.proofs.Units.{periods_most, periods_least, part_long, part_outputs, unit_good}
use Rattle.judge.proofs.Sums.{cost_is}
use Rattle.judge.proofs.Tallied.{tallies_same}
use Rattle.judge.proofs.UnitTallies.{tallied, tallied_more, more_small}
use Rattle.judge.proofs.tallies.tally.Goals as goal

pub invariant_of-unit : goal.invariant_of-unit
invariant_of-unit c =
    let many : length c.args.problem.generators ≡ 32 = search rules in
    record { good = unit_good c.args.problem c.args.rows.now c.requires many c.loop-u.u c.loop-u-test.true }

pub tally_row-row-requires : goal.tally_row-row-requires
tally_row-row-requires c =
    let p = c.args.problem in
    let r = c.args.rows.now in
    let u = c.loop-u.u in
    let more = c.loop-u-test.true in
    let e : u * p.periods + p.periods - u * p.periods ≡ p.periods = omega arith in
    let n = part_long p r c.requires u more in
    rw e (
      omega (arith, periods_most p r c.requires),
      omega (arith, periods_least p r c.requires),
      part_outputs p r c.requires u,
    )

pub overflow_add-all : goal.overflow_add-all
overflow_add-all c =
    let p = c.args.problem in
    let many : length p.generators ≡ 32 = search rules in
    let small = more_small p c.args.rows.now c.requires c.loop-u.all _ c.loop-u.u c.loop-u-test.true c.loop-u.invariant c.tally_row-row.ensures many in
    omega (arith, small.limits)

pub overflow_add-all-in-loop-u : goal.overflow_add-all-in-loop-u
overflow_add-all-in-loop-u c =
    let p = c.args.problem in
    let many : length p.generators ≡ 32 = search rules in
    let small = more_small p c.args.rows.now c.requires c.loop-u.all _ c.loop-u.u c.loop-u-test.true c.loop-u.invariant c.tally_row-row.ensures many in
    omega (arith, small.updown)

pub overflow_add-all-in-loop-u-2 : goal.overflow_add-all-in-loop-u-2
overflow_add-all-in-loop-u-2 c =
    let p = c.args.problem in
    let many : length p.generators ≡ 32 = search rules in
    let small = more_small p c.args.rows.now c.requires c.loop-u.all _ c.loop-u.u c.loop-u-test.true c.loop-u.invariant c.tally_row-row.ensures many in
    omega (arith, small.ramps)

pub overflow_add-all-in-loop-u-3 : goal.overflow_add-all-in-loop-u-3
overflow_add-all-in-loop-u-3 c =
    let p = c.args.problem in
    let many : length p.generators ≡ 32 = search rules in
    let small = more_small p c.args.rows.now c.requires c.loop-u.all _ c.loop-u.u c.loop-u-test.true c.loop-u.invariant c.tally_row-row.ensures many in
    omega (arith, small.cost)

pub loop-u-preserved : goal.loop-u-preserved
loop-u-preserved c =
    tallied_more c.args.problem c.args.rows.now c.requires c.loop-u.all _ c.loop-u.u c.loop-u-test.true c.loop-u.invariant c.tally_row-row.ensures

pub returns : goal.returns
returns c =
    let p = c.args.problem in
    let many : length p.generators ≡ 32 = search rules in
    let last : c.loop-u.u ≡ p.units = omega arith in
    c.loop-u.invariant ∙ ap (tallied p c.args.rows.now) last ∙ tallies_same refl refl refl (sym (cost_is p c.args.rows.now c.requires many))
