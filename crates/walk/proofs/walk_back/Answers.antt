use mathlib.Core.Path.{◌≡◌}
use Prim.Native.Nat.{◌-◌, ◌≤◌, ◌<◌}
use native.Mathlib.Omega.{arith}
use lib.ListN.{length}
use Rattle.model.proofs.LeafSizes.{all_at}
use Rattle.walk.specs.Marks.{marks_of}
use Rattle.walk.specs.GoingBack.{costs_of}
use Rattle.walk.proofs.Rising.{tabled_rising}
use Rattle.walk.proofs.WholeTables.{tabled_good, tables_end, tables_back}
use Rattle.walk.proofs.walk_back.Goals as goal

pub loop-t-init : goal.loop-t-init
loop-t-init c =
    let a = c.args in
    (omega arith, tables_end a.unit.generator c.args.unit.good (length a.on.now) a.on.now a.off.now a.fixed.now c.requires.good_costs.0 a.ons.now a.offs.now c.requires.ons_len c.requires.by_index)

pub step_back-requires : goal.step_back-requires
step_back-requires c =
    let a = c.args in
    let t = c.loop-t.t in
    let A = c.loop-t.invariant.1 in
    let C = c.requires.good_costs.0 in
    let TU_pos : 0 < a.unit.generator.TU = c.args.unit.good.in_range.TU_in.0 in
    let fits = tabled_good a.unit.generator c.args.unit.good (length a.on.now) a.on.now a.off.now a.fixed.now C t in
    let rising = tabled_rising (length a.on.now) a.unit.generator (marks_of a.fixed.now) (costs_of a.on.now a.off.now) t in record { good_cost = (all_at 1_000_000_000_000_000 a.on.now C.on_in (t - 1), all_at 1_000_000_000_000_000 a.off.now C.off_in (t - 1)); between = ((omega (arith, A.of_on.long, TU_pos), omega (arith, A.of_on.long)), omega (arith, A.of_off.long)); by_index = (fits _ _ A.of_on, fits _ _ A.of_off); rising = (rising _ _ A.of_on, rising _ _ A.of_off) }

pub loop-t-preserved : goal.loop-t-preserved
loop-t-preserved c =
    let a = c.args in
    let t = c.loop-t.t in
    let more : 0 < t = c.loop-t-test.true in
    let within : t ≤ length a.on.now = c.loop-t.invariant.0 in (
      omega arith,
      tables_back a.unit.generator c.args.unit.good (length a.on.now) a.on.now a.off.now a.fixed.now c.requires.good_costs.0 t more within _ _ _ _ c.loop-t.invariant.1 c.step_back.ensures,
    )

pub returns : goal.returns
returns c =
    let e : c.loop-t.t ≡ 0 = omega arith in
    rw e at c.loop-t.invariant.1
