use mathlib.Core.Path.{◌≡◌, sym, ◌∙◌, ap}
use mathlib.Core.Bool.{true, false}
use Prim.Native.Nat.{suc, ◌+◌, ◌-◌, ◌≤◌, ◌<◌, min}
use native.Mathlib.Omega.{arith}
use lib.ListN.{length}
use lib.Seq.{length-take-le}
use Rattle.model.specs.Walk.{cap}
use Rattle.model.specs.Table.{values}
use Rattle.walk.specs.Marks.{marks_of}
use Rattle.walk.specs.GoingBack.{costs_of}
use Rattle.model.proofs.LeafSizes.{all_at}
use Rattle.model.proofs.WalkPeriods.{values_end}
use Rattle.walk.proofs.Rising.{front_rising}
use Rattle.walk.proofs.Walks.{values_good, ones_known, front_good, fronts_long, known_turn, own_turn, own_start}
use Rattle.walk.proofs.walk_reached.Goals as goal

pub loop-t-init : goal.loop-t-init
loop-t-init c =
    let a = c.args in
    let n = length a.on.now in
    let C = c.requires.good_costs.0 in
    let ones = c.requires.by_index in
    let known = ones_known a.unit.generator c.args.unit.good n a.on.now a.off.now a.fixed.now C in (
      (omega arith, c.requires.ons_len.0, c.requires.ons_len.1),
      (
        (
          known true (min n a.unit.generator.TU) a.ons.now (λ k i. ones.0 k (omega arith)),
          known false (min n (cap a.unit.generator false)) a.offs.now (λ k i. ones.1 k (omega arith)),
        ),
        sym (values_end n a.unit.generator (marks_of a.fixed.now) (costs_of a.on.now a.off.now) a.unit.generator.on (a.unit.generator.since + n)),
      ),
    )

pub own_back-value-requires : goal.own_back-value-requires
own_back-value-requires c =
    let a = c.args in
    let t = c.loop-t.t in
    let C = c.requires.good_costs.0 in
    let inv = c.loop-t.invariant in
    let good = values_good a.unit.generator c.args.unit.good (length a.on.now) a.on.now a.off.now a.fixed.now C t in
    let TU_pos : 0 < a.unit.generator.TU = c.args.unit.good.in_range.TU_in.0 in
    let more : 0 < t = c.loop-t-test.true in record {
      good_cost = (all_at 1_000_000_000_000_000 a.on.now C.on_in (t - 1), all_at 1_000_000_000_000_000 a.off.now C.off_in (t - 1));
      good_value = (
        rw (inv.1.0.0 0 (omega arith)) (good true 1),
        (rw (inv.1.0.1 0 (omega arith)) (good false 1), rw inv.1.1 (good a.unit.generator.on (a.unit.generator.since + t))),
      );
    }

pub slice_bounds-step_back-end-in-loop-t : goal.slice_bounds-step_back-end-in-loop-t
slice_bounds-step_back-end-in-loop-t c =
    sym (length-take-le _ _ (omega (arith, c.loop-t.invariant.0)))

pub slice_bounds-step_back-end-in-loop-t-3 : goal.slice_bounds-step_back-end-in-loop-t-3
slice_bounds-step_back-end-in-loop-t-3 c =
    sym (length-take-le _ _ (omega (arith, c.loop-t.invariant.0)))

pub step_back-requires : goal.step_back-requires
step_back-requires c =
    let a = c.args in
    let t = c.loop-t.t in
    let C = c.requires.good_costs.0 in
    let inv = c.loop-t.invariant in
    let good = front_good a.unit.generator c.args.unit.good (length a.on.now) a.on.now a.off.now a.fixed.now C t in
    let rising = front_rising (length a.on.now) a.unit.generator (marks_of a.fixed.now) (costs_of a.on.now a.off.now) t in
    let TU_pos : 0 < a.unit.generator.TU = c.args.unit.good.in_range.TU_in.0 in
    let more : 0 < t = c.loop-t-test.true in
    let up : c.min-a.result ≡ min t a.unit.generator.TU = omega (arith, c.min-a.ensures, inv.0.1) in
    let down : c.min-b.result ≡ min t (cap a.unit.generator false) = omega (arith, c.min-b.ensures, inv.0.2) in record {
      good_cost = (all_at 1_000_000_000_000_000 a.on.now C.on_in (t - 1), all_at 1_000_000_000_000_000 a.off.now C.off_in (t - 1));
      between = (
        rw (length-take-le c.min-a.result c.loop-t.ons (omega arith)) (omega arith, omega arith),
        rw (length-take-le c.min-b.result c.loop-t.offs (omega arith)) (omega arith),
      );
      by_index = (good true _ _ _ up (omega arith) inv.1.0.0, good false _ _ _ down (omega arith) inv.1.0.1);
      rising = (rising true _ _ _ up (omega arith) inv.1.0.0, rising false _ _ _ down (omega arith) inv.1.0.1);
    }

pub loop-t-preserved : goal.loop-t-preserved
loop-t-preserved c =
    let a = c.args in
    let n = length a.on.now in
    let t = c.loop-t.t in
    let C = c.requires.good_costs.0 in
    let inv = c.loop-t.invariant in
    let more : 0 < t = c.loop-t-test.true in
    let within : t ≤ n = inv.0.0 in
    let p = c.min-a in
    let q = c.min-b in
    let up : p.result ≡ min t a.unit.generator.TU = omega (arith, p.ensures, inv.0.1) in
    let down : q.result ≡ min t (cap a.unit.generator false) = omega (arith, q.ensures, inv.0.2) in
    let next : suc (a.unit.generator.since + (t - 1)) ≡ a.unit.generator.since + t = omega arith in
    let TU_pos : 0 < a.unit.generator.TU = c.args.unit.good.in_range.TU_in.0 in
    let long = fronts_long a.unit.generator _ _ _ c.loop-t.ons c.loop-t.offs _ _ p.result q.result c.step_back.ensures in
    let X = values n a.unit.generator (marks_of a.fixed.now) (costs_of a.on.now a.off.now) t in
    let back = c.own_back-value.ensures X (sym (inv.1.0.0 0 (omega arith))) (sym (inv.1.0.1 0 (omega arith)))
    (ap (X a.unit.generator.on) next ∙ sym inv.1.1) in (
      (omega arith, long.0 ∙ inv.0.1, long.1 ∙ inv.0.2),
      (
        known_turn a.unit.generator c.args.unit.good n a.on.now a.off.now a.fixed.now C t more within c.loop-t.ons c.loop-t.offs _ _ p.result q.result (inv.0.1, inv.0.2) (up, down) inv.1.0 c.step_back.ensures,
        own_turn a.unit.generator c.args.unit.good n a.on.now a.off.now a.fixed.now C t more within a.unit.generator.on _ _ back,
      ),
    )

pub shape_of-ons : goal.shape_of-ons
shape_of-ons c = omega (arith, c.loop-t.invariant.0)

pub shape_of-offs : goal.shape_of-offs
shape_of-offs c = omega (arith, c.loop-t.invariant.0)

pub returns : goal.returns
returns c =
    let a = c.args in
    own_start a.unit.generator c.args.unit.good (length a.on.now) a.on.now a.off.now a.fixed.now c.requires.good_costs.0 c.loop-t.t (omega arith) a.unit.generator.on a.unit.generator.since _
    c.loop-t.invariant.1.1
