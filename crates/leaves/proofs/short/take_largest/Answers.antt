use mathlib.Core.Path.{◌≡◌, refl, ap, ap₂, ◌∙◌}
use mathlib.Core.List.{List, []}
use Prim.Native.Nat.{ℕ, suc, ◌+◌, ◌*◌, ◌≤◌, ◌<◌}
use native.Mathlib.Nat.{mul-le-mul_right}
use native.Mathlib.Numerals.{add-one}
use native.Mathlib.Omega.{arith}
use lib.ListN.{length, get_or, take}
use Rattle.model.specs.Instance.{◌at◌}
use Rattle.model.specs.Above.{Mark}
use Rattle.model.specs.Largest.{total, falling}
use Rattle.model.specs.Leaf.{unless_off, usable}
use Rattle.layout.specs.Ranks.{unit_of, pU_of, ranked}
use Rattle.layout.specs.Numbers.{instance_in}
use Rattle.layout.proofs.Ranks.{ranked_long, unit_inside}
use Rattle.walk.specs.Marks.{mark_of, above_of}
use Rattle.walk.proofs.AboveMarks.{marks_same}
use Rattle.leaves.specs.declared.short.Taken.{Taken}
use Rattle.leaves.specs.LeafLeasts.{taken_from}
use Rattle.leaves.proofs.Takings.{values, Passed, passed_none, passed_few, passed_more, passed_reached, passed_most, passed_all}
use Rattle.leaves.proofs.Shorts.{usable_rank, by_size, value_small}
use Rattle.leaves.proofs.short.take_largest.Goals as goal
use Rattle.leaves.proofs.short.take_largest.Goals.{then-loop-taken-test+else-i-units, else-loop-taken-test}
use Rattle.leaves.proofs.short.take_largest.Tie as tie
use Rattle.leaves.proofs.short.take_largest.Reads as reads
use Rattle.leaves.proofs.short.take_largest.Lts as lts

-- the place is one of the ranks'
inside : (c : lts.Else2 tie.the-claims reads.Pre reads.Post goal.the-invariant-loop-taken goal.the-decreases-loop-taken tie.handed_clauses) → c.loop-taken.i < length (instance_in c.args.plan.numbers.now).units
inside c = omega (arith, c.loop-taken.invariant.0, c.if-i-units.true)

-- the byte of unit u of I in period t of n
place : (u I n t size : ℕ) → u < I → t < n → I * n ≤ size → u * n + t < size
place u I n t size h j l = omega (arith, mul-le-mul_right n h)

-- the rank's unit is one of the problem's
unit_in : (c : lts.Else2 tie.the-claims reads.Pre reads.Post goal.the-invariant-loop-taken goal.the-decreases-loop-taken tie.handed_clauses) →
    let P = instance_in c.args.plan.numbers.now in
    unit_of (get_or (ranked P.units) c.loop-taken.i 0) < length P.units
unit_in c =
    unit_inside (instance_in c.args.plan.numbers.now).units c.loop-taken.i c.args.plan.laid.well_formed.units_in.1 (inside c)

within : (c : lts.After-place tie.the-claims reads.Pre reads.Post goal.the-invariant-loop-taken goal.the-decreases-loop-taken tie.handed_clauses) →
    c.place.result + c.args.t < length c.args.above.now
within c =
    let P = instance_in c.args.plan.numbers.now in
    rw c.place.ensures
    (place (unit_of (get_or (ranked P.units) c.loop-taken.i 0)) (length P.units) P.periods c.args.t (length c.args.above.now) (unit_in c.before) c.requires.t_bound c.requires.numbers_in_bounds)

-- the unit's mark
marked : (c : lts.After-place tie.the-claims reads.Pre reads.Post goal.the-invariant-loop-taken goal.the-decreases-loop-taken tie.handed_clauses) →
    let a = c.args in
    let P = instance_in a.plan.numbers.now in
    mark_of (a.above.now at (c.place.result + a.t)) ≡ (above_of P a.above.now).marks (unit_of (get_or (ranked P.units) c.loop-taken.i 0)) a.t
marked c =
    let a = c.args in
    let P = instance_in a.plan.numbers.now in
    ap (λ (k : ℕ). mark_of (a.above.now at (k + a.t))) c.place.ensures
    ∙ marks_same (length P.units) P.periods a.above.now (unit_of (get_or (ranked P.units) c.loop-taken.i 0)) (unit_in c.before) a.t c.requires.t_bound

-- what it adds
added : (c : lts.After-usable_of tie.the-claims reads.Pre reads.Post goal.the-invariant-loop-taken goal.the-decreases-loop-taken tie.handed_clauses) →
    let a = c.args in
    let P = instance_in a.plan.numbers.now in
    let r = get_or (ranked P.units) c.loop-taken.i 0 in
    c.usable_of-sum.result ≡ total (unless_off ((above_of P a.above.now).marks (unit_of r) a.t) (pU_of r) [])
added c = c.usable_of-sum.ensures ∙ ap₂ (λ (x : Mark) (v : ℕ). total (unless_off x v [])) (marked c.before.before.before) c.size.ensures

-- a turn more
more : (c : lts.After-not_off_of tie.the-claims reads.Pre reads.Post goal.the-invariant-loop-taken goal.the-decreases-loop-taken tie.handed_clauses) →
    let a = c.args in
    let P = instance_in a.plan.numbers.now in
    Passed (usable_rank (above_of P a.above.now).marks a.t) pU_of (ranked P.units) a.most a.need (suc c.loop-taken.i) (c.loop-taken.taken + c.not_off_of-taken.result)
    (c.loop-taken.sum + c.usable_of-sum.result)
more c =
    let a = c.args in
    let P = instance_in a.plan.numbers.now in
    let r = get_or (ranked P.units) c.loop-taken.i 0 in
    let x = (above_of P a.above.now).marks (unit_of r) a.t in
    let counted : c.not_off_of-taken.result ≡ length (unless_off x 0 []) = c.not_off_of-taken.ensures ∙ ap (λ (x : Mark). length (unless_off x 0 [])) (marked c.before.before.before.before) in
    rw (counted, added c.before)
    (passed_more (usable_rank (above_of P a.above.now).marks a.t) pU_of (ranked P.units) a.most a.need c.loop-taken.i c.loop-taken.taken c.loop-taken.sum
    c.loop-taken.invariant.1 x (omega (arith, inside c.before.before.before.before.before, ranked_long P.units)) c.loop-taken-test.true c.if-need-sum.false refl)

-- what is answered of those that were passed
ended : (c : lts.At-loop tie.the-claims reads.Pre reads.Post goal.the-invariant-loop-taken goal.the-decreases-loop-taken tie.handed_clauses) (r : Taken) →
    let P = instance_in c.args.plan.numbers.now in
    let m = (above_of P c.args.above.now).marks in
    r ≡ taken_from (values (usable_rank m c.args.t) pU_of (ranked P.units) c.args.most) c.args.need
    → r ≡ taken_from (take c.args.most (falling (usable P.units m c.args.t))) c.args.need
ended c r e =
    let P = instance_in c.args.plan.numbers.now in
    e ∙ ap (λ (v : List ℕ). taken_from v c.args.need) (by_size P.units c.args.plan.laid.well_formed.units_in.1 (above_of P c.args.above.now).marks c.args.t c.args.most)

pub loop-taken-init : goal.loop-taken-init
loop-taken-init c = (c.units-units.ensures, passed_none _ _ _ _ _)

pub place-requires : goal.place-requires
place-requires c = inside c.before

pub overflow_add-mark : goal.overflow_add-mark
overflow_add-mark c = omega (arith, within c.before)

pub bounds-above-place : goal.bounds-above-place
bounds-above-place c = within c.before.before

pub size-requires : goal.size-requires
size-requires c = inside c.before.before.before

pub overflow_add-sum : goal.overflow_add-sum
overflow_add-sum c =
    let P = instance_in c.args.plan.numbers.now in
    let W = c.args.plan.laid.well_formed in
    omega (
      arith,
      added c.before,
      value_small P.units W.units_in.1 (above_of P c.args.above.now).marks c.args.t W.units_good c.loop-taken.i (inside c.before.before.before.before.before)
          ((above_of P c.args.above.now).marks (unit_of (get_or (ranked P.units) c.loop-taken.i 0)) c.args.t),
      c.if-need-sum.false,
      c.requires.need_bound,
    )

pub overflow_add-taken : goal.overflow_add-taken
overflow_add-taken c =
    let P = instance_in c.args.plan.numbers.now in
    omega (arith, passed_few _ _ _ _ _ _ _ _ (more c.before), (more c.before).within, ranked_long P.units, c.args.plan.laid.well_formed.units_in.1)

pub overflow_add-i : goal.overflow_add-i
overflow_add-i c =
    omega (arith, inside c.before.before.before.before.before.before, c.args.plan.laid.well_formed.units_in.1)

pub loop-taken-smaller : goal.loop-taken-smaller
loop-taken-smaller c = omega (arith, inside c.before.before.before.before.before.before, c.loop-taken.invariant.0)

pub loop-taken-preserved : goal.loop-taken-preserved
loop-taken-preserved c = (c.loop-taken.invariant.0, rw (add-one c.loop-taken.i) (more c.before))

pub returns-then-need-sum : goal.returns-then-need-sum
returns-then-need-sum c =
    ended c.before.before.before.before _ (passed_reached _ _ _ _ _ _ _ _ c.loop-taken.invariant.1 c.if-need-sum.true)

pub returns : goal.returns
returns c =
    let P = instance_in c.args.plan.numbers.now in
    let passed = c.loop-taken.invariant.1 in
    ended c.before.before _ (elim c.loop-taken-test.branch [
      | then-loop-taken-test+else-i-units w ↦ passed_all _ _ _ _ _ _ _ _ passed (omega (arith, w.if-i-units.false, c.loop-taken.invariant.0, ranked_long P.units))
      | else-loop-taken-test w ↦ passed_most _ _ _ _ _ _ _ _ passed w.loop-taken-test.false
    ])
