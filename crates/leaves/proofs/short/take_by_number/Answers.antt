use Rattle.std.proofs.Common.{arith, ◌≡◌, ◌∙◌, sym, ap, ap₂, ◌+◌, ◌*◌, ◌<◌, ◌≤◌, ℕ, suc, add-one, length, List, []}
use Rattle.model.specs.Instance.{Instance, ◌at◌}
use Rattle.model.specs.Above.{Mark}
use Rattle.model.specs.Largest.{total}
use Rattle.model.specs.Leaf.{unless_off}
use Rattle.layout.specs.Ranks.{pU_of, ranks_from}
use Rattle.layout.specs.Numbers.{instance_in}
use Rattle.layout.proofs.Ranks.{ranks_long}
use Rattle.walk.specs.Marks.{mark_of, above_of}
use Rattle.walk.proofs.AboveMarks.{marks_same}
use Rattle.least.proofs.UnitParts.{part_within}
use Rattle.leaves.specs.LeafLeasts.{taken_from}
use Rattle.leaves.proofs.Takings.{Passed, passed_few, passed_more, passed_reached, passed_all}
use Rattle.leaves.proofs.Shorts.{usable_rank, rank_may, rank_value, adds_most, pU_small, by_number}
use Rattle.leaves.proofs.short.take_by_number.Goals as goal
use Rattle.leaves.proofs.short.take_by_number.Tie as tie
use Rattle.leaves.proofs.short.take_by_number.Reads as reads
use Rattle.leaves.proofs.short.take_by_number.Lts as lts

-- the mark of unit u in period t, where there are n periods
marked : (P : Instance) (above : List ℕ) (u t n : ℕ) → n ≡ P.periods → u < length P.units → t < P.periods
    → mark_of (above at (u * n + t)) ≡ (above_of P above).marks u t
marked P above u t n e h l = ap (λ (k : ℕ). mark_of (above at (u * k + t))) e ∙ marks_same (length P.units) P.periods above u h t l

-- a turn more
more : (c : lts.After-not_off_of tie.the-claims reads.Pre reads.Post goal.the-invariant-loop-u goal.the-decreases-loop-u tie.handed_clauses) →
    let a = c.args in
    let P = instance_in a.plan.numbers.now in
    Passed (usable_rank (above_of P a.above.now).marks a.t) pU_of (ranks_from 0 P.units) (length P.units) a.need (suc c.loop-u.u)
    (c.loop-u.taken + c.not_off_of-taken.result) (c.loop-u.sum + c.usable_of-sum.result)
more c =
    let a = c.args in
    let P = instance_in a.plan.numbers.now in
    let u = c.loop-u.u in
    let few = c.args.plan.laid.well_formed.units_in.1 in
    let m = (above_of P a.above.now).marks in
    let x = m u a.t in
    let inside : u < length P.units = omega (arith, c.units-u-end.ensures, c.loop-u-test.true) in
    let byte = marked P a.above.now u a.t c.periods-n.result c.periods-n.ensures inside c.requires.t_bound in
    let counted : c.not_off_of-taken.result ≡ length (unless_off x 0 []) = c.not_off_of-taken.ensures ∙ ap (λ (x : Mark). length (unless_off x 0 [])) byte in
    let added = c.usable_of-sum.ensures ∙ ap₂ (λ (x : Mark) (v : ℕ). total (unless_off x v [])) byte (c.pU.ensures ∙ sym (rank_value P.units u inside)) in
    rw (counted, added)
    (passed_more (usable_rank m a.t) pU_of (ranks_from 0 P.units) (length P.units) a.need u c.loop-u.taken c.loop-u.sum c.loop-u.invariant x
    (omega (arith, inside, ranks_long 0 P.units)) (omega (arith, inside, passed_few _ _ _ _ _ _ _ _ c.loop-u.invariant)) c.if-need-sum.false (rank_may P.units few m a.t u inside))

pub bounds-above-u : goal.bounds-above-u
bounds-above-u c =
    let P = instance_in c.args.plan.numbers.now in
    let n = c.periods-n.result in
    let inside : c.loop-u.u < length P.units = omega (arith, c.units-u-end.ensures, c.loop-u-test.true) in
    let within : c.loop-u.u * n + n ≤ length c.args.above.now =
    part_within (length P.units) n c.loop-u.u (length c.args.above.now) inside (rw c.periods-n.ensures c.requires.numbers_in_bounds) in
    omega (arith, within, c.periods-n.ensures, c.requires.t_bound)

pub overflow_add-sum : goal.overflow_add-sum
overflow_add-sum c =
    let P = instance_in c.args.plan.numbers.now in
    let u = c.loop-u.u in
    let inside : u < length P.units = omega (arith, c.units-u-end.ensures, c.loop-u-test.true) in
    omega (
      arith,
      c.usable_of-sum.ensures,
      adds_most (mark_of (c.args.above.now at (u * c.periods-n.result + c.args.t))) c.pU.result,
      c.pU.ensures,
      pU_small P.units c.args.plan.laid.well_formed.units_good u inside,
      c.if-need-sum.false,
      c.requires.need_bound,
    )

pub overflow_add-taken : goal.overflow_add-taken
overflow_add-taken c =
    let P = instance_in c.args.plan.numbers.now in
    omega (arith, passed_few _ _ _ _ _ _ _ _ (more c.before), (more c.before).within, ranks_long 0 P.units, c.args.plan.laid.well_formed.units_in.1)

pub loop-u-preserved : goal.loop-u-preserved
loop-u-preserved c = rw (add-one c.loop-u.u) (more c.before)

pub returns-then-need-sum : goal.returns-then-need-sum
returns-then-need-sum c =
    let P = instance_in c.args.plan.numbers.now in
    passed_reached _ _ _ _ _ _ _ _ c.loop-u.invariant c.if-need-sum.true
    ∙ ap (λ (v : List ℕ). taken_from v c.args.need) (by_number P.units c.args.plan.laid.well_formed.units_in.1 (above_of P c.args.above.now).marks c.args.t)

pub returns : goal.returns
returns c =
    let P = instance_in c.args.plan.numbers.now in
    passed_all _ _ _ _ _ _ _ _ c.loop-u.invariant (omega (arith, c.loop-u-test.false, c.units-u-end.ensures, ranks_long 0 P.units))
    ∙ ap (λ (v : List ℕ). taken_from v c.args.need) (by_number P.units c.args.plan.laid.well_formed.units_in.1 (above_of P c.args.above.now).marks c.args.t)
