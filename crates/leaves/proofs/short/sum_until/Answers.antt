-- `sum_until` meets its contract: the byte of the upper count says in which order the units are taken.
use mathlib.Core.Path.{◌≡◌, ap₂, ◌∙◌}
use Prim.Native.Nat.{◌+◌, ◌*◌, ◌≤◌}
use native.Mathlib.Omega.{arith}
use lib.ListN.{length}
use Rattle.model.specs.Instance.{◌at◌}
use Rattle.layout.specs.Numbers.{instance_in}
use Rattle.walk.proofs.AboveMarks.{statuses_inside}
use Rattle.leaves.proofs.Requirements.{demand_in, spare_in}
use Rattle.leaves.proofs.Shorts.{answers_all, answers_largest}
use Rattle.leaves.proofs.short.sum_until.Goals as goal
use Rattle.leaves.proofs.short.sum_until.Tie as tie
use Rattle.leaves.proofs.short.sum_until.Reads as reads
use Rattle.leaves.proofs.short.sum_until.Lts as lts

-- demand and spare
need-is : (c : lts.After-spare tie.the-claims reads.Pre reads.Post tie.handed_clauses) →
    let a = c.args in
    let P = instance_in a.plan.numbers.now in
    c.demand.result + c.spare.result ≡ P.demand at a.t + P.spare at a.t
need-is c = ap₂ ◌+◌ c.demand.ensures c.spare.ensures

need-small : (c : lts.After-spare tie.the-claims reads.Pre reads.Post tie.handed_clauses) → c.demand.result + c.spare.result ≤ 640_000
need-small c =
    let P = instance_in c.args.plan.numbers.now in
    omega (arith, need-is c, demand_in P c.args.plan.laid.well_formed c.args.t, spare_in P c.args.plan.laid.well_formed c.args.t)

-- the statuses are within the bytes
inside : (s : lts.After-spare tie.the-claims reads.Pre reads.Post tie.handed_clauses) → let P = instance_in s.args.plan.numbers.now in length P.units * P.periods ≤ length s.args.above.now
inside s = statuses_inside (instance_in s.args.plan.numbers.now) s.args.plan.laid.well_formed s.args.above.now s.requires.above_len

pub overflow_add-need : goal.overflow_add-need
overflow_add-need c = omega (arith, need-small c.before)

pub take_by_number-requires : goal.take_by_number-requires
take_by_number-requires c =
    record { t_bound = c.requires.t_bound; numbers_in_bounds = inside c.before.before.before; need_bound = need-small c.before.before.before }

pub returns-then-upper-eq0 : goal.returns-then-upper-eq0
returns-then-upper-eq0 c =
    let a = c.args in
    c.take_by_number.ensures ∙ answers_all (instance_in a.plan.numbers.now) a.above.now a.t c.requires.t_bound _ (need-is c.before.before.before.before) c.if-upper-eq0.true

pub take_largest-requires : goal.take_largest-requires
take_largest-requires c =
    record { t_bound = c.requires.t_bound; numbers_in_bounds = inside c.before.before.before.before; need_bound = need-small c.before.before.before.before }

pub returns : goal.returns
returns c =
    let a = c.args in
    c.take_largest.ensures ∙ rw c.from.ensures (answers_largest (instance_in a.plan.numbers.now) a.above.now a.t c.requires.t_bound _ (need-is c.before.before.before.before.before) c.if-upper-eq0.false)
