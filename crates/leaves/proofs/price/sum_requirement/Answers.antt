use Rattle.std.proofs.Common.{arith, ◌≡◌, ◌∙◌, ap, ap₂, ◌+◌, ◌*◌, ◌<◌, ℕ, suc, add-one}
use Rattle.model.specs.Instance.{◌at◌, sum as sum_of}
use Rattle.model.proofs.PeriodSums.{sum_more}
use Rattle.layout.specs.Numbers.{instance_in}
use Rattle.leaves.proofs.Requirements.{required_at, required_sum, required_part_fits}
use Rattle.leaves.proofs.price.sum_requirement.Goals as goal
use Rattle.leaves.proofs.price.sum_requirement.Tie as tie
use Rattle.leaves.proofs.price.sum_requirement.Reads as reads
use Rattle.leaves.proofs.price.sum_requirement.Lts as lts

-- the sum with the next period
more : (c : lts.After-required tie.the-claims reads.Pre reads.Post goal.the-invariant-loop-t goal.the-decreases-loop-t tie.handed_clauses) →
    let a = c.args in
    c.loop-t.sum + c.required-sum.result ≡ sum_of (suc c.loop-t.t) (λ i. required_at (instance_in a.plan.numbers.now) a.q.now a.s.now i)
more c =
    let a = c.args in
    let t = c.loop-t.t in
    let here : c.required-sum.result ≡ required_at (instance_in a.plan.numbers.now) a.q.now a.s.now t =
    c.required-sum.ensures ∙ ap₂ (λ (d r : ℕ). a.q.now at t * d + a.s.now at t * (d + r)) c.demand.ensures c.spare.ensures in
    omega (arith, c.loop-t.invariant, here, sum_more t (λ i. required_at (instance_in a.plan.numbers.now) a.q.now a.s.now i))

pub overflow_add-sum : goal.overflow_add-sum
overflow_add-sum c =
    let a = c.args in
    let P = instance_in a.plan.numbers.now in
    let next : c.loop-t.t < P.periods = omega (arith, c.periods-t-end.ensures, c.loop-t-test.true) in
    omega (arith, more c.before, required_part_fits P a.q.now a.s.now c.args.plan.laid.well_formed c.requires (suc c.loop-t.t) next)

pub loop-t-preserved : goal.loop-t-preserved
loop-t-preserved c = rw (add-one c.loop-t.t) (more c.before)

pub returns : goal.returns
returns c =
    let a = c.args in
    let P = instance_in a.plan.numbers.now in
    let end : c.loop-t.t ≡ P.periods = omega (arith, c.periods-t-end.ensures, c.loop-t.auto.t-end, c.loop-t-test.false) in
    c.loop-t.invariant ∙ ap (λ (k : ℕ). sum_of k (λ i. required_at P a.q.now a.s.now i)) end ∙ required_sum P a.q.now a.s.now
