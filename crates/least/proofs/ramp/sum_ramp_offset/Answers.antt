use Rattle.std.proofs.Common.{arith, ◌≡◌, ◌∙◌, ◌+◌, ap, length, suc, ℕ, add-one}
use Rattle.model.specs.Instance.{sum as sum_of}
use Rattle.model.specs.RampCosts.{ramp_offset}
use Rattle.model.proofs.PeriodSums.{sum_more}
use Rattle.least.proofs.StepCosts.{added_is, part_ramp_offset_fits}
use Rattle.least.proofs.ramp.sum_ramp_offset.Invariants.{added-in}
use Rattle.least.proofs.ramp.sum_ramp_offset.Goals as goal
use Rattle.least.proofs.ramp.sum_ramp_offset.Tie as tie
use Rattle.least.proofs.ramp.sum_ramp_offset.Reads as reads
use Rattle.least.proofs.ramp.sum_ramp_offset.Lts as lts

-- the sum with the next period
more : (c : lts.After-limits_value tie.the-claims reads.Pre reads.Post goal.the-invariant-loop-t goal.the-decreases-loop-t tie.handed_clauses) →
    let a = c.args in
    c.loop-t.sum + c.limits_value-sum.result ≡ sum_of (suc c.loop-t.t) (added-in a.unit.generator a.q.now a.s.now a.up.now a.down.now)
more c =
    let a = c.args in
    let t = c.loop-t.t in
    omega (
      arith,
      c.loop-t.invariant,
      c.limits_value-sum.ensures,
      added_is (length a.q.now) a.q.now a.s.now a.up.now a.down.now c.requires.good_prices c.requires.good_steps.0 c.requires.good_steps.1 a.unit.generator t c.loop-t-test.true,
      sum_more t (added-in a.unit.generator a.q.now a.s.now a.up.now a.down.now),
    )

pub overflow_add-sum : goal.overflow_add-sum
overflow_add-sum c =
    let a = c.args in
    omega (
      arith,
      more c.before,
      part_ramp_offset_fits (length a.q.now) a.q.now a.s.now a.up.now a.down.now c.requires.good_prices c.requires.good_steps.0 c.requires.good_steps.1 a.unit.generator c.args.unit.good
          (suc c.loop-t.t) c.loop-t-test.true,
    )

pub loop-t-preserved : goal.loop-t-preserved
loop-t-preserved c = rw (add-one c.loop-t.t) (more c.before)

pub returns : goal.returns
unfolding ramp_offset
returns c =
    let loop = c.loop-t in
    let a = c.args in
    let e : loop.t ≡ length a.q.now = omega arith in
    loop.invariant ∙ ap (λ (k : ℕ). sum_of k (added-in a.unit.generator a.q.now a.s.now a.up.now a.down.now)) e
