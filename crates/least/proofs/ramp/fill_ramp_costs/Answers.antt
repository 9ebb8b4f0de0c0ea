use Rattle.std.proofs.Common.{arith, ◌∙◌, ◌<◌, length, below_more, get_or-set_same, get_or-set_other}
use Rattle.least.proofs.StepCosts.{on_is, off_is}
use Rattle.least.proofs.ramp.fill_ramp_costs.Goals as goal

pub loop-t-preserved : goal.loop-t-preserved
loop-t-preserved c =
    let a = c.args in
    let inv = c.loop-t.invariant in
    let on = c.loop-t.on in
    let off = c.loop-t.off in
    let t = c.loop-t.t in
    let n = length a.q.now in
    let x = c.least_on.result in
    let y = c.limits_value.result in
    let P = c.requires.good_prices in
    let U = c.requires.good_steps.0 in
    let D = c.requires.good_steps.1 in
    let more : t < n = c.loop-t-test.true in
    let on_cost = on_is n a.q.now a.s.now a.up.now a.down.now P U D a.unit.generator t more x c.least_on.ensures in
    let off_cost = off_is n a.q.now a.s.now a.up.now a.down.now P U D a.unit.generator t more in record {
      on_at = below_more _ t (λ k h. get_or-set_other on t k x 0 (omega arith) ∙ inv.on_at k h) (get_or-set_same on t x 0 (omega arith) ∙ on_cost);
      off_at = below_more _ t (λ k h. get_or-set_other off t k y 0 (omega arith) ∙ inv.off_at k h) (get_or-set_same off t y 0 (omega arith) ∙ c.limits_value.ensures ∙ off_cost);
    }
