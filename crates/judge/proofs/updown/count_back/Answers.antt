use mathlib.Core.Path.{◌≡◌, sym, ◌∙◌}
use Prim.Native.Nat.{◌-◌}
use native.Mathlib.Omega.{arith}
use borrow.Author.Tests.{not-true, not-false}
use Rattle.judge.proofs.Tests.{beq_true, beq_false}
use Rattle.judge.proofs.Before.{back_more, back_stops}
use Rattle.judge.proofs.updown.count_back.Goals as goal

pub returns-then-is_on-status : goal.returns-then-is_on-status
returns-then-is_on-status c =
    let a = c.args in
    let k = c.loop-k.k in
    let e : a.t - 1 - (k - 1) ≡ a.t - k = omega (arith, c.loop-k-test.true) in
    let other = beq_false _ _ (not-true _ c.if-is_on-status.true) in
    e
    ∙ sym (back_stops a.g.on a.g.since a.row.now _ a.t k c.loop-k-test.true (omega (arith, c.requires.1)) c.loop-k.invariant
    (λ e. other (c.is_on.ensures ∙ e)))

pub loop-k-preserved : goal.loop-k-preserved
loop-k-preserved c =
    let a = c.args in
    let e = beq_true _ _ (not-false _ c.if-is_on-status.false) in
    back_more a.g.on a.g.since a.row.now _ a.t c.loop-k.k c.loop-k-test.true (omega arith) (omega (arith, c.requires.1)) c.loop-k.invariant
    (sym c.is_on.ensures ∙ e)
