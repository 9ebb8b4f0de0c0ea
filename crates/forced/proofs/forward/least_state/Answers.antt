use mathlib.Core.Path.{◌≡◌, refl, sym, ◌∙◌, ap}
use Prim.Native.Nat.{ℕ, ◌+◌, ◌-◌}
use native.Mathlib.Omega.{arith}
use Rattle.model.specs.Instance.{◌at◌}
use Rattle.model.specs.Walk.{lesser}
use Rattle.model.specs.ForcedWalk.{least_upto}
use Rattle.forced.proofs.Leasts.{upto_more}
use Rattle.forced.proofs.forward.least_state.Goals as goal

pub loop-i-init : goal.loop-i-init
unfolding least_upto
loop-i-init c =
    let from = c.args.from in
    let none : from - from ≡ 0 = omega arith in
    (omega arith, rw none refl)

pub loop-i-preserved : goal.loop-i-preserved
loop-i-preserved c =
    let a = c.args in
    let i = c.loop-i.i in
    (omega arith, c.lesser_value-found.ensures ∙ ap (λ (x : ℕ). lesser x (a.states.now at i)) c.loop-i.invariant.1 ∙ sym (upto_more a.from i a.states.now (omega arith)))

pub returns : goal.returns
returns c =
    let a = c.args in
    let all : c.loop-i.i - a.from ≡ a.to - a.from = omega arith in
    c.loop-i.invariant.1 ∙ ap (λ (n : ℕ). least_upto n (λ j. a.states.now at (a.from + j))) all
