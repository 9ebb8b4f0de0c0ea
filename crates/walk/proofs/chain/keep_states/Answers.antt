use mathlib.Core.Path.{◌≡◌, ◌∙◌, ap}
use Prim.Native.Nat.{ℕ, ◌+◌}
use native.Mathlib.Omega.{arith}
use Rattle.model.specs.Walk.{plus}
use Rattle.walk.proofs.Chains.{written_none, written_more}
use Rattle.walk.proofs.chain.keep_states.Goals as goal

pub loop-i-init : goal.loop-i-init
loop-i-init g c = written_none _ _ _

pub plus_value-requires : goal.plus_value-requires
plus_value-requires g c =
    let i = c.loop-i.i in
    let next = c.loop-i.invariant.above (i + 1) (omega arith) in
    record { good = (c.requires.good_cost.0, rw next (c.requires.good_cost.1 (i + 1) (omega arith))); valued = λ e. rw next (c.requires.valued e (i + 1) (omega arith) (omega arith)) }

pub loop-i-preserved : goal.loop-i-preserved
loop-i-preserved g c =
    let a = c.args in
    let inv = c.loop-i.invariant in
    let i = c.loop-i.i in
    let here = c.plus_value.ensures ∙ ap (λ (y : ℕ). plus a.cost y) (inv.above (i + 1) (omega arith)) in
    written_more _ _ _ i _ _ (omega arith) (omega arith) inv here

pub shape_of-states : goal.shape_of-states
shape_of-states g c = c.loop-i.invariant.same

pub returns : goal.returns
returns g c =
    let e : c.loop-i.i ≡ c.args.to = omega arith in
    rw e at c.loop-i.invariant
