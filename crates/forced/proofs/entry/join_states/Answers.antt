use mathlib.Core.Path.{◌∙◌}
use Prim.Native.Nat.{◌+◌}
use Rattle.model.specs.Instance.{◌at◌}
use Rattle.model.specs.ForcedWalk.{both}
use Rattle.forced.proofs.JoinedEntries.{least_none, least_more}
use Rattle.forced.proofs.entry.join_states.Goals as goal

pub loop-i-init : goal.loop-i-init
loop-i-init c = let a = c.args in least_none (λ k. both (a.states.now at k) (a.table.now at (a.begin + k)))

pub loop-i-preserved : goal.loop-i-preserved
loop-i-preserved c =
    let a = c.args in
    c.lesser_value-found.ensures
    ∙ least_more c.loop-i.i (λ k. both (a.states.now at k) (a.table.now at (a.begin + k))) c.loop-i.found c.both_values.result c.loop-i.invariant
    c.both_values.ensures
