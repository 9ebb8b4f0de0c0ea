-- `started_value` meets its contract: the states that have not been reached have no value, so that the least of those before them is the least of all.
use mathlib.Core.Path.{◌≡◌, ◌∙◌, ap, ap₂}
use mathlib.Core.Bool.{not}
use Prim.Native.Nat.{ℕ, suc, ◌+◌, ◌-◌}
use native.Mathlib.Omega.{arith}
use lib.Dec.{eqb}
use Rattle.model.specs.Instance.{◌at◌}
use Rattle.model.specs.Walk.{lesser}
use Rattle.model.specs.Table.{kept}
use Rattle.model.specs.ForcedWalk.{least_upto}
use Rattle.walk.proofs.StatusMarks.{allows_on}
use Rattle.forced.proofs.Leasts.{upto_most, least_beyond}
use Rattle.forced.proofs.forward.started_value.Goals as goal

pub kept_value-starting-requires : goal.kept_value-starting-requires
kept_value-starting-requires c = (
  omega (arith, c.args.unit.good.in_range.Hsc_in, c.requires.good_cost),
  (omega arith, rw c.least_state-early.ensures (upto_most _ _ _ (λ k. (c.requires.offs_len.1 (c.args.unit.generator.TD - 1 + k)).1))),
)

pub returns : goal.returns
returns c =
    let a = c.args in
    let g = a.unit.generator in
    let to : g.TD + g.Tcold ≡ g.TD - 1 + suc g.Tcold = omega (arith, c.args.unit.good.in_range.TD_in) in
    let reached = c.least_state-early.ensures ∙ ap (λ (n : ℕ). least_upto (n - (g.TD - 1)) (λ i. a.offs.now at (g.TD - 1 + i))) c.min.ensures in
    let early = reached ∙ least_beyond (g.TD - 1) (g.TD + g.Tcold) (suc g.Tcold) a.t a.offs.now to c.requires.beyond in
    rw (allows_on a.mark)
    (c.lesser_value.ensures ∙ ap₂ lesser (c.kept_value-starting.ensures ∙ ap (kept (not (eqb a.mark 1)) (g.Hsc + a.on)) early) c.kept_value-starting_cold.ensures)
