-- `docket_in` meets its contract: each part from its place.
use mathlib.Core.Path.{refl, ap, ◌∙◌}
use Prim.Native.Nat.{◌-◌}
use native.Mathlib.Omega.{arith}
use lib.ListN.{length, drop, length-drop}
use lib.Seq.{take_all}
use Rattle.layout.specs.Numbers.{problem_in}
use Rattle.state.specs.Layout.{docket_in}
use Rattle.state.proofs.docket_in.Goals as goal

pub returns : goal.returns
unfolding docket_in
returns c =
    let v = c.args.numbers.now in
    rw (
      c.rows_in.ensures,
      c.bound_in.ensures,
      c.cost_in.ensures,
      c.problem_in.ensures ∙ ap problem_in (take_all (length v - 8) (drop 8 v) (omega (arith, length-drop 8 v))),
    ) refl
