-- The arrays of a docket that is read from slices are as long as the struct's.
use mathlib.Core.Path.{◌≡◌}
use mathlib.Core.List.{List}
use Prim.Native.Nat.{ℕ, ◌≤◌}
use native.Mathlib.Omega.{arith}
use lib.ListN.{length, drop, length-drop}
use lib.Seq.{length-take-le}
use Rattle.layout.proofs.Readings.{generators_long}
use Rattle.layout.specs.Numbers.{problem_in}
use Rattle.state.specs.Layout.{docket_in}

module _ (v w : List ℕ) (room : 618 ≤ length v) where
  pub demand_long : length (docket_in v w).problem.demand ≡ 48
  unfolding docket_in problem_in
  demand_long = length-take-le 48 (drop 2 (drop 8 v)) (omega (arith, room, length-drop 8 v, length-drop 2 (drop 8 v)))

  pub spare_long : length (docket_in v w).problem.spare ≡ 48
  unfolding docket_in problem_in
  spare_long = length-take-le 48 (drop 50 (drop 8 v)) (omega (arith, room, length-drop 8 v, length-drop 50 (drop 8 v)))

  pub units_long : length (docket_in v w).problem.generators ≡ 32
  unfolding docket_in problem_in
  units_long = generators_long (drop 8 v) 0 32
