-- A docket whose arrays are as long as the struct's, and whose bound is small: what a state needs to give it back.
use mathlib.Core.Path.{◌≡◌}
use mathlib.Core.Bool.{true}
use lib.ListN.{length}
use Rattle.docket.specs.declared.Docket.{Docket}
use Rattle.docket.specs.Docket.{small_bound}

pub record Fits (d : Docket) : Type 0 where
  pub demand_long : length d.problem.demand ≡ 48
  pub spare_long : length d.problem.spare ≡ 48
  pub units_long : length d.problem.generators ≡ 32
  pub rows_long : length d.rows ≡ 1536
  pub bound_small : small_bound d.held.bound ≡ true
