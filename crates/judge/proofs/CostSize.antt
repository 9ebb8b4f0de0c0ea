-- A row's cost is that of its outputs and that of its statuses, and fits 64 bits with room to spare.
use mathlib.Core.Path.{◌≡◌, refl}
use mathlib.Core.List.{List}
use Prim.Native.Nat.{ℕ, ◌+◌, ◌≤◌, ◌<◌}
use native.Mathlib.Omega.{arith}
use lib.ListN.{length}
use Rattle.model.specs.declared.arrays.Problem.{Problem}
use Rattle.model.specs.declared.generator.Generator.{Generator}
use Rattle.model.specs.Instance.{◌at◌, sum}
use Rattle.model.specs.Ranges.{All, GoodUnit, GoodOutput}
use Rattle.model.specs.Cost.{fuel_cost, row_cost}
use Rattle.model.proofs.CostSizes.{row_cost_fits}
use Rattle.judge.specs.Rows.{Fitting}
use Rattle.judge.specs.Walk.{switch_in}
use Rattle.judge.proofs.Rows.{all_at}
use Rattle.judge.proofs.Units.{unit, part, periods_most, part_long, part_outputs, unit_good}
use Rattle.judge.proofs.Walk.{switches_are}

pub row_cost_is : (g : Generator) (r : List ℕ)
    → sum (length r) (λ t. fuel_cost g (r at t)) + sum (length r) (switch_in g r) ≡ row_cost (length r) g r
unfolding row_cost
row_cost_is g r = omega (arith, switches_are g r)

-- it fits
pub row_most : (g : Generator) → GoodUnit g → (r : List ℕ) → All GoodOutput r → length r ≤ 48 → row_cost (length r) g r ≤ 52896000000000
row_most g good r h l =
    row_cost_fits g good (length r) l r (record { long = refl; outputs = λ t k. (all_at GoodOutput r 0 h t k).1 })

module _ (p : Problem) (l : List ℕ) (F : Fitting p l) (many : length p.generators ≡ 32) where
  pub part_cost_most : (i : ℕ) → i < p.units → row_cost p.periods (unit p i) (part p l i) ≤ 52896000000000
  part_cost_most i h =
      let n = part_long p l F i h in
      rw n at (row_most (unit p i) (unit_good p l F many i h) (part p l i) (part_outputs p l F i) (omega (arith, periods_most p l F)))
