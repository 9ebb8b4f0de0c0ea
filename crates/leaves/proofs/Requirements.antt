-- The requirement, period by period, and its sizes.
use mathlib.Core.Path.{◌≡◌, refl}
use mathlib.Core.List.{List}
use Prim.Native.Nat.{ℕ, ◌+◌, ◌*◌, ◌≤◌}
use native.Mathlib.Nat.{mul-le-mul}
use native.Mathlib.Omega.{arith}
use Rattle.model.specs.Instance.{Instance, ◌at◌, sum}
use Rattle.model.specs.Ranges.{GoodLoad, GoodPrice, WellFormed}
use Rattle.model.specs.Leaf.{requirement}
use Rattle.model.proofs.PeriodSums.{sum_part}
use Rattle.model.proofs.LeafSizes.{all_at, requirement_fits}
use Rattle.least.specs.Limits.{GoodPrices}
use Rattle.least.proofs.Costs.{price_in, reserve_in}

-- ---- one period

pub record Sizes (q s D R : ℕ) : Type 0 where
  pub demanded : q * D ≤ 320_000_000_000_000
  pub spared : s * (D + R) ≤ 640_000_000_000_000

pub sizes : (q s D R : ℕ) → GoodPrice q → GoodPrice s → GoodLoad D → GoodLoad R → Sizes q s D R
sizes q s D R hq hs hD hR =
    let load : D + R ≤ 640_000 = omega arith in
    record { demanded = omega (arith, mul-le-mul hq.1 hD.1); spared = omega (arith, mul-le-mul hs.1 load) }

module _ (P : Instance) (W : WellFormed P) (t : ℕ) where
  pub demand_in : GoodLoad (P.demand at t)
  demand_in = all_at 320000 P.demand W.demand_in t

  pub spare_in : GoodLoad (P.spare at t)
  spare_in = all_at 320000 P.spare W.spare_in t

-- ---- all periods

-- q·D + s·(D + R) in period t
abbrev pub required_at : Instance → List ℕ → List ℕ → ℕ → ℕ
required_at P q s t = q at t * P.demand at t + s at t * (P.demand at t + P.spare at t)

module _ (P : Instance) (q s : List ℕ) where
  pub required_sum : sum P.periods (λ t. required_at P q s t) ≡ requirement P (λ t. q at t) (λ t. s at t)
  unfolding requirement
  required_sum = refl

  module _ (W : WellFormed P) (good : GoodPrices P.periods q s) where
    pub required_sum_fits : requirement P (λ t. q at t) (λ t. s at t) ≤ 46_080_000_000_000_000
    required_sum_fits =
        requirement_fits P W (λ t. q at t) (λ t. s at t) (λ t l. price_in P.periods q s good t) (λ t l. reserve_in P.periods q s good t)

    -- the first t periods
    pub required_part_fits : (t : ℕ) → t ≤ P.periods → sum t (λ t. required_at P q s t) ≤ 46_080_000_000_000_000
    required_part_fits t l = omega (arith, sum_part t P.periods (λ t. required_at P q s t) l, required_sum, required_sum_fits)
