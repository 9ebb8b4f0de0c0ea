-- What callers ensure of the numbers they hand over. The limits of prices are document 01's (Texts); those of slopes are wider than
-- prices need.
use Rattle.std.specs.Prelude.{◌≡◌, List, ℕ, suc, length}
use Rattle.model.specs.Instance.{◌at◌}
use Rattle.model.specs.Ranges.{Between, All, GoodPrice}

-- price multipliers q and reserve multipliers s of n periods
pub record GoodPrices (n : ℕ) (q s : List ℕ) : Type 0 where
  pub periods_in : Between 1 n 48
  pub q_long : length q ≡ n
  pub s_long : length s ≡ n
  pub q_in : All GoodPrice q
  pub s_in : All GoodPrice s

-- the multipliers of a unit's rises or falls in n periods, by the period that a step ends with: 0 in the first period, into which no step leads, and
-- behind the last
pub record GoodSteps (n : ℕ) (l : List ℕ) : Type 0 where
  pub long : length l ≡ suc n
  pub first : l at 0 ≡ 0
  pub last : l at n ≡ 0
  pub in_range : All GoodPrice l

-- what a unit of output costs, and a unit short of pU
pub record GoodSlopes (x y : ℕ) : Type 0 where
  pub x_in : Between 0 x 10_000_000_000
  pub y_in : Between 0 y 10_000_000_000
