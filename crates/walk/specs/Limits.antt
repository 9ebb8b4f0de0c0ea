-- What callers ensure of the numbers they hand over: the limits of what a period costs are wider than a leaf's prices need.
use Rattle.std.specs.Prelude.{◌≡◌, List, ℕ, length}
use Rattle.model.specs.Ranges.{Between, All}

-- what a period costs
abbrev pub GoodCost : ℕ → Type 0
GoodCost v = Between 0 v 1_000_000_000_000_000

-- what the periods on cost, and the periods off
pub record GoodCosts (n : ℕ) (on off : List ℕ) : Type 0 where
  pub periods_in : Between 1 n 48
  pub on_long : length on ≡ n
  pub off_long : length off ≡ n
  pub on_in : All GoodCost on
  pub off_in : All GoodCost off

-- a coded value that leaves room for a sum
abbrev pub GoodValue : ℕ → Type 0
GoodValue v = Between 0 v 1_000_000_000_000_000_000
