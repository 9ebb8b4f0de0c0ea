-- (2) and (3) over rows that stand one after the other in a list.
use Rattle.std.specs.Prelude.{◌≡◌, List, map, ℕ, ◌+◌, ◌*◌, ◌≤◌, length}
use Rattle.model.specs.declared.arrays.Problem.{Problem}
use Rattle.model.specs.Instance.{◌at◌, sum}
use Rattle.model.specs.Ranges.{All, GoodOutput}
use Rattle.model.specs.Rules.{on, if_on}

-- each of k units has a row of n outputs in the list, all in range
pub record Standing (k n : ℕ) (l : List ℕ) : Type 0 where
  pub few : k ≤ 32
  pub long : length l ≡ k * n
  pub outputs_in : All GoodOutput l

-- what the k units give in period t
abbrev pub output_in : ℕ → ℕ → List ℕ → ℕ → ℕ
output_in k n l t = sum k (λ i. l at (i * n + t))

-- the pU of the generators that a problem's array holds
abbrev pub capacities : Problem → List ℕ
capacities p = map (λ g. g.pU) p.generators

-- the pU of the units that are on in period t
abbrev pub capacity_in : List ℕ → ℕ → List ℕ → ℕ → ℕ
capacity_in caps n l t = sum (length caps) (λ i. if_on (on (l at (i * n + t))) (caps at i))
