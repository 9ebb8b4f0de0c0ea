-- A schedule's rows one after the other in a list.
use Rattle.std.specs.Prelude.{◌≡◌, List, [], ◌∷◌, ℕ, zero, suc, ◌*◌, length, take, drop}
use Rattle.model.specs.declared.arrays.Problem.{Problem}
use Rattle.model.specs.Instance.{Schedule}
use Rattle.model.specs.Held.{Valid}
use Rattle.model.specs.Ranges.{All, GoodOutput}

-- the rows of so many units, each of n outputs out of the list
unfoldable pub cut_rows : ℕ → ℕ → List ℕ → Schedule
cut_rows zero n l = []
cut_rows (suc k) n l = take n l ∷ cut_rows k n (drop n l)

-- the schedule of a problem's units in the list
abbrev pub schedule_of : Problem → List ℕ → Schedule
schedule_of p l = cut_rows p.units p.periods l

-- the arrays hold a well-formed problem, and the list has a row of outputs in range for each of its units
pub record Fitting (p : Problem) (l : List ℕ) : Type 0 where
  pub valid : Valid p
  pub long : length l ≡ p.units * p.periods
  pub outputs_in : All GoodOutput l
