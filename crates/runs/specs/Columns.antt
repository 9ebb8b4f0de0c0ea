-- Rows that stand one after the other in a list, by period.
use Rattle.std.specs.Prelude.{List, map, ℕ, ◌-◌, length}
use Rattle.model.specs.Instance.{Instance, ◌at◌}
use Rattle.model.specs.Leaf.{range}
use Rattle.judge.specs.Loads.{output_in}

-- how far the rows of a problem's units fall short of D, in each period
abbrev pub short_of : Instance → List ℕ → List ℕ
short_of P l = map (λ t. P.demand at t - output_in (length P.units) P.periods l t) (range 0 P.periods)
