-- What one unit answers: that it is stuck, or its least value (document 01, Rules for a leaf; document 02, [6]).
use Rattle.std.specs.Prelude.{cond, ℕ, ℤ, Option, None, Some}
use Rattle.model.specs.declared.generator.Generator.{Generator}
use Rattle.model.specs.Above.{Mark}
use Rattle.model.specs.Leaf.{is_stuck, unit_least}
use Rattle.model.specs.Ramps.{ramp_least}

-- the least value, or none where a unit is stuck
abbrev pub Least : Type 0
Least = Option ℤ

-- in n periods
abbrev pub least_of : ℕ → (ℕ → ℕ) → (ℕ → ℕ) → Generator → (ℕ → Mark) → Least
least_of n q s g m = cond (is_stuck n g m) None (Some (unit_least n q s g m))

-- with prices x and y on its rises and falls
abbrev pub ramp_least_of : ℕ → (ℕ → ℕ) → (ℕ → ℕ) → (ℕ → ℕ) → (ℕ → ℕ) → Generator → (ℕ → Mark) → Least
ramp_least_of n q s x y g m = cond (is_stuck n g m) None (Some (ramp_least n q s x y g m))
