-- What a leaf answers: that a unit is stuck, or a least value, which only a leaf without a stuck unit has; whether the units are short and how many were taken, or
-- whether they are a crowd (document 01, Rules for a leaf; document 02, [1], [2] and [6]).
use Rattle.std.specs.Prelude.{Bool, false, cond, ◌||◌, List, [], ◌∷◌, ℕ, ◌+◌, ltb, pos, ◌+ℤ◌, None, Some}
use Rattle.std.proofs.Math.Option.{Option, none, some}
use Rattle.model.specs.declared.generator.Generator.{Generator}
use Rattle.model.specs.Instance.{Instance, ◌at◌}
use Rattle.model.specs.Above.{Mark, Marks, rest, Above}
use Rattle.model.specs.Largest.{total}
use Rattle.model.specs.Turns.{in_turn, took}
use Rattle.model.specs.Leaf.{available, fixed_on, not_off, any_stuck, units_least, requirement, leaf_value}
use Rattle.model.specs.Ramps.{Steps, ramp_leasts, ramp_leaf_value}
use Rattle.least.specs.UnitLeasts.{Least}
use Rattle.leaves.specs.declared.short.Taken.{Taken}

-- of all units, in n periods
abbrev pub leasts_of : ℕ → (ℕ → ℕ) → (ℕ → ℕ) → List Generator → Marks → Least
leasts_of n q s gs m = cond (any_stuck n gs m) None (Some (units_least n q s gs m))

-- of a price leaf
abbrev pub leaf_of : Instance → Marks → (ℕ → ℕ) → (ℕ → ℕ) → Least
leaf_of P m q s = cond (any_stuck P.periods P.units m) None (Some (leaf_value P m q s))

-- with prices on the ramps: of these units, and of a leaf
abbrev pub ramp_leasts_of : ℕ → (ℕ → ℕ) → (ℕ → ℕ) → Steps → Steps → List Generator → Marks → Least
ramp_leasts_of n q s x y gs m = cond (any_stuck n gs m) None (Some (ramp_leasts n q s x y gs m))

abbrev pub ramp_leaf_of : Instance → Marks → (ℕ → ℕ) → (ℕ → ℕ) → Steps → Steps → Least
ramp_leaf_of P m q s x y = cond (any_stuck P.periods P.units m) None (Some (ramp_leaf_value P m q s x y))

-- what units answer, and one unit more
abbrev pub plus_unit : Least → Least → Least
plus_unit None l = None
plus_unit (Some v) None = None
plus_unit (Some v) (Some w) = Some (v +ℤ w)

-- what all units answer, with what the periods require
abbrev pub plus_requirement : Instance → (ℕ → ℕ) → (ℕ → ℕ) → Least → Least
plus_requirement P q s None = None
plus_requirement P q s (Some v) = Some (v +ℤ pos (requirement P q s))

-- whether `short` holds: what is available in period t is below D + R
abbrev pub short_at : Instance → Above → ℕ → Bool
short_at P A t = ltb (available P A t) (P.demand at t + P.spare at t)

-- whether `short` holds in period t, and how many units it takes
abbrev pub taken_in : Instance → Above → ℕ → Taken
taken_in P A t = record { short = short_at P A t; units = took (in_turn P A t) (P.demand at t + P.spare at t) }

-- how many units have a mark in period t of which p holds
abbrev pub counted : (Mark → Bool) → List Generator → Marks → ℕ → ℕ
counted p [] m t = 0
counted p (g ∷ gs) m t = cond (p (m 0 t)) 1 0 + counted p gs (rest m) t

-- what is answered where the numbers of l are taken from its front until they reach d: whether they do not, and how many were taken
abbrev pub taken_from : List ℕ → ℕ → Taken
taken_from l d = record { short = ltb (total l) d; units = took l d }

-- whether n is above the upper count, if one stands
abbrev pub above_most : ℕ → Option ℕ → Bool
above_most n none = false
above_most n (some K) = ltb K n

-- whether `crowd` holds: the upper count of period t is below the number of units fixed on, or its lower count above that of the units not fixed off
abbrev pub crowd_at : Instance → Above → ℕ → Bool
crowd_at P A t = above_most (fixed_on P.units A.marks t) (A.most t) || ltb (not_off P.units A.marks t) (A.least t)
