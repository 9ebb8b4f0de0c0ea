-- A leaf's answer from its units' answer and the requirement.
use mathlib.Core.Path.{◌≡◌, refl}
use mathlib.Core.Bool.{Bool, true, false, cond}
use mathlib.Core.List.{List}
use Prim.Native.Nat.{ℕ}
use lib.IntN.{ℤ, pos, ◌+ℤ◌}
use Rattle.model.specs.Instance.{Instance, ◌at◌}
use Rattle.model.specs.Above.{Marks}
use Rattle.model.specs.Ranges.{WellFormed}
use Rattle.model.specs.Leaf.{any_stuck, units_least, requirement, leaf_value}
use Rattle.std.specs.Prelude.{None, Some}
use Rattle.least.specs.Limits.{GoodPrices}
use Rattle.leaves.specs.LeafLeasts.{leasts_of, leaf_of, plus_requirement}
use Rattle.leaves.specs.Limits.{SmallLeast}
use Rattle.leaves.proofs.SmallSums.{small_least}
use Rattle.leaves.proofs.Units.{units_small}

-- of units that are stuck where b says so, and have the sum z
pub plus_required : (P : Instance) (q s : ℕ → ℕ) (b : Bool) (z : ℤ) → plus_requirement P q s (cond b None (Some z)) ≡ cond b None (Some (z +ℤ pos (requirement P q s)))
plus_required P q s true z = refl
plus_required P q s false z = refl

-- of a price leaf
pub leaf_answer : (P : Instance) (m : Marks) (q s : ℕ → ℕ) → plus_requirement P q s (leasts_of P.periods q s P.units m) ≡ leaf_of P m q s
unfolding leaf_value
leaf_answer P m q s = plus_required P q s (any_stuck P.periods P.units m) (units_least P.periods q s P.units m)

-- the units' answer leaves room for the requirement
pub leasts_small : (P : Instance) → WellFormed P → (m : Marks) (q s : List ℕ) → GoodPrices P.periods q s
    → SmallLeast (leasts_of P.periods (λ t. q at t) (λ t. s at t) P.units m)
leasts_small P W m q s good =
    small_least (any_stuck P.periods P.units m) (units_least P.periods (λ t. q at t) (λ t. s at t) P.units m)
    (units_small P.periods q s good P.units W.units_good W.units_in.1 m)
