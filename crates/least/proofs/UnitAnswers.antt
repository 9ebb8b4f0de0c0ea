-- One unit's answer from its walk: stuck where the walk finds nothing, else its value less what was added.
use mathlib.Core.Path.{◌≡◌, refl, sym}
use mathlib.Core.Bool.{Bool, cond}
use Prim.Native.Nat.{ℕ, zero, suc, ◌-◌}
use native.Mathlib.Omega.{arith}
use lib.Dec.{eqb, eqb-suc-zero}
use lib.IntN.{ℤ, pos, ◌-ℤ◌}
use Rattle.model.specs.declared.generator.Generator.{Generator}
use Rattle.model.specs.Ranges.{GoodUnit}
use Rattle.model.specs.Above.{Mark}
use Rattle.model.specs.Leaf.{is_stuck, unit_least}
use Rattle.model.specs.Prices.{price_walk, offset}
use Rattle.model.specs.Ramps.{ramp_least}
use Rattle.model.specs.RampCosts.{ramp_walk, ramp_offset}
use Rattle.model.proofs.PriceWalks.{unit_least_is, price_walk_stuck}
use Rattle.model.proofs.RampWalks.{ramp_least_is, ramp_walk_stuck}
use Rattle.std.specs.Prelude.{None, Some}
use Rattle.least.specs.UnitLeasts.{least_of, ramp_least_of}

-- a walk w, with K added, of a unit that is stuck where b says so and has the least value z
module _ (b : Bool) (z : ℤ) (w K : ℕ) (stuck : b ≡ eqb w 0) where
  walk_stuck : w ≡ 0 → None ≡ cond b None (Some z)
  walk_stuck e = rw (stuck, e)

  walk_found : ((v : ℕ) → w ≡ suc v → z ≡ pos v -ℤ pos K) → (v : ℕ) → v ≡ w → (v ≡ 0 → ⊥) → Some (pos (v - 1) -ℤ pos K) ≡ cond b None (Some z)
  walk_found is zero e h = absurd (h refl)
  walk_found is (suc v) e h =
      let k : suc v - 1 ≡ v = omega arith in
      rw (stuck, ← e, eqb-suc-zero v, k, is v (sym e))

module _ (n : ℕ) (q s : ℕ → ℕ) where
  -- at prices
  module _ (g : Generator) (m : ℕ → Mark) where
    pub answer_stuck : price_walk n q s g m ≡ 0 → None ≡ least_of n q s g m
    answer_stuck = walk_stuck (is_stuck n g m) (unit_least n q s g m) (price_walk n q s g m) (offset n q s g) (price_walk_stuck n q s g m)

    pub answer_value : GoodUnit g → (v : ℕ) → v ≡ price_walk n q s g m → (v ≡ 0 → ⊥) → Some (pos (v - 1) -ℤ pos (offset n q s g)) ≡ least_of n q s g m
    answer_value good =
        walk_found (is_stuck n g m) (unit_least n q s g m) (price_walk n q s g m) (offset n q s g) (price_walk_stuck n q s g m) (unit_least_is n q s g good m)

  -- with prices on its rises and falls
  module _ (x y : ℕ → ℕ) (g : Generator) (m : ℕ → Mark) where
    pub ramp_answer_stuck : ramp_walk n q s x y g m ≡ 0 → None ≡ ramp_least_of n q s x y g m
    ramp_answer_stuck =
        walk_stuck (is_stuck n g m) (ramp_least n q s x y g m) (ramp_walk n q s x y g m) (ramp_offset n q s x y g) (ramp_walk_stuck n q s x y g m)

    pub ramp_answer_value : GoodUnit g → (v : ℕ) → v ≡ ramp_walk n q s x y g m → (v ≡ 0 → ⊥)
        → Some (pos (v - 1) -ℤ pos (ramp_offset n q s x y g)) ≡ ramp_least_of n q s x y g m
    ramp_answer_value good =
        walk_found (is_stuck n g m) (ramp_least n q s x y g m) (ramp_walk n q s x y g m) (ramp_offset n q s x y g) (ramp_walk_stuck n q s x y g m)
        (ramp_least_is n q s x y g good m)
