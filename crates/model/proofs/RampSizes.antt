-- No sum overflows (document 01, Texts, after the ranges), for one unit of a ramp leaf: a unit of output costs at most 2,010,000,000 and one short of pU
-- 3,000,000,000; a period costs at most 40,000,000,000,000, and 60,000,000,000,000 are added to it at most.
use mathlib.Core.Path.{◌≡◌, refl, ap}
use mathlib.Core.Bool.{Bool, true, false}
use Prim.Native.Nat.{ℕ, zero, suc, pred, ◌+◌, ◌*◌, ◌-◌, ◌≤◌, ◌<◌}
use native.Mathlib.Nat.{mul-le-mul}
use native.Mathlib.Omega.{arith}
use lib.IntN.{pos, ◌-ℤ◌}
use Rattle.model.specs.declared.generator.Generator.{Generator}
use Rattle.model.specs.Ranges.{GoodUnit, GoodPrice}
use Rattle.model.specs.Above.{Mark}
use Rattle.model.specs.Prices.{on_value, best_at}
use Rattle.model.specs.Ramps.{ramp_least}
use Rattle.model.specs.RampCosts.{after, before, dearer, gainful, off_cost, added, ramp_worth, ramp_offset, ramp_walk}
use Rattle.model.proofs.Integers.{up, down}
use Rattle.model.proofs.PeriodSums.{sum_most}
use Rattle.model.proofs.BestOutputs.{best_at_is}
use Rattle.model.proofs.UnitLeasts.{stuck_ramp_least}
use Rattle.model.proofs.WalkSizes.{walk_most, less_fits, switch_cost_fits}
use Rattle.model.proofs.RampWalks.{ramp_least_is, ramp_walk_stuck}

-- ---- the multipliers about a period

pub after_in : (k : ℕ) (x : ℕ → ℕ) → ((t : ℕ) → GoodPrice (x t)) → (t : ℕ) → after k x t ≤ 1_000_000_000
after_in zero x h t = omega arith
after_in (suc k) x h zero = (h 0).1
after_in (suc k) x h (suc t) = after_in k (λ i. x (suc i)) (λ i. h (suc i)) t

pub before_in : (x : ℕ → ℕ) → ((t : ℕ) → GoodPrice (x t)) → (t : ℕ) → before x t ≤ 1_000_000_000
before_in x h zero = omega arith
before_in x h (suc t) = (h t).1

-- ---- a unit in range

module _ (g : Generator) (good : GoodUnit g) where
  -- a period on, whatever its slopes are within these limits
  pub on_fits : (x y p : ℕ) → x ≤ 3_000_000_000 → y ≤ 3_000_000_000 → p ≤ g.pU → on_value g x y p ≤ 40_000_000_000_000
  unfolding on_value
  on_fits x y p hx hy h =
      let u : g.pU ≤ 10000 = good.in_range.pU_in.1 in
      let p_le : p ≤ 10000 = omega arith in
      let cp : g.c * p ≤ 10000 * 10000 = mul-le-mul good.in_range.c_in.1 p_le in
      let l : p ≤ p = omega arith in
      let m : g.pU - p ≤ g.pU - p = omega arith in
      omega (arith, good.in_range.a_in.1, mul-le-mul cp p_le, mul-le-mul hx l, mul-le-mul hy m)

  module _ (k : ℕ) (q s x y : ℕ → ℕ) (hx : (t : ℕ) → GoodPrice (x t)) (hy : (t : ℕ) → GoodPrice (y t)) (t : ℕ) (hq : GoodPrice (q t)) (hs : GoodPrice (s t)) where
    pub dearer_fits : dearer k g x y t ≤ 2_010_000_000
    dearer_fits = omega (arith, good.in_range.b_in.1, before_in x hx t, after_in k y hy t)

    pub gainful_fits : gainful k q x y t ≤ 3_000_000_000
    gainful_fits = omega (arith, hq.1, after_in k x hx t, before_in y hy t)

    -- the two products of a step
    steps_fit : (after k x t * g.UR ≤ 10_000_000_000_000) × (after k y t * g.DR ≤ 10_000_000_000_000)
    steps_fit = (
      omega (arith, mul-le-mul (after_in k x hx t) good.in_range.UR_in.1),
      omega (arith, mul-le-mul (after_in k y hy t) good.in_range.DR_in.1),
    )

    pub off_cost_fits : off_cost k g q s x y t ≤ 40_000_000_000_000
    off_cost_fits =
        let j : q t + s t ≤ 2_000_000_000 = omega (arith, hq.1, hs.1) in
        omega (arith, mul-le-mul j good.in_range.pU_in.1, steps_fit)

    pub added_in_period : added k g q s x y t ≤ 60_000_000_000_000
    added_in_period =
        let j : gainful k q x y t + s t ≤ 4_000_000_000 = omega (arith, gainful_fits, hs.1) in
        omega (arith, mul-le-mul j good.in_range.pU_in.1, steps_fit)

    pub ramp_worth_fits : (d : Bool) → ramp_worth k g q s x y t d ≤ 40_000_000_000_000
    ramp_worth_fits true =
        on_fits (dearer k g x y t) (gainful k q x y t) (best_at g (dearer k g x y t) (gainful k q x y t)) (omega (arith, dearer_fits)) gainful_fits
        (best_at_is g (dearer k g x y t) (gainful k q x y t) good.ordered.limits).high
    ramp_worth_fits false = off_cost_fits

  module _ (n : ℕ) (n_le : n ≤ 48) (q s x y : ℕ → ℕ) (hq : (t : ℕ) → t < n → GoodPrice (q t)) (hs : (t : ℕ) → t < n → GoodPrice (s t))
      (hx : (t : ℕ) → GoodPrice (x t)) (hy : (t : ℕ) → GoodPrice (y t)) where
    pub ramp_walk_fits : (m : ℕ → Mark) → ramp_walk n q s x y g m ≤ 1_920_048_000_000_001
    unfolding ramp_walk
    ramp_walk_fits m =
        omega (
          arith,
          walk_most 1_000_000_000 40_000_000_000_000 g (switch_cost_fits g good) n m (ramp_worth (pred n) g q s x y)
              (λ t l d. ramp_worth_fits (pred n) q s x y hx hy t (hq t l) (hs t l) d) g.on g.since,
        )

    pub ramp_offset_fits : ramp_offset n q s x y g ≤ 2_880_000_000_000_000
    unfolding ramp_offset
    ramp_offset_fits =
        omega (arith, sum_most n 60_000_000_000_000 (added (pred n) g q s x y) (λ t l. added_in_period (pred n) q s x y hx hy t (hq t l) (hs t l)))

    pub ramp_least_fits : (m : ℕ → Mark) → (up (ramp_least n q s x y g m) ≤ 1_920_048_000_000_001) × (down (ramp_least n q s x y g m) ≤ 2_880_000_000_000_000)
    ramp_least_fits m = go (ramp_walk n q s x y g m) refl
      where
        go : (v : ℕ) → ramp_walk n q s x y g m ≡ v → (up (ramp_least n q s x y g m) ≤ 1_920_048_000_000_001) × (down (ramp_least n q s x y g m) ≤ 2_880_000_000_000_000)
        go zero e =
            let z = stuck_ramp_least n q s x y g m (rw (ramp_walk_stuck n q s x y g m, e) tt) in
            omega (arith, ap up z, ap down z)
        go (suc v) e =
            let z = ramp_least_is n q s x y g good m v e in
            let i : (up (pos v -ℤ pos (ramp_offset n q s x y g)) ≤ v) × (down (pos v -ℤ pos (ramp_offset n q s x y g)) ≤ ramp_offset n q s x y g) = less_fits v (ramp_offset n q s x y g) in
            omega (arith, ap up z, ap down z, ramp_walk_fits m, ramp_offset_fits)
