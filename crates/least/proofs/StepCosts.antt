-- The costs by period where rises and falls have prices too: what the code reads of the two lists of steps is what the definitions take (the model's RampCosts), and
-- all of it fits.
use mathlib.Core.Path.{◌≡◌, refl}
use mathlib.Core.Bool.{Bool}
use mathlib.Core.List.{List}
use Prim.Native.Nat.{ℕ, zero, suc, pred, ◌+◌, ◌*◌, ◌≤◌, ◌<◌}
use native.Mathlib.Numerals.{add-one}
use native.Mathlib.Omega.{arith}
use Rattle.model.specs.declared.generator.Generator.{Generator}
use Rattle.model.specs.Instance.{◌at◌, sum}
use Rattle.model.specs.Ranges.{GoodUnit, GoodPrice}
use Rattle.model.specs.Above.{Mark}
use Rattle.model.specs.Walk.{walk}
use Rattle.model.specs.Prices.{on_value, best_at}
use Rattle.model.specs.RampCosts.{after, before, dearer, gainful, off_cost, added, ramp_worth, ramp_walk, ramp_offset}
use Rattle.model.proofs.PeriodSums.{sum_part}
use Rattle.model.proofs.LeafSizes.{all_at}
use Rattle.model.proofs.RampSizes.{ramp_worth_fits, ramp_walk_fits, ramp_offset_fits}
use Rattle.least.specs.Limits.{GoodPrices, GoodSteps}
use Rattle.least.proofs.Costs.{price_in, reserve_in}

-- ---- a list of steps

-- of k steps the one that begins with period k is none
after_at : (k : ℕ) (x : ℕ → ℕ) → x k ≡ 0 → (t : ℕ) → t ≤ k → x t ≡ after k x t
after_at zero x e zero h = e
after_at zero x e (suc t) h = absurd (omega arith)
after_at (suc k) x e zero h = refl
after_at (suc k) x e (suc t) h = after_at k (λ i. x (suc i)) e t (omega arith)

-- the steps of a list, by the period that they begin with
abbrev pub steps : List ℕ → ℕ → ℕ
steps l t = l at suc t

module _ (n : ℕ) (l : List ℕ) (S : GoodSteps n l) where
  pub step_in : (t : ℕ) → GoodPrice (l at t)
  step_in t = all_at 1000000000 l S.in_range t

  -- the step that ends with period t
  pub before_is : (t : ℕ) → l at t ≡ before (steps l) t
  before_is zero = S.first
  before_is (suc t) = refl

-- the one that begins with it
pub after_is : (n : ℕ) (l : List ℕ) → GoodSteps n l → (t : ℕ) → t < n → l at (t + 1) ≡ after (pred n) (steps l) t
after_is zero l S t h = absurd (omega arith)
after_is (suc n) l S t h = rw (add-one t) (after_at n (steps l) S.last t (omega arith))

-- ---- one period

module _ (n : ℕ) (q s up down : List ℕ) (P : GoodPrices n q s) (U : GoodSteps n up) (D : GoodSteps n down) where
  abbrev Q : ℕ → ℕ
  Q t = q at t

  abbrev S : ℕ → ℕ
  S t = s at t

  module _ (g : Generator) where
    pub on_is : (t : ℕ) → t < n → (v : ℕ)
        → v ≡ on_value g (g.b + (up at t + down at (t + 1))) (q at t + up at (t + 1) + down at t) (best_at g (g.b + (up at t + down at (t + 1))) (q at t + up at (t + 1) + down at t))
        → v ≡ on_value g (dearer (pred n) g (steps up) (steps down) t) (gainful (pred n) Q (steps up) (steps down) t)
        (best_at g (dearer (pred n) g (steps up) (steps down) t) (gainful (pred n) Q (steps up) (steps down) t))
    on_is t h v e = rw (← before_is n up U t, ← before_is n down D t, ← after_is n up U t h, ← after_is n down D t h) e

    pub off_is : (t : ℕ) → t < n
        → (q at t + s at t) * g.pU + up at (t + 1) * g.UR + down at (t + 1) * g.DR ≡ off_cost (pred n) g Q S (steps up) (steps down) t
    off_is t h = rw (after_is n up U t h, after_is n down D t h)

    pub added_is : (t : ℕ) → t < n
        → (q at t + up at (t + 1) + down at t + s at t) * g.pU + up at (t + 1) * g.UR + down at (t + 1) * g.DR ≡ added (pred n) g Q S (steps up) (steps down) t
    added_is t h = rw (before_is n down D t, after_is n up U t h, after_is n down D t h)

    -- ---- sizes

    module _ (good : GoodUnit g) where
      pub ramp_cost_fits : (t : ℕ) → t < n → (d : Bool) → ramp_worth (pred n) g Q S (steps up) (steps down) t d ≤ 1_000_000_000_000_000
      ramp_cost_fits t h d =
          omega (
            arith,
            ramp_worth_fits g good (pred n) Q S (steps up) (steps down) (λ i. step_in n up U (suc i)) (λ i. step_in n down D (suc i)) t (price_in n q s P t) (reserve_in n q s P t) d,
          )

      pub ramp_value_fits : (m : ℕ → Mark) → ramp_walk n Q S (steps up) (steps down) g m ≤ 1_920_048_000_000_001
      ramp_value_fits m =
          ramp_walk_fits g good n P.periods_in.1 Q S (steps up) (steps down) (λ t l. price_in n q s P t) (λ t l. reserve_in n q s P t)
          (λ i. step_in n up U (suc i)) (λ i. step_in n down D (suc i)) m

      pub sum_ramp_offset_fits : ramp_offset n Q S (steps up) (steps down) g ≤ 2_880_000_000_000_000
      sum_ramp_offset_fits =
          ramp_offset_fits g good n P.periods_in.1 Q S (steps up) (steps down) (λ t l. price_in n q s P t) (λ t l. reserve_in n q s P t)
          (λ i. step_in n up U (suc i)) (λ i. step_in n down D (suc i))

      pub part_ramp_offset_fits : (t : ℕ) → t ≤ n → sum t (added (pred n) g Q S (steps up) (steps down)) ≤ 2_880_000_000_000_000
      unfolding ramp_offset
      part_ramp_offset_fits t l = omega (arith, sum_part t n (added (pred n) g Q S (steps up) (steps down)) l, sum_ramp_offset_fits)

-- ---- the walk

pub ramp_walk_is : (n : ℕ) (q s x y : ℕ → ℕ) (g : Generator) (m : ℕ → Mark)
    → walk n g m (ramp_worth (pred n) g q s x y) g.on g.since ≡ ramp_walk n q s x y g m
unfolding ramp_walk
ramp_walk_is n q s x y g m = refl
