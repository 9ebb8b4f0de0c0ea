-- Document 02, [6]: a ramp leaf's value separates by period, so that the walk of a price leaf, with other costs, finds each unit's true least. With
-- up_1 = down_1 = up_{T+1} = down_{T+1} = 0: each unit of output in t costs b + up_t + down_{t+1}, each unit short of pU q_t + up_{t+1} + down_t.
use mathlib.Core.Path.{◌≡◌, refl, sym, ◌∙◌, ap, ap₂}
use mathlib.Core.Bool.{not, cond}
use mathlib.Core.List.{List}
use mathlib.Core.Option.{none, some}
use Prim.Native.Nat.{ℕ, zero, suc, pred, ◌+◌, ◌*◌, ◌-◌, ◌<◌}
use native.Mathlib.Nat.{mul-add, sub-add_cancel}
use native.Mathlib.Omega.{arith}
use lib.Dec.{eqb, eqb-suc-zero}
use lib.IntN.{pos, ◌-ℤ◌}
use Rattle.model.specs.declared.generator.Generator.{Generator}
use Rattle.model.specs.Instance.{◌at◌, sum}
use Rattle.model.specs.Ranges.{GoodUnit}
use Rattle.model.specs.Rules.{on, if_on, Within}
use Rattle.model.specs.Cost.{fuel_cost, row_cost}
use Rattle.model.specs.Above.{Mark}
use Rattle.model.specs.Leaf.{is_stuck, revenue}
use Rattle.model.specs.Prices.{on_value, best_at, decoded}
use Rattle.model.specs.Ramps.{ramp_value, ramp_least}
use Rattle.model.specs.RampCosts.{after, before, dearer, gainful, off_cost, added, ramp_worth, ramp_offset, ramp_walk}
use Rattle.model.proofs.Sums.{sum_add}
use Rattle.model.proofs.PeriodSums.{sum_eq}
use Rattle.model.proofs.WalkRows.{row_total}
use Rattle.model.proofs.WalkRuns.{later}
use Rattle.model.proofs.Stuck.{is_stuck_is}
use Rattle.model.proofs.LeastWalks.{least_walk}
use Rattle.model.proofs.PriceWalks.{sloped, sloped_cheapest}
use Rattle.model.proofs.RampSums.{rise_limit, fall_limit, ramp_left, ramp_right, ramp_value_nat}

-- ---- sums over steps, as sums over periods

ends : (k : ℕ) (x y : ℕ → ℕ) (F G : ℕ → ℕ) → sum k (λ t. x t * F t + y t * G t) ≡ sum (suc k) (λ t. after k x t * F t + after k y t * G t)
ends zero x y F G = omega arith
ends (suc k) x y F G = omega (arith, ends k (later x) (later y) (later F) (later G))

end : (k : ℕ) (y : ℕ → ℕ) (G : ℕ → ℕ) → sum k (λ t. y t * G t) ≡ sum (suc k) (λ t. after k y t * G t)
end zero y G = omega arith
end (suc k) y G = omega (arith, end k (later y) (later G))

begins : (k : ℕ) (y : ℕ → ℕ) (H : ℕ → ℕ) → sum k (λ t. y t * H (suc t)) ≡ sum (suc k) (λ t. before y t * H t)
begins k y H = omega arith

balance : (n : ℕ) (a b c d e f g h : ℕ → ℕ) → ((t : ℕ) → t < n → a t + b t + c t + d t ≡ e t + f t + g t + h t)
    → sum n a + sum n b + sum n c + sum n d ≡ sum n e + sum n f + sum n g + sum n h
balance zero a b c d e f g h k = refl
balance (suc n) a b c d e f g h k =
    omega (arith, k 0 (omega arith), balance n (later a) (later b) (later c) (later d) (later e) (later f) (later g) (later h) (λ t l. k (suc t) (omega arith)))

-- ---- one period: U and D of the step that it begins, U' and D' of the one that it ends

separate : (g : Generator) (U U' D D' q s p : ℕ) → Within g p
    → sloped g (g.b + (U' + D)) (q + U + D') ((q + s) * g.pU + U * g.UR + D * g.DR) p
    + if_on (on p) (q * p + s * g.pU)
    + (U * rise_limit g p + D * if_on (on p) g.DR)
    + D' * (p + if_on (not (on p)) g.pU)
    ≡ fuel_cost g p + D * p + U' * p + ((q + U + D' + s) * g.pU + U * g.UR + D * g.DR)
unfolding on_value
separate g U U' D D' q s zero w = omega arith
separate g U U' D D' q s (suc p) w =
    let e : (q + U + D') * (g.pU - suc p) + (q + U + D') * suc p ≡ (q + U + D') * g.pU =
    sym (mul-add (q + U + D') (g.pU - suc p) (suc p)) ∙ ap (λ (x : ℕ). (q + U + D') * x) (sub-add_cancel (w tt).1) in
    omega arith

-- ---- one row

-- what an output costs in period t
abbrev pub ramp_sloped : ℕ → Generator → (ℕ → ℕ) → (ℕ → ℕ) → (ℕ → ℕ) → (ℕ → ℕ) → ℕ → ℕ → ℕ
ramp_sloped k g q s x y t = sloped g (dearer k g x y t) (gainful k q x y t) (off_cost k g q s x y t)

-- a row's cost and left sides, and what was added, are its periods' costs for the walk, revenue and right sides
pub ramp_row : (n : ℕ) (g : Generator) (q s x y : ℕ → ℕ) (r : List ℕ) → ((t : ℕ) → t < n → Within g (r at t))
    → row_total n g (ramp_sloped (pred n) g q s x y) g.on g.since r + (revenue n q s g r + ramp_right n x y g r)
    ≡ row_cost n g r + ramp_left n x y r + ramp_offset n q s x y g
unfolding row_cost revenue ramp_left ramp_right ramp_offset
ramp_row zero g q s x y r w = omega arith
ramp_row (suc k) g q s x y r w =
    omega (
      arith,
      right,
      left,
      balance (suc k)
          (λ t. ramp_sloped k g q s x y t (r at t))
          (λ t. if_on (on (r at t)) (q t * r at t + s t * g.pU))
          (λ t. after k x t * rise_limit g (r at t) + after k y t * if_on (on (r at t)) g.DR)
          (λ t. before y t * (r at t + if_on (not (on (r at t))) g.pU))
          (λ t. fuel_cost g (r at t))
          (λ t. after k y t * r at t)
          (λ t. before x t * r at t)
          (added k g q s x y)
          (λ t l. separate g (after k x t) (before x t) (after k y t) (before y t) (q t) (s t) (r at t) (w t l)),
    )
  where
    right : sum k (λ t. x t * rise_limit g (r at t) + y t * fall_limit g (r at t) (r at suc t))
        ≡ sum (suc k) (λ t. after k x t * rise_limit g (r at t) + after k y t * if_on (on (r at t)) g.DR)
        + sum (suc k) (λ t. before y t * (r at t + if_on (not (on (r at t))) g.pU))
    right =
        sum_eq k _ (λ t. (x t * rise_limit g (r at t) + y t * if_on (on (r at t)) g.DR) + y t * (r at suc t + if_on (not (on (r at suc t))) g.pU)) (λ t l. omega arith)
        ∙ sym (sum_add k (λ t. x t * rise_limit g (r at t) + y t * if_on (on (r at t)) g.DR) (λ t. y t * (r at suc t + if_on (not (on (r at suc t))) g.pU)))
        ∙ ap₂ ◌+◌ (ends k x y (λ t. rise_limit g (r at t)) (λ t. if_on (on (r at t)) g.DR)) (begins k y (λ t. r at t + if_on (not (on (r at t))) g.pU))

    left : sum k (λ t. x t * r at suc t + y t * r at t) ≡ sum (suc k) (λ t. after k y t * r at t) + sum (suc k) (λ t. before x t * r at t)
    left = omega (arith, sum_add k (λ t. x t * r at suc t) (λ t. y t * r at t), begins k x (λ t. r at t), end k y (λ t. r at t))

-- ---- one unit

module _ (n : ℕ) (q s x y : ℕ → ℕ) (g : Generator) where
  -- the least value is the walk's less what was added
  pub ramp_least_is : GoodUnit g → (m : ℕ → Mark) (v : ℕ) → ramp_walk n q s x y g m ≡ suc v → ramp_least n q s x y g m ≡ pos v -ℤ pos (ramp_offset n q s x y g)
  unfolding ramp_least ramp_walk
  ramp_least_is good m v e =
      least_walk n g good.in_range.pL_in.0 m (ramp_sloped (pred n) g q s x y) (ramp_worth (pred n) g q s x y)
      (λ t. best_at g (dearer (pred n) g x y t) (gainful (pred n) q x y t))
      (λ t. sloped_cheapest g good.in_range.pL_in.0 good.ordered.limits (dearer (pred n) g x y t) (gainful (pred n) q x y t) (off_cost (pred n) g q s x y t))
      (ramp_value n q s x y g) (ramp_offset n q s x y g)
      (λ r C. omega (arith, ramp_value_nat n x y g r q s, ramp_row n g q s x y r C.limits))
      v e

  -- it is stuck just where its walk finds nothing, as at prices
  pub ramp_walk_stuck : (m : ℕ → Mark) → is_stuck n g m ≡ eqb (ramp_walk n q s x y g m) 0
  unfolding ramp_walk
  ramp_walk_stuck m = is_stuck_is n g m (ramp_worth (pred n) g q s x y)

  -- both at once
  pub ramp_decoded : GoodUnit g → (m : ℕ → Mark)
      → cond (is_stuck n g m) none (some (ramp_least n q s x y g m)) ≡ decoded (ramp_walk n q s x y g m) (ramp_offset n q s x y g)
  ramp_decoded good m = rw (ramp_walk_stuck m) (go (ramp_walk n q s x y g m) refl)
    where
      go : (v : ℕ) → ramp_walk n q s x y g m ≡ v → cond (eqb v 0) none (some (ramp_least n q s x y g m)) ≡ decoded v (ramp_offset n q s x y g)
      go zero e = refl
      go (suc v) e = rw (eqb-suc-zero v) (ap some (ramp_least_is good m v e))
