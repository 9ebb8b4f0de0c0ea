-- A price leaf's value from its units' walks (document 01, Rules for a leaf). With (q + s)·pU added in every period a row's
-- value is what the row costs for the walk, so the least over all rows is the walk's value less all that was added.
use mathlib.Core.Path.{◌≡◌, refl, sym, ◌∙◌, ap, ap₂}
use mathlib.Core.Bool.{Bool, true, false, not, cond, ◌||◌}
use mathlib.Core.Option.{none, some}
use mathlib.Core.List.{List, [], ◌∷◌}
use Prim.Native.Nat.{ℕ, zero, suc, ◌+◌, ◌*◌, ◌-◌, ◌≤◌, ◌<◌}
use native.Mathlib.Nat.{mul-add, sub-add_cancel}
use native.Mathlib.Omega.{arith}
use lib.Dec.{T, eqb, eqb-suc-zero}
use lib.IntN.{ℤ, pos, ◌+ℤ◌, ◌-ℤ◌}
use Rattle.model.specs.declared.generator.Generator.{Generator}
use Rattle.model.specs.Instance.{Instance, ◌at◌}
use Rattle.model.specs.Ranges.{All, GoodUnit}
use Rattle.model.specs.Rules.{on, if_on, Within}
use Rattle.model.specs.Cost.{fuel_cost, row_cost}
use Rattle.model.specs.Above.{Mark, Marks, rest}
use Rattle.model.specs.Leaf.{is_stuck, any_stuck, revenue, value, unit_least, units_least, requirement, leaf_value}
use Rattle.model.specs.Prices.{on_value, best_at, BestAt, period_worth, best_output, worth, price_walk, offset, decoded, price_stuck, price_walks, offsets}
use Rattle.model.proofs.Integers.{up, down, +ℤ-nat, -ℤ-nat, nat→eq}
use Rattle.model.proofs.Sums.{sum_add}
use Rattle.model.proofs.PeriodSums.{sum_eq}
use Rattle.model.proofs.WalkRows.{row_total, Cheapest}
use Rattle.model.proofs.Stuck.{is_stuck_is}
use Rattle.model.proofs.LeastWalks.{least_walk}
use Rattle.model.proofs.BestOutputs.{best_at_is}

-- ---- one period

-- what an output costs: 0, off, costs z
abbrev pub sloped : Generator → ℕ → ℕ → ℕ → ℕ → ℕ
sloped g x y z p = cond (on p) (on_value g x y p) z

-- whatever the slopes, the least of a period is at the best output
pub sloped_cheapest : (g : Generator) → 0 < g.pL → g.pL ≤ g.pU → (x y z : ℕ) → Cheapest g (sloped g x y z) (period_worth g x y z) (best_at g x y)
sloped_cheapest g positive ordered x y z = record {
  off = refl;
  on = sym (sloped_on (best_at g x y) B.low);
  low = B.low;
  high = B.high;
  least = λ p l h. rw (sloped_on (best_at g x y) B.low, sloped_on p l) (B.least p l h);
}
  where
    B : BestAt g x y (best_at g x y)
    B = best_at_is g x y ordered

    sloped_on : (p : ℕ) → g.pL ≤ p → sloped g x y z p ≡ on_value g x y p
    sloped_on zero l = absurd (omega arith)
    sloped_on (suc p) l = refl

-- in prices, with (q + s)·pU added
abbrev pub shifted : Generator → ℕ → ℕ → ℕ → ℕ
shifted g q s = sloped g g.b q ((q + s) * g.pU)

pub shifted_cheapest : (g : Generator) → GoodUnit g → (q s : ℕ) → Cheapest g (shifted g q s) (worth g q s) (best_output g q)
shifted_cheapest g good q s = sloped_cheapest g good.in_range.pL_in.0 good.ordered.limits g.b q ((q + s) * g.pU)

-- cost and what was added, against revenue
pub shifted_is : (g : Generator) (q s p : ℕ) → Within g p → shifted g q s p + if_on (on p) (q * p + s * g.pU) ≡ fuel_cost g p + (q + s) * g.pU
unfolding on_value
shifted_is g q s zero w = omega arith
shifted_is g q s (suc p) w =
    let e : q * (g.pU - suc p) + q * suc p ≡ q * g.pU = sym (mul-add q (g.pU - suc p) (suc p)) ∙ ap (λ (x : ℕ). q * x) (sub-add_cancel (w tt).1) in
    omega arith

-- ---- one row

module _ (n : ℕ) (q s : ℕ → ℕ) (g : Generator) where
  pub row_shifted : (r : List ℕ) → ((t : ℕ) → t < n → Within g (r at t))
      → row_total n g (λ t. shifted g (q t) (s t)) g.on g.since r + revenue n q s g r ≡ row_cost n g r + offset n q s g
  unfolding row_cost revenue offset
  row_shifted r w =
      omega (
        arith,
        sum_add n (λ t. shifted g (q t) (s t) (r at t)) (λ t. if_on (on (r at t)) (q t * r at t + s t * g.pU)),
        sum_add n (λ t. fuel_cost g (r at t)) (λ t. (q t + s t) * g.pU),
        sum_eq n (λ t. shifted g (q t) (s t) (r at t) + if_on (on (r at t)) (q t * r at t + s t * g.pU)) (λ t. fuel_cost g (r at t) + (q t + s t) * g.pU)
            (λ t l. shifted_is g (q t) (s t) (r at t) (w t l)),
      )

  -- ---- one unit

  module _ (good : GoodUnit g) (m : ℕ → Mark) where
    -- a unit's least value is its walk's less what was added
    pub unit_least_is : (v : ℕ) → price_walk n q s g m ≡ suc v → unit_least n q s g m ≡ pos v -ℤ pos (offset n q s g)
    unfolding unit_least value price_walk
    unit_least_is v e =
        least_walk n g good.in_range.pL_in.0 m (λ t. shifted g (q t) (s t)) (λ t. worth g (q t) (s t)) (λ t. best_output g (q t))
        (λ t. shifted_cheapest g good (q t) (s t))
        (value n q s g) (offset n q s g)
        (λ r C. omega (arith, -ℤ-nat (row_cost n g r) (revenue n q s g r), row_shifted r C.limits))
        v e

  -- it is stuck just where its walk finds nothing
  pub price_walk_stuck : (m : ℕ → Mark) → is_stuck n g m ≡ eqb (price_walk n q s g m) 0
  unfolding price_walk
  price_walk_stuck m = is_stuck_is n g m (λ t. worth g (q t) (s t))

  -- both at once: stuck, or the least value, is the walk decoded
  pub unit_decoded : GoodUnit g → (m : ℕ → Mark) → cond (is_stuck n g m) none (some (unit_least n q s g m)) ≡ decoded (price_walk n q s g m) (offset n q s g)
  unit_decoded good m = rw (price_walk_stuck m) (go (price_walk n q s g m) refl)
    where
      go : (v : ℕ) → price_walk n q s g m ≡ v → cond (eqb v 0) none (some (unit_least n q s g m)) ≡ decoded v (offset n q s g)
      go zero e = refl
      go (suc v) e = rw (eqb-suc-zero v) (ap some (unit_least_is good m v e))

-- ---- all units

module _ (n : ℕ) (q s : ℕ → ℕ) where
  pub any_stuck_is : (gs : List Generator) (m : Marks) → any_stuck n gs m ≡ price_stuck n q s gs m
  unfolding price_stuck
  any_stuck_is [] m = refl
  any_stuck_is (g ∷ gs) m = ap₂ ◌||◌ (price_walk_stuck n q s g (m 0)) (any_stuck_is gs (rest m))

  pub units_least_nat : (gs : List Generator) → All GoodUnit gs → (m : Marks) → T (not (any_stuck n gs m))
      → up (units_least n q s gs m) + offsets n q s gs ≡ price_walks n q s gs m + down (units_least n q s gs m)
  unfolding units_least price_walks offsets
  units_least_nat [] h m t = refl
  units_least_nat (g ∷ gs) h m t =
      go (is_stuck n g (m 0)) (price_walk n q s g (m 0)) (price_walk_stuck n q s g (m 0)) refl t (λ t. units_least_nat gs h.1 (rest m) t)
    where
      x : ℤ
      x = unit_least n q s g (m 0)

      y : ℤ
      y = units_least n q s gs (rest m)

      go : (b : Bool) (v : ℕ) → b ≡ eqb v 0 → price_walk n q s g (m 0) ≡ v → T (not (b || any_stuck n gs (rest m)))
          → (T (not (any_stuck n gs (rest m))) → up y + offsets n q s gs ≡ price_walks n q s gs (rest m) + down y)
          → up (x +ℤ y) + (offset n q s g + offsets n q s gs) ≡ price_walk n q s g (m 0) - 1 + price_walks n q s gs (rest m) + down (x +ℤ y)
      go true v e k t ih = absurd t
      go false zero e k t ih = absurd (let z : ◌≡◌ {A = ℕ} 0 1 = cc in omega arith)
      go false (suc v) e k t ih =
          let i : x ≡ pos v -ℤ pos (offset n q s g) = unit_least_is n q s g h.0 (m 0) v k in
          omega (arith, ih t, ap up i, ap down i, -ℤ-nat v (offset n q s g), +ℤ-nat x y)

  pub units_least_is : (gs : List Generator) → All GoodUnit gs → (m : Marks) → T (not (any_stuck n gs m))
      → units_least n q s gs m ≡ pos (price_walks n q s gs m) -ℤ pos (offsets n q s gs)
  units_least_is gs h m t =
      nat→eq (units_least n q s gs m) (pos (price_walks n q s gs m) -ℤ pos (offsets n q s gs))
      (omega (arith, units_least_nat gs h m t, -ℤ-nat (price_walks n q s gs m) (offsets n q s gs)))

-- ---- a leaf

-- all walks and the requirement, less all that was added
pub leaf_is : (P : Instance) → All GoodUnit P.units → (m : Marks) (q s : ℕ → ℕ) → T (not (any_stuck P.periods P.units m))
    → leaf_value P m q s ≡ pos (price_walks P.periods q s P.units m + requirement P q s) -ℤ pos (offsets P.periods q s P.units)
unfolding leaf_value
leaf_is P h m q s t =
    nat→eq (leaf_value P m q s) (pos (price_walks P.periods q s P.units m + requirement P q s) -ℤ pos (offsets P.periods q s P.units))
    (omega (
      arith,
      units_least_nat P.periods q s P.units h m t,
      +ℤ-nat (units_least P.periods q s P.units m) (pos (requirement P q s)),
      -ℤ-nat (price_walks P.periods q s P.units m + requirement P q s) (offsets P.periods q s P.units),
    ))
