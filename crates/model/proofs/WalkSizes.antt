-- No sum overflows (document 01, Texts, after the ranges), for one unit of a price leaf: a period of a walk adds at most
-- 20,001,000,000,000, so that 48 periods stay below 10^15.
use mathlib.Core.Path.{◌≡◌, refl, ap}
use mathlib.Core.Bool.{Bool, true, false, cond, ◌&&◌}
use Prim.Native.Nat.{ℕ, zero, suc, ◌+◌, ◌*◌, ◌-◌, ◌≤◌, ◌<◌}
use native.Mathlib.Nat.{mul-le-mul}
use native.Mathlib.Omega.{arith}
use lib.Dec.{leb}
use lib.IntN.{ℤ, pos, negsuc, ◌-ℤ◌}
use Rattle.model.specs.declared.generator.Generator.{Generator}
use Rattle.model.specs.Ranges.{GoodUnit, GoodPrice}
use Rattle.model.specs.Rules.{permits, spent}
use Rattle.model.specs.Cost.{switch_cost}
use Rattle.model.specs.Above.{Mark, allows}
use Rattle.model.specs.Leaf.{unit_least}
use Rattle.model.specs.Walk.{plus, Values, move, back, walk}
use Rattle.model.specs.Prices.{on_value, priced, best_output, worth, price_walk, offset}
use Rattle.model.proofs.Integers.{up, down, -ℤ-nat}
use Rattle.model.proofs.PeriodSums.{sum_most}
use Rattle.model.proofs.Coded.{plus_most, lesser_most}
use Rattle.model.proofs.WalkRuns.{later}
use Rattle.model.proofs.BestOutputs.{best_at_is}
use Rattle.model.proofs.PriceWalks.{unit_least_is, price_walk_stuck}
use Rattle.model.proofs.UnitLeasts.{stuck_least}

-- ---- any walk: C for a start or stop, W for a period

pub back_most : (C W M : ℕ) (g : Generator) → ((b : Bool) (k : ℕ) (d : Bool) → switch_cost g b k d ≤ C) → (m : Mark) (w : Bool → ℕ)
    → ((d : Bool) → w d ≤ W) → (X : Values) → ((b : Bool) (k : ℕ) → X b k ≤ M) → (b : Bool) (k : ℕ) → back g m w X b k ≤ C + W + M
unfolding back
back_most C W M g h m w l X x b k = lesser_most (M' false) (M' true) (C + W + M) (one false) (one true)
  where
    M' : Bool → ℕ
    M' d = move g m (w d) b k d (X d (spent b k d))

    one : (d : Bool) → M' d ≤ C + W + M
    one d = go (permits g b k d && allows m d)
      where
        go : (c : Bool) → cond c (plus (switch_cost g b k d + w d) (X d (spent b k d))) 0 ≤ C + W + M
        go true = omega (arith, plus_most (switch_cost g b k d + w d) (X d (spent b k d)) M (x d (spent b k d)), h b k d, l d)
        go false = omega arith

pub walk_most : (C W : ℕ) (g : Generator) → ((b : Bool) (k : ℕ) (d : Bool) → switch_cost g b k d ≤ C) → (n : ℕ) (m : ℕ → Mark) (w : ℕ → Bool → ℕ)
    → ((t : ℕ) → t < n → (d : Bool) → w t d ≤ W) → (b : Bool) (k : ℕ) → walk n g m w b k ≤ suc (n * (C + W))
unfolding walk
walk_most C W g h zero m w l b k = omega arith
walk_most C W g h (suc n) m w l b k =
    omega (
      arith,
      back_most C W (suc (n * (C + W))) g h (m 0) (w 0) (l 0 (omega arith)) (walk n g (later m) (later w))
          (walk_most C W g h n (later m) (later w) (λ t i. l (suc t) (omega arith))) b k,
    )

-- a less b is at most a, and at least - b
pub less_fits : (a b : ℕ) → (up (pos a -ℤ pos b) ≤ a) × (down (pos a -ℤ pos b) ≤ b)
less_fits a b = go (pos a -ℤ pos b) (-ℤ-nat a b)
  where
    go : (z : ℤ) → up z + b ≡ a + down z → (up z ≤ a) × (down z ≤ b)
    go (pos x) e = omega arith
    go (negsuc x) e = omega arith

-- ---- a unit in range

module _ (g : Generator) (good : GoodUnit g) where
  pub switch_cost_fits : (b : Bool) (k : ℕ) (d : Bool) → switch_cost g b k d ≤ 1_000_000_000
  switch_cost_fits true k true = omega arith
  switch_cost_fits true k false = good.in_range.Dc_in.1
  switch_cost_fits false k true = go (leb k (g.TD + g.Tcold))
    where
      go : (c : Bool) → cond c g.Hsc g.Csc ≤ 1_000_000_000
      go true = good.in_range.Hsc_in.1
      go false = good.in_range.Csc_in.1
  switch_cost_fits false k false = omega arith

  -- the products of a period on, at an output up to pU
  pub record Products (q p : ℕ) : Type 0 where
    pub linear : g.b * p ≤ 100_000_000_000
    pub curve : g.c * p ≤ 100_000_000
    pub square : g.c * p * p ≤ 1_000_000_000_000
    pub price : q * (g.pU - p) ≤ 10_000_000_000_000

  pub products_fit : (q p : ℕ) → GoodPrice q → p ≤ g.pU → Products q p
  products_fit q p hq h =
      let u : g.pU ≤ 10000 = good.in_range.pU_in.1 in
      let p_le : p ≤ 10000 = omega arith in
      let d_le : g.pU - p ≤ 10000 = omega arith in
      let cp : g.c * p ≤ 10000 * 10000 = mul-le-mul good.in_range.c_in.1 p_le in
      record {
        linear = omega (arith, mul-le-mul good.in_range.b_in.1 p_le);
        curve = omega arith;
        square = omega (arith, mul-le-mul cp p_le);
        price = omega (arith, mul-le-mul hq.1 d_le);
      }

  pub priced_fits : (q p : ℕ) → GoodPrice q → p ≤ g.pU → priced g q p ≤ 11_101_000_000_000
  unfolding on_value
  priced_fits q p hq h = omega (arith, products_fit q p hq h, good.in_range.a_in.1)

  pub added_fits : (q s : ℕ) → GoodPrice q → GoodPrice s → (q + s) * g.pU ≤ 20_000_000_000_000
  added_fits q s hq hs =
      let j : q + s ≤ 2_000_000_000 = omega arith in
      omega (arith, mul-le-mul j good.in_range.pU_in.1)

  pub best_output_fits : (q : ℕ) → (g.pL ≤ best_output g q) × (best_output g q ≤ g.pU)
  best_output_fits q = let B = best_at_is g g.b q good.ordered.limits in (B.low, B.high)

  pub worth_fits : (q s : ℕ) → GoodPrice q → GoodPrice s → (d : Bool) → worth g q s d ≤ 20_000_000_000_000
  worth_fits q s hq hs true = omega (arith, priced_fits q (best_output g q) hq (best_output_fits q).1)
  worth_fits q s hq hs false = added_fits q s hq hs

  -- one period of the walk in prices
  pub back_fits : (q s : ℕ) → GoodPrice q → GoodPrice s → (m : Mark) (X : Values) (M : ℕ) → ((b : Bool) (k : ℕ) → X b k ≤ M)
      → (b : Bool) (k : ℕ) → back g m (worth g q s) X b k ≤ 20_001_000_000_000 + M
  back_fits q s hq hs m X M x b k =
      omega (arith, back_most 1_000_000_000 20_000_000_000_000 M g switch_cost_fits m (worth g q s) (worth_fits q s hq hs) X x b k)

  module _ (n : ℕ) (n_le : n ≤ 48) (q s : ℕ → ℕ) (hq : (t : ℕ) → t < n → GoodPrice (q t)) (hs : (t : ℕ) → t < n → GoodPrice (s t)) where
    -- every state's value
    pub walk_fits : (m : ℕ → Mark) (b : Bool) (k : ℕ) → walk n g m (λ t. worth g (q t) (s t)) b k ≤ 1_000_000_000_000_000
    walk_fits m b k =
        omega (
          arith,
          walk_most 1_000_000_000 20_000_000_000_000 g switch_cost_fits n m (λ t. worth g (q t) (s t))
              (λ t l d. worth_fits (q t) (s t) (hq t l) (hs t l) d) b k,
        )

    pub price_walk_fits : (m : ℕ → Mark) → price_walk n q s g m ≤ 1_000_000_000_000_000
    unfolding price_walk
    price_walk_fits m = walk_fits m g.on g.since

    pub offset_fits : offset n q s g ≤ 960_000_000_000_000
    unfolding offset
    offset_fits =
        omega (arith, sum_most n 20_000_000_000_000 (λ t. (q t + s t) * g.pU) (λ t l. added_fits (q t) (s t) (hq t l) (hs t l)))

    pub unit_least_fits : (m : ℕ → Mark) → (up (unit_least n q s g m) ≤ 1_000_000_000_000_000) × (down (unit_least n q s g m) ≤ 960_000_000_000_000)
    unit_least_fits m = go (price_walk n q s g m) refl
      where
        go : (v : ℕ) → price_walk n q s g m ≡ v → (up (unit_least n q s g m) ≤ 1_000_000_000_000_000) × (down (unit_least n q s g m) ≤ 960_000_000_000_000)
        go zero e =
            let z = stuck_least n q s g m (rw (price_walk_stuck n q s g m, e) tt) in
            omega (arith, ap up z, ap down z)
        go (suc v) e =
            let z = unit_least_is n q s g good m v e in
            let i : (up (pos v -ℤ pos (offset n q s g)) ≤ v) × (down (pos v -ℤ pos (offset n q s g)) ≤ offset n q s g) = less_fits v (offset n q s g) in
            omega (arith, ap up z, ap down z, price_walk_fits m, offset_fits)
