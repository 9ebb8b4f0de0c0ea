-- The costs by period at given prices: they fit, and the walk over them is the walk in prices.
use mathlib.Core.Path.{◌≡◌, refl, sym}
use mathlib.Core.Bool.{Bool, true, false}
use mathlib.Core.List.{List, [], ◌∷◌, ◌++◌}
use Prim.Native.Nat.{ℕ, suc, ◌+◌, ◌*◌, ◌≤◌, ◌<◌}
use native.Mathlib.Omega.{arith}
use lib.ListN.{length, take, length-append}
use lib.Seq.{take_at}
use Rattle.model.specs.declared.generator.Generator.{Generator}
use Rattle.model.specs.Instance.{◌at◌, sum}
use Rattle.model.specs.Ranges.{Between, All, GoodUnit, GoodPrice}
use Rattle.model.specs.Above.{Mark}
use Rattle.model.specs.Walk.{walk}
use Rattle.model.specs.Prices.{worth, price_walk, offset}
use Rattle.model.proofs.PeriodSums.{sum_part}
use Rattle.model.proofs.LeafSizes.{all_at}
use Rattle.model.proofs.WalkSizes.{worth_fits, price_walk_fits, offset_fits}
use Rattle.model.proofs.WalkPeriods.{walk_ext}
use Rattle.walk.specs.Limits.{GoodCosts}
use Rattle.walk.specs.GoingBack.{costs_of}
use Rattle.least.specs.Limits.{GoodPrices}
use Rattle.least.specs.Priced.{Priced, Costed}

-- a list whose every entry is in range
pub all_of : (M : ℕ) (l : List ℕ) → ((t : ℕ) → t < length l → l at t ≤ M) → All (λ v. Between 0 v M) l
all_of M [] h = tt
all_of M (v ∷ l) h = ((omega arith, h 0 (omega arith)), all_of M l (λ t i. h (suc t) (omega arith)))

-- ---- arrays that begin with the costs

module _ {n : ℕ} {w : ℕ → Bool → ℕ} {on off : List ℕ} (K : Costed n w on off) (rest : List ℕ) where
  on_front : take n (on ++ rest) ≡ on
  on_front = take_at on rest n K.on_long

  off_front : take n (off ++ rest) ≡ off
  off_front = take_at off rest n K.off_long

  pub on_front_fits : n ≤ length (on ++ rest)
  on_front_fits = omega (arith, length-append on rest, K.on_long)

  pub off_front_fits : n ≤ length (off ++ rest)
  off_front_fits = omega (arith, length-append off rest, K.off_long)

  pub on_front_long : n ≡ length (take n (on ++ rest))
  on_front_long = rw on_front (sym K.on_long)

  pub off_front_long : n ≡ length (take n (off ++ rest))
  off_front_long = rw off_front (sym K.off_long)

  module _ (periods_in : Between 1 n 48) (fits : (t : ℕ) → t < n → (d : Bool) → w t d ≤ 1_000_000_000_000_000) where
    costed_good : GoodCosts n on off
    costed_good =
        record {
          periods_in = periods_in;
          on_long = K.on_long;
          off_long = K.off_long;
          on_in = all_of 1_000_000_000_000_000 on (λ t l. let h : t < n = omega (arith, K.on_long) in omega (arith, K.on_at t h, fits t h true));
          off_in = all_of 1_000_000_000_000_000 off (λ t l. let h : t < n = omega (arith, K.off_long) in omega (arith, K.off_at t h, fits t h false));
        }

    pub front_good : GoodCosts (length (take n (on ++ rest))) (take n (on ++ rest)) (take n (off ++ rest))
    front_good = rw (on_front, off_front, K.on_long) costed_good

  pub front_walk : (g : Generator) (m : ℕ → Mark)
      → walk (length (take n (on ++ rest))) g m (costs_of (take n (on ++ rest)) (take n (off ++ rest))) g.on g.since ≡ walk n g m w g.on g.since
  front_walk g m = rw (on_front, off_front, K.on_long) (walk_ext n g m m (costs_of on off) w (λ t l. refl) same g.on g.since)
    where
      same : (t : ℕ) → t < n → (d : Bool) → costs_of on off t d ≡ w t d
      same t l true = K.on_at t l
      same t l false = K.off_at t l

-- ---- at prices: sizes

module _ (n : ℕ) (q s : List ℕ) (P : GoodPrices n q s) where
  pub price_in : (t : ℕ) → GoodPrice (q at t)
  price_in t = all_at 1000000000 q P.q_in t

  pub reserve_in : (t : ℕ) → GoodPrice (s at t)
  reserve_in t = all_at 1000000000 s P.s_in t

  module _ (g : Generator) (good : GoodUnit g) where
    -- the walk and what was added to it
    pub price_value_fits : (m : ℕ → Mark) → price_walk n (λ t. q at t) (λ t. s at t) g m ≤ 1_000_000_000_000_000
    price_value_fits m = price_walk_fits g good n P.periods_in.1 (λ t. q at t) (λ t. s at t) (λ t l. price_in t) (λ t l. reserve_in t) m

    pub sum_offset_fits : offset n (λ t. q at t) (λ t. s at t) g ≤ 960_000_000_000_000
    sum_offset_fits = offset_fits g good n P.periods_in.1 (λ t. q at t) (λ t. s at t) (λ t l. price_in t) (λ t l. reserve_in t)

    pub part_offset_fits : (t : ℕ) → t ≤ n → sum t (λ i. (q at i + s at i) * g.pU) ≤ 960_000_000_000_000
    unfolding offset
    part_offset_fits t l = omega (arith, sum_part t n (λ i. (q at i + s at i) * g.pU) l, sum_offset_fits)

    pub period_worth_fits : (t : ℕ) → t < n → (d : Bool) → worth g (q at t) (s at t) d ≤ 1_000_000_000_000_000
    period_worth_fits t l d = omega (arith, worth_fits g good (q at t) (s at t) (price_in t) (reserve_in t) d)

-- ---- at prices: the walk

pub priced_costed : {g : Generator} {q s on off : List ℕ} → Priced g q s on off → Costed (length q) (λ t. worth g (q at t) (s at t)) on off
priced_costed K = record { on_long = K.on_long; off_long = K.off_long; on_at = K.on_at; off_at = K.off_at }

pub price_walk_is : (n : ℕ) (q s : ℕ → ℕ) (g : Generator) (m : ℕ → Mark) → walk n g m (λ t. worth g (q t) (s t)) g.on g.since ≡ price_walk n q s g m
unfolding price_walk
price_walk_is n q s g m = refl
