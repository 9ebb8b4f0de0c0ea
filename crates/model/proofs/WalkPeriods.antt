-- The walk by the period's own number, as a loop from the last period to the first has it; and a walk sees no period past the
-- last.
use mathlib.Core.Path.{◌≡◌, refl, ap, ap₂, fun_ext}
use mathlib.Core.Bool.{Bool, true, false}
use Prim.Native.Nat.{ℕ, zero, suc, ◌+◌, ◌-◌, ◌<◌}
use native.Mathlib.Nat.{zero-add, add-zero}
use native.Mathlib.Omega.{arith}
use Rattle.model.specs.declared.generator.Generator.{Generator}
use Rattle.model.specs.Rules.{spent}
use Rattle.model.specs.Above.{Mark}
use Rattle.model.specs.Walk.{back, walk, Settled}
use Rattle.model.specs.Prices.{worth, price_walk}
use Rattle.model.specs.Table.{values}
use Rattle.model.proofs.WalkRuns.{later}
use Rattle.model.proofs.Caps.{walk_settled}

-- ---- periods past the last

pub walk_ext : (n : ℕ) (g : Generator) (m m' : ℕ → Mark) (w w' : ℕ → Bool → ℕ) → ((t : ℕ) → t < n → m t ≡ m' t) → ((t : ℕ) → t < n → (d : Bool) → w t d ≡ w' t d)
    → (b : Bool) (k : ℕ) → walk n g m w b k ≡ walk n g m' w' b k
unfolding walk back
walk_ext zero g m m' w w' h i b k = refl
walk_ext (suc n) g m m' w w' h i b k =
    rw (
      h 0 (omega arith),
      i 0 (omega arith) false,
      i 0 (omega arith) true,
      walk_ext n g (later m) (later m') (later w) (later w') (λ t l. h (suc t) (omega arith)) (λ t l. i (suc t) (omega arith)) false (spent b k false),
      walk_ext n g (later m) (later m') (later w) (later w') (λ t l. h (suc t) (omega arith)) (λ t l. i (suc t) (omega arith)) true (spent b k true),
    )

pub price_walk_ext : (n : ℕ) (q q' s s' : ℕ → ℕ) (g : Generator) (m m' : ℕ → Mark) → ((t : ℕ) → t < n → q t ≡ q' t) → ((t : ℕ) → t < n → s t ≡ s' t)
    → ((t : ℕ) → t < n → m t ≡ m' t) → price_walk n q s g m ≡ price_walk n q' s' g m'
unfolding price_walk
price_walk_ext n q q' s s' g m m' hq hs hm =
    walk_ext n g m m' (λ t. worth g (q t) (s t)) (λ t. worth g (q' t) (s' t)) hm (λ t l d. ap₂ (λ (x y : ℕ). worth g x y d) (hq t l) (hs t l)) g.on g.since

-- ---- by the period's number

-- from the period t on
abbrev pub from : {A : Type 0} → ℕ → (ℕ → A) → ℕ → A
from t f i = f (t + i)

pub from_later : {A : Type 0} (t : ℕ) (f : ℕ → A) → later (from t f) ≡ from (suc t) f
from_later t f = fun_ext (λ i. ap f (next i))
  where
    next : (i : ℕ) → t + suc i ≡ suc t + i
    next i = omega arith

pub from_zero : {A : Type 0} (f : ℕ → A) → from 0 f ≡ f
from_zero f = fun_ext (λ i. ap f (zero-add i))

pub walk_from : (n t : ℕ) (g : Generator) (m : ℕ → Mark) (w : ℕ → Bool → ℕ) (b : Bool) (k : ℕ)
    → walk (suc n) g (from t m) (from t w) b k ≡ back g (m t) (w t) (walk n g (from (suc t) m) (from (suc t) w)) b k
unfolding walk
walk_from n t g m w b k = rw (from_later t m, from_later t w, add-zero t)

pub walk_from_zero : (n : ℕ) (g : Generator) (m : ℕ → Mark) (w : ℕ → Bool → ℕ) (b : Bool) (k : ℕ) → walk n g (from 0 m) (from 0 w) b k ≡ walk n g m w b k
walk_from_zero n g m w b k = rw (from_zero m, from_zero w)

module _ (n : ℕ) (g : Generator) (m : ℕ → Mark) (w : ℕ → Bool → ℕ) where
  -- after the last period there is nothing to pay
  pub values_end : (b : Bool) (k : ℕ) → values n g m w n b k ≡ 1
  unfolding values walk
  values_end b k = let e : n - n ≡ 0 = omega arith in rw e

  -- one period back
  pub values_back : (t : ℕ) → t < n → (b : Bool) (k : ℕ) → values n g m w t b k ≡ back g (m t) (w t) (values n g m w (suc t)) b k
  unfolding values
  values_back t l b k =
      let e : n - t ≡ suc (n - suc t) = omega arith in
      rw e (walk_from (n - suc t) t g m w b k)

  -- before the first it is the walk
  pub values_start : (b : Bool) (k : ℕ) → values n g m w 0 b k ≡ walk n g m w b k
  unfolding values
  values_start b k = let e : n - 0 ≡ n = omega arith in rw e (walk_from_zero n g m w b k)

  pub values_settled : (t : ℕ) → Settled g (values n g m w t)
  unfolding values
  values_settled t = walk_settled (n - t) g (from t m) (from t w)
