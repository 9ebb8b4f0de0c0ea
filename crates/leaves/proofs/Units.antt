-- The sum over the units, unit by unit: what the first u units have, and one unit more.
use mathlib.Core.Path.{◌≡◌, refl, sym, ◌∙◌, ap}
use mathlib.Core.Bool.{Bool, true, false, cond, ◌||◌}
use mathlib.Core.List.{List, [], ◌∷◌}
use Prim.Native.Nat.{ℕ, zero, suc, ◌+◌, ◌≤◌, ◌<◌}
use native.Mathlib.Numerals.{add-one}
use native.Mathlib.Omega.{arith}
use lib.ListN.{length, get_or, take, length-take}
use lib.Seq.{take-length}
use lib.IntN.{ℤ, ◌+ℤ◌, +ℤ_idl, +ℤ_idr, +ℤ_assoc}
use Rattle.model.specs.declared.generator.Generator.{Generator}
use Rattle.model.specs.Instance.{◌at◌}
use Rattle.model.specs.Ranges.{All, GoodUnit}
use Rattle.model.specs.Above.{Mark, Marks, rest}
use Rattle.model.specs.Leaf.{is_stuck, any_stuck, unit_least, units_least}
use Rattle.model.proofs.WalkSizes.{unit_least_fits}
use Rattle.model.proofs.LeafSizes.{units_least_fits}
use Rattle.std.specs.Prelude.{None, Some}
use Rattle.least.specs.UnitLeasts.{least_of}
use Rattle.least.specs.Limits.{GoodPrices}
use Rattle.least.proofs.Costs.{price_in, reserve_in}
use Rattle.leaves.specs.LeafLeasts.{leasts_of}
use Rattle.leaves.specs.Limits.{Small}
use Rattle.leaves.proofs.SmallSums.{small_of}

-- ---- what an answer says

pub said_stuck : (b : Bool) (z : ℤ) → None ≡ cond b None (Some z) → b ≡ true
said_stuck true z e = refl
said_stuck false z e = absurd (let i : ◌≡◌ {A = ℕ} 0 1 = cc in omega arith)

pub said_value : (b : Bool) (z v : ℤ) → Some v ≡ cond b None (Some z) → (b ≡ false) × (v ≡ z)
said_value true z v e = absurd (let i : ◌≡◌ {A = ℕ} 0 1 = cc in omega arith)
said_value false z v e = (refl, cc)

-- ---- the first units

pub all_front : (R : Generator → Type 0) (u : ℕ) (l : List Generator) → All R l → All R (take u l)
all_front R zero l a = tt
all_front R (suc u) [] a = tt
all_front R (suc u) (g ∷ l) a = (a.0, all_front R u l a.1)

module _ (n : ℕ) where
  -- one of them is stuck
  pub any_stuck_at : (u : ℕ) (l : List Generator) (d : Generator) (m : Marks) → u < length l → is_stuck n (get_or l u d) (m u) ≡ true → any_stuck n l m ≡ true
  any_stuck_at u [] d m h e = absurd (omega arith)
  any_stuck_at zero (g ∷ l) d m h e = rw e
  any_stuck_at (suc u) (g ∷ l) d m h e = go (is_stuck n g (m 0)) (any_stuck_at u l d (rest m) (omega arith) e)
    where
      go : (b : Bool) → any_stuck n l (rest m) ≡ true → (b || any_stuck n l (rest m)) ≡ true
      go true j = refl
      go false j = j

  -- one unit more
  pub any_stuck_next : (u : ℕ) (l : List Generator) (d : Generator) (m : Marks) → u < length l
      → any_stuck n (take (suc u) l) m ≡ (any_stuck n (take u l) m || is_stuck n (get_or l u d) (m u))
  any_stuck_next u [] d m h = absurd (omega arith)
  any_stuck_next zero (g ∷ l) d m h = go (is_stuck n g (m 0))
    where
      go : (b : Bool) → (b || false) ≡ b
      go true = refl
      go false = refl
  any_stuck_next (suc u) (g ∷ l) d m h = go (is_stuck n g (m 0)) (any_stuck_next u l d (rest m) (omega arith))
    where
      go : (b : Bool) → any_stuck n (take (suc u) l) (rest m) ≡ (any_stuck n (take u l) (rest m) || is_stuck n (get_or l u d) (m (suc u)))
          → (b || any_stuck n (take (suc u) l) (rest m)) ≡ ((b || any_stuck n (take u l) (rest m)) || is_stuck n (get_or l u d) (m (suc u)))
      go true e = refl
      go false e = e

  pub units_least_more : (q s : ℕ → ℕ) (u : ℕ) (l : List Generator) (d : Generator) (m : Marks) → u < length l
      → units_least n q s (take (suc u) l) m ≡ units_least n q s (take u l) m +ℤ unit_least n q s (get_or l u d) (m u)
  unfolding units_least
  units_least_more q s u [] d m h = absurd (omega arith)
  units_least_more q s zero (g ∷ l) d m h = +ℤ_idr (unit_least n q s g (m 0)) ∙ sym (+ℤ_idl (unit_least n q s g (m 0)))
  units_least_more q s (suc u) (g ∷ l) d m h =
      ap (λ (z : ℤ). unit_least n q s g (m 0) +ℤ z) (units_least_more q s u l d (rest m) (omega arith))
      ∙ sym (+ℤ_assoc (unit_least n q s g (m 0)) (units_least n q s (take u l) (rest m)) (unit_least n q s (get_or l u d) (m (suc u))))

-- ---- the loop over the units

module _ (n : ℕ) (q s : ℕ → ℕ) (u : ℕ) (l : List Generator) (d : Generator) (m : Marks) (inside : u < length l) where
  -- the next unit is stuck
  pub stuck_found : None ≡ least_of n q s (get_or l u d) (m u) → None ≡ leasts_of n q s l m
  stuck_found e =
      rw (any_stuck_at n u l d m inside (said_stuck (is_stuck n (get_or l u d) (m u)) (unit_least n q s (get_or l u d) (m u)) e))

  -- it has a least value
  pub value_found : (v : ℤ) → Some v ≡ least_of n q s (get_or l u d) (m u) → any_stuck n (take u l) m ≡ false
      → (any_stuck n (take (u + 1) l) m ≡ false) × (units_least n q s (take u l) m +ℤ v ≡ units_least n q s (take (u + 1) l) m)
  value_found v e h =
      let r = said_value (is_stuck n (get_or l u d) (m u)) (unit_least n q s (get_or l u d) (m u)) v e in
      rw (add-one u) (
        rw (any_stuck_next n u l d m inside, h, r.0) refl,
        ap (λ (z : ℤ). units_least n q s (take u l) m +ℤ z) r.1 ∙ sym (units_least_more n q s u l d m inside),
      )

-- no unit is stuck
pub none_found : (n : ℕ) (q s : ℕ → ℕ) (u : ℕ) (l : List Generator) (m : Marks) (z : ℤ) → u ≡ length l → any_stuck n (take u l) m ≡ false → z ≡ units_least n q s (take u l) m
    → Some z ≡ leasts_of n q s l m
none_found n q s u l m z e h j =
    let all : take u l ≡ l = rw e (take-length l) in
    rw (rw all at h, rw all at j)

-- ---- sizes

module _ (n : ℕ) (q s : List ℕ) (P : GoodPrices n q s) where
  -- what a unit answered
  pub value_small : (g : Generator) → GoodUnit g → (m : ℕ → Mark) (v : ℤ) → Some v ≡ least_of n (λ t. q at t) (λ t. s at t) g m → Small v
  value_small g good m v e =
      let z = unit_least n (λ t. q at t) (λ t. s at t) g m in
      let f = unit_least_fits g good n P.periods_in.1 (λ t. q at t) (λ t. s at t) (λ t l. price_in n q s P t) (λ t l. reserve_in n q s P t) m in
      rw (said_value (is_stuck n g m) z v e).1 (small_of z (omega (arith, f)) (omega (arith, f)))

  pub units_small : (gs : List Generator) → All GoodUnit gs → length gs ≤ 32 → (m : Marks) → Small (units_least n (λ t. q at t) (λ t. s at t) gs m)
  units_small gs good h m =
      let f = units_least_fits n P.periods_in.1 (λ t. q at t) (λ t. s at t) (λ t l. price_in n q s P t) (λ t l. reserve_in n q s P t) gs good m in
      small_of (units_least n (λ t. q at t) (λ t. s at t) gs m) (omega (arith, f)) (omega (arith, f))

  -- of the first u units
  pub front_small : (u : ℕ) (l : List Generator) → All GoodUnit l → length l ≤ 32 → (m : Marks)
      → Small (units_least n (λ t. q at t) (λ t. s at t) (take u l) m)
  front_small u l good h m = units_small (take u l) (all_front GoodUnit u l good) (omega (arith, length-take u l)) m
