-- What a ramp leaf adds to a row's value, in naturals: the left sides of (11) and (12), each with its multiplier, less the right sides.
use mathlib.Core.Path.{◌≡◌, refl, ap}
use mathlib.Core.Bool.{not}
use mathlib.Core.List.{List}
use Prim.Native.Nat.{ℕ, zero, suc, pred, ◌+◌, ◌*◌}
use native.Mathlib.Nat.{mul-add}
use native.Mathlib.Omega.{arith}
use lib.IntN.{ℤ, pos, negsuc, neg_ℤ, ◌-ℤ◌, ◌*ℤ◌}
use Rattle.model.specs.declared.generator.Generator.{Generator}
use Rattle.model.specs.Instance.{◌at◌, sum}
use Rattle.model.specs.Rules.{on, if_on}
use Rattle.model.specs.Cost.{row_cost}
use Rattle.model.specs.Leaf.{revenue, value}
use Rattle.model.specs.Ramps.{over_rise, over_fall, sumℤ, ramp_charge, ramp_value}
use Rattle.model.proofs.Integers.{up, down, +ℤ-nat, -ℤ-nat}

-- ---- products and differences of integers

neg_nat : (n : ℕ) → (up (neg_ℤ (pos n)) ≡ 0) × (down (neg_ℤ (pos n)) ≡ n)
neg_nat zero = (refl, refl)
neg_nat (suc n) = (refl, refl)

pub less_nat : (z : ℤ) (b : ℕ) → up (z -ℤ pos b) + (down z + b) ≡ up z + down (z -ℤ pos b)
less_nat z b = omega (arith, +ℤ-nat z (neg_ℤ (pos b)), neg_nat b)

times_nat : (k : ℕ) (z : ℤ) → up (pos k *ℤ z) + k * down z ≡ k * up z + down (pos k *ℤ z)
times_nat k (pos n) = omega arith
times_nat k (negsuc n) = omega (arith, neg_nat (k * suc n))

-- what k times an integer is, where the integer is a less b
pub scaled_nat : (k : ℕ) (z : ℤ) (a b : ℕ) → up z + b ≡ a + down z → up (pos k *ℤ z) + k * b ≡ k * a + down (pos k *ℤ z)
scaled_nat k z a b e =
    let d : k * (up z + b) ≡ k * (a + down z) = ap (λ (v : ℕ). k * v) e in
    omega (arith, times_nat k z, mul-add k (up z) b, mul-add k a (down z))

pub sumℤ_nat : (n : ℕ) (f : ℕ → ℤ) (a b : ℕ → ℕ) → ((t : ℕ) → up (f t) + b t ≡ a t + down (f t)) → up (sumℤ n f) + sum n b ≡ sum n a + down (sumℤ n f)
sumℤ_nat zero f a b h = refl
sumℤ_nat (suc n) f a b h =
    omega (arith, +ℤ-nat (f 0) (sumℤ n (λ t. f (suc t))), h 0, sumℤ_nat n (λ t. f (suc t)) (λ t. a (suc t)) (λ t. b (suc t)) (λ t. h (suc t)))

-- ---- one step

-- (12): what the output may be at most, after the output p
abbrev pub rise_limit : Generator → ℕ → ℕ
rise_limit g p = p + if_on (on p) g.UR + if_on (not (on p)) g.pU

-- (11): what the output p may be at most, before the output p'
abbrev pub fall_limit : Generator → ℕ → ℕ → ℕ
fall_limit g p p' = p' + if_on (on p) g.DR + if_on (not (on p')) g.pU

pub over_rise_nat : (g : Generator) (p p' : ℕ) → up (over_rise g p p') + rise_limit g p ≡ p' + down (over_rise g p p')
over_rise_nat g p p' = -ℤ-nat p' (rise_limit g p)

pub over_fall_nat : (g : Generator) (p p' : ℕ) → up (over_fall g p p') + fall_limit g p p' ≡ p + down (over_fall g p p')
over_fall_nat g p p' =
    let a = if_on (on p) g.DR in
    let b = if_on (not (on p')) g.pU in
    omega (arith, -ℤ-nat p a, less_nat (pos p -ℤ pos a) b, less_nat (pos p -ℤ pos a -ℤ pos b) p')

-- ---- one row

-- the left sides, and the right sides
unfoldable pub ramp_left : ℕ → (ℕ → ℕ) → (ℕ → ℕ) → List ℕ → ℕ
ramp_left n x y r = sum (pred n) (λ t. x t * r at suc t + y t * r at t)

unfoldable pub ramp_right : ℕ → (ℕ → ℕ) → (ℕ → ℕ) → Generator → List ℕ → ℕ
ramp_right n x y g r = sum (pred n) (λ t. x t * rise_limit g (r at t) + y t * fall_limit g (r at t) (r at suc t))

module _ (n : ℕ) (x y : ℕ → ℕ) (g : Generator) (r : List ℕ) where
  pub ramp_charge_nat : up (ramp_charge n x y g r) + ramp_right n x y g r ≡ ramp_left n x y r + down (ramp_charge n x y g r)
  unfolding ramp_charge ramp_left ramp_right
  ramp_charge_nat =
      sumℤ_nat (pred n) _ (λ t. x t * r at suc t + y t * r at t) (λ t. x t * rise_limit g (r at t) + y t * fall_limit g (r at t) (r at suc t)) (λ t.
      let u = over_rise g (r at t) (r at suc t) in
      let v = over_fall g (r at t) (r at suc t) in
      omega (
        arith,
        +ℤ-nat (pos (x t) *ℤ u) (pos (y t) *ℤ v),
        scaled_nat (x t) u (r at suc t) (rise_limit g (r at t)) (over_rise_nat g (r at t) (r at suc t)),
        scaled_nat (y t) v (r at t) (fall_limit g (r at t) (r at suc t)) (over_fall_nat g (r at t) (r at suc t)),
      ))

  -- cost and left sides, less revenue and right sides
  pub ramp_value_nat : (q s : ℕ → ℕ)
      → up (ramp_value n q s x y g r) + (revenue n q s g r + ramp_right n x y g r) ≡ row_cost n g r + ramp_left n x y r + down (ramp_value n q s x y g r)
  unfolding ramp_value value
  ramp_value_nat q s =
      omega (arith, +ℤ-nat (value n q s g r) (ramp_charge n x y g r), -ℤ-nat (row_cost n g r) (revenue n q s g r), ramp_charge_nat)
