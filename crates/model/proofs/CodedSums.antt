-- Laws of the sum of two coded values, which is there where both are, and of the least of several, which is there where one is. By the cases of the code.
use mathlib.Core.Path.{◌≡◌, ◌∙◌, ap}
use mathlib.Core.Logic.{◌⊎◌, inl, inr}
use Prim.Native.Nat.{ℕ, zero, suc, ◌+◌, ◌-◌, ◌≤◌, ◌<◌}
use native.Mathlib.Nat.{eq-or-lt_of_le}
use native.Mathlib.Omega.{arith}
use Rattle.model.specs.ForcedWalk.{both, least_upto}
use Rattle.model.proofs.Coded.{lesser_left, lesser_right, lesser_one}

-- ---- the sum

pub both_some : (x y : ℕ) → 0 < x → 0 < y → both x y ≡ x + y - 1
unfolding both
both_some zero y h k = absurd (omega arith)
both_some (suc x) zero h k = absurd (omega arith)
both_some (suc x) (suc y) h k = omega arith

pub both_inv : (x y : ℕ) → 0 < both x y → (0 < x) × (0 < y)
unfolding both
both_inv zero y h = absurd (omega arith)
both_inv (suc x) zero h = absurd (omega arith)
both_inv (suc x) (suc y) h = (omega arith, omega arith)

-- ---- the least

-- it is there if one of them is, and then no more than that one
pub upto_below : (n : ℕ) (f : ℕ → ℕ) (k : ℕ) → k < n → 0 < f k → (0 < least_upto n f) × (least_upto n f ≤ f k)
unfolding least_upto
upto_below zero f k l h = absurd (omega arith)
upto_below (suc n) f k l h = go (λ i. upto_below n f k i h) (eq-or-lt_of_le l)
  where
    go : (k < n → (0 < least_upto n f) × (least_upto n f ≤ f k)) → (suc k ≡ suc n) ⊎ (suc k < suc n)
        → (0 < least_upto (suc n) f) × (least_upto (suc n) f ≤ f k)
    go ih (inl e) =
        let same : k ≡ n = omega arith in
        let i : f k ≡ f n = ap f same in
        omega (arith, lesser_right (least_upto n f) (f n) (omega (arith, i)), i)
    go ih (inr i) =
        let r = ih (omega arith) in
        omega (arith, lesser_left (least_upto n f) (f n) r.0, r)

-- and it is one of them
pub upto_attained : (n : ℕ) (f : ℕ → ℕ) → 0 < least_upto n f → (k : ℕ) × (k < n) × (least_upto n f ≡ f k)
unfolding least_upto
upto_attained zero f h = absurd (omega arith)
upto_attained (suc n) f h = go (λ i. upto_attained n f i) (lesser_one (least_upto n f) (f n))
  where
    go : (0 < least_upto n f → (k : ℕ) × (k < n) × (least_upto n f ≡ f k)) → (least_upto (suc n) f ≡ least_upto n f) ⊎ (least_upto (suc n) f ≡ f n)
        → (k : ℕ) × (k < suc n) × (least_upto (suc n) f ≡ f k)
    go ih (inl e) =
        let i = ih (rw e at h) in
        (i.0, omega (arith, i.1), e ∙ i.2)
    go ih (inr e) = (n, omega arith, e)
