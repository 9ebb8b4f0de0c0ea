-- Laws of the sums over periods and over units.
use mathlib.Core.Path.{◌≡◌, refl, sym, ◌∙◌, ap}
use mathlib.Core.List.{List, [], ◌∷◌}
use Prim.Native.Nat.{ℕ, zero, suc, ◌+◌, ◌≤◌, ◌<◌}
use native.Mathlib.Omega.{arith}
use Rattle.model.specs.declared.generator.Generator.{Generator}
use Rattle.model.specs.Instance.{Schedule, sum, sum_units}

-- ---- over periods

pub sum_add : (n : ℕ) (f h : ℕ → ℕ) → sum n f + sum n h ≡ sum n (λ t. f t + h t)
sum_add zero f h = refl
sum_add (suc n) f h = omega (arith, sum_add n (λ t. f (suc t)) (λ t. h (suc t)))

pub sum_zero : (n : ℕ) → sum n (λ t. 0) ≡ 0
sum_zero zero = refl
sum_zero (suc n) = omega (arith, sum_zero n)

pub sum_le : (n : ℕ) (f h : ℕ → ℕ) → ((t : ℕ) → t < n → f t ≤ h t) → sum n f ≤ sum n h
sum_le zero f h k = omega arith
sum_le (suc n) f h k =
    omega (arith, k 0 (omega arith), sum_le n (λ t. f (suc t)) (λ t. h (suc t)) (λ t l. k (suc t) (omega arith)))

-- ---- over units

-- the two sums change places
pub exchange : (n : ℕ) (f : Generator → List ℕ → ℕ → ℕ) (gs : List Generator) (s : Schedule)
    → sum_units (λ g r. sum n (f g r)) gs s ≡ sum n (λ t. sum_units (λ g r. f g r t) gs s)
exchange n f [] s = sym (sum_zero n)
exchange n f (g ∷ gs) [] = sym (sum_zero n)
exchange n f (g ∷ gs) (r ∷ s) =
    ap (λ (k : ℕ). sum n (f g r) + k) (exchange n f gs s) ∙ sum_add n (f g r) (λ t. sum_units (λ g r. f g r t) gs s)
