-- Laws of a sum over periods as a loop meets it: one period more at the end, a part of it, and its size.
use mathlib.Core.Path.{◌≡◌, refl}
use Prim.Native.Nat.{ℕ, zero, suc, ◌+◌, ◌*◌, ◌≤◌, ◌<◌}
use native.Mathlib.Omega.{arith}
use Rattle.model.specs.Instance.{sum}

pub sum_eq : (n : ℕ) (f h : ℕ → ℕ) → ((t : ℕ) → t < n → f t ≡ h t) → sum n f ≡ sum n h
sum_eq zero f h k = refl
sum_eq (suc n) f h k = omega (arith, k 0 (omega arith), sum_eq n (λ t. f (suc t)) (λ t. h (suc t)) (λ t l. k (suc t) (omega arith)))

-- one period more, at the end
pub sum_more : (n : ℕ) (f : ℕ → ℕ) → sum (suc n) f ≡ sum n f + f n
sum_more zero f = omega arith
sum_more (suc n) f = omega (arith, sum_more n (λ t. f (suc t)))

-- the first t periods of n
pub sum_part : (t n : ℕ) (f : ℕ → ℕ) → t ≤ n → sum t f ≤ sum n f
sum_part zero n f h = omega arith
sum_part (suc t) zero f h = absurd (omega arith)
sum_part (suc t) (suc n) f h = omega (arith, sum_part t n (λ t. f (suc t)) (omega arith))

pub sum_most : (n M : ℕ) (f : ℕ → ℕ) → ((t : ℕ) → t < n → f t ≤ M) → sum n f ≤ n * M
sum_most zero M f h = omega arith
sum_most (suc n) M f h = omega (arith, h 0 (omega arith), sum_most n M (λ t. f (suc t)) (λ t l. h (suc t) (omega arith)))
