-- A list with one number for each period: it is known by what it has in each.
use mathlib.Core.Path.{◌≡◌, refl, sym, ap, ◌∙◌}
use mathlib.Core.List.{List, map}
use Prim.Native.Nat.{ℕ, zero, suc, ◌+◌, ◌<◌}
use native.Mathlib.Omega.{arith}
use lib.ListN.{length, length-map}
use lib.Seq.{ext_get_or}
use Rattle.model.specs.Instance.{◌at◌}
use Rattle.model.specs.Leaf.{range}

pub range_long : (k n : ℕ) → length (range k n) ≡ n
range_long k zero = refl
range_long k (suc n) = ap suc (range_long (suc k) n)

pub map_range_at : (f : ℕ → ℕ) (k n t : ℕ) → t < n → map f (range k n) at t ≡ f (k + t)
map_range_at f k zero t h = absurd (omega arith)
map_range_at f k (suc n) zero h = let e : k ≡ k + 0 = omega arith in ap f e
map_range_at f k (suc n) (suc t) h = let e : suc k + t ≡ k + suc t = omega arith in map_range_at f (suc k) n t (omega arith) ∙ ap f e

module _ (f : ℕ → ℕ) (n : ℕ) where
  pub periods_long : length (map f (range 0 n)) ≡ n
  periods_long = length-map (range 0 n) f ∙ range_long 0 n

  pub periods_at : (t : ℕ) → t < n → map f (range 0 n) at t ≡ f t
  periods_at t h = let e : 0 + t ≡ t = omega arith in map_range_at f 0 n t h ∙ ap f e

  -- a list that has f's number in each period
  pub filled : (l : List ℕ) → length l ≡ n → ((t : ℕ) → t < n → l at t ≡ f t) → l ≡ map f (range 0 n)
  filled l e h = ext_get_or 0 l (map f (range 0 n)) (e ∙ sym periods_long) (λ t k. let j : t < n = omega arith in h t j ∙ sym (periods_at t j))

-- what is the same in each period
pub periods_same : (f h : ℕ → ℕ) (n : ℕ) → ((t : ℕ) → t < n → f t ≡ h t) → map f (range 0 n) ≡ map h (range 0 n)
periods_same f h n e = filled h n (map f (range 0 n)) (periods_long f n) (λ t k. periods_at f n t k ∙ e t k)
