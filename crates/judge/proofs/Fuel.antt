-- What a row's outputs cost is a for each period on, b times their sum and c times the sum of their squares, and fits.
use mathlib.Core.Path.{◌≡◌}
use mathlib.Core.List.{List}
use Prim.Native.Nat.{ℕ, zero, suc, ◌+◌, ◌*◌, ◌≤◌, ◌<◌}
use native.Mathlib.Nat.{mul-le-mul}
use native.Mathlib.Omega.{arith}
use lib.ListN.{length}
use Rattle.model.specs.declared.generator.Generator.{Generator}
use Rattle.model.specs.Instance.{◌at◌, sum}
use Rattle.model.specs.Ranges.{InRange, All, GoodOutput}
use Rattle.model.specs.Rules.{on}
use Rattle.model.specs.Cost.{fuel_cost}
use Rattle.model.proofs.PeriodSums.{sum_most}
use Rattle.judge.specs.Counts.{bit}
use Rattle.judge.proofs.Rows.{all_at}
use Rattle.judge.proofs.Counts.{bit_most}

-- ---- the three sums over a row

module _ (r : List ℕ) where
  abbrev pub ons : ℕ → ℕ
  ons t = bit (on (r at t))

  abbrev pub outputs : ℕ → ℕ
  outputs t = r at t

  abbrev pub squares : ℕ → ℕ
  squares t = r at t * r at t

module _ (g : Generator) where
  fuel_is : (p : ℕ) → fuel_cost g p ≡ g.a * bit (on p) + g.b * p + g.c * (p * p)
  fuel_is zero = omega arith
  fuel_is (suc p) = omega arith

  summed : (n : ℕ) (f : ℕ → ℕ)
      → g.a * sum n (λ t. bit (on (f t))) + g.b * sum n f + g.c * sum n (λ t. f t * f t) ≡ sum n (λ t. fuel_cost g (f t))
  summed zero f = omega arith
  summed (suc n) f = omega (arith, fuel_is (f 0), summed n (λ t. f (suc t)))

  pub fuel_sum : (r : List ℕ) (n : ℕ)
      → g.a * sum n (ons r) + g.b * sum n (outputs r) + g.c * sum n (squares r) ≡ sum n (λ t. fuel_cost g (r at t))
  fuel_sum r n = summed n (outputs r)

-- ---- how large they grow

pub square_most : (p : ℕ) → p ≤ 10000 → p * p ≤ 100000000
square_most p h = mul-le-mul {n₂ = 10000} {m₂ = 10000} h h

pub ons_most : (r : List ℕ) (t : ℕ) → sum t (ons r) ≤ t
ons_most r t = omega (arith, sum_most t 1 (ons r) (λ i h. bit_most (on (r at i))))

module _ (r : List ℕ) (good : All GoodOutput r) (t : ℕ) (h : t ≤ length r) where
  small : (i : ℕ) → i < t → r at i ≤ 10000
  small i k = (all_at GoodOutput r 0 good i (omega arith)).1

  pub outputs_most : sum t (outputs r) ≤ t * 10000
  outputs_most = sum_most t 10000 (outputs r) small

  pub squares_most : sum t (squares r) ≤ t * 100000000
  squares_most = sum_most t 100000000 (squares r) (λ i k. square_most (r at i) (small i k))

module _ (g : Generator) (R : InRange g) where
  pub a_most : (n : ℕ) → n ≤ 48 → g.a * n ≤ 48000000000
  a_most n h = mul-le-mul {n₂ = 1000000000} {m₂ = 48} R.a_in.1 h

  pub b_most : (n : ℕ) → n ≤ 480000 → g.b * n ≤ 4800000000000
  b_most n h = mul-le-mul {n₂ = 10000000} {m₂ = 480000} R.b_in.1 h

  pub c_most : (n : ℕ) → n ≤ 4800000000 → g.c * n ≤ 48000000000000
  c_most n h = mul-le-mul {n₂ = 10000} {m₂ = 4800000000} R.c_in.1 h
