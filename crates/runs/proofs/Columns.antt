-- Rows one after the other: what stands in a period, how large it is, and that it is the output of the schedule whose rows they are.
use mathlib.Core.Path.{◌≡◌, refl, ap, ap₂, ◌∙◌}
use mathlib.Core.List.{List, [], ◌∷◌, ◌++◌, flatten}
use Prim.Native.Nat.{ℕ, suc, ◌+◌, ◌*◌, ◌-◌, ◌≤◌, ◌<◌}
use native.Mathlib.Numerals.{add-one}
use native.Mathlib.Nat.{mul-le-mul_right}
use native.Mathlib.Omega.{arith}
use lib.ListN.{length, get_or-append}
use lib.Seq.{get_or-append-add}
use Rattle.model.specs.declared.generator.Generator.{Generator}
use Rattle.model.specs.Instance.{Instance, Schedule, ◌at◌, sum_units}
use Rattle.model.specs.Ranges.{All, GoodOutput, Shaped}
use Rattle.model.specs.Rules.{output}
use Rattle.model.specs.Runs.{shortfall, shortfalls}
use Rattle.model.proofs.PeriodSums.{sum_eq, sum_more, sum_most}
use Rattle.model.proofs.LeafSizes.{all_at}
use Rattle.judge.specs.Loads.{output_in}
use Rattle.runs.specs.Columns.{short_of}
use Rattle.runs.proofs.PeriodLists.{periods_same}

-- ---- as the code sums

-- unit u's output in period t stands in the list
pub stands : (k n t : ℕ) (l : List ℕ) → length l ≡ k * n → t < n → (u : ℕ) → u < k → u * n + t < length l
stands k n t l e h u i = omega (arith, mul-le-mul_right n i)

module _ (n : ℕ) (l : List ℕ) (good : All GoodOutput l) (t : ℕ) where
  pub place_most : (u : ℕ) → l at (u * n + t) ≤ 10000
  place_most u = (all_at 10000 l good (u * n + t)).1

  pub column_most : (k : ℕ) → output_in k n l t ≤ k * 10000
  column_most k = sum_most k 10000 (λ u. l at (u * n + t)) (λ u h. place_most u)

-- one row more
pub column_next : (k n : ℕ) (l : List ℕ) (t : ℕ) → output_in (k + 1) n l t ≡ output_in k n l t + l at (k * n + t)
column_next k n l t = rw (add-one k) (sum_more k (λ u. l at (u * n + t)))

-- how far the rows fall short of D in a period
abbrev pub short_at : Instance → List ℕ → ℕ → ℕ
short_at P l t = P.demand at t - output_in (length P.units) P.periods l t

-- ---- the rows of a schedule

module _ (n t : ℕ) (inside : t < n) where
  -- the first row, and those behind it
  first_here : (r : List ℕ) (s : Schedule) → length r ≡ n → (r ++ flatten s) at (0 * n + t) ≡ r at t
  first_here r s e = let z : 0 * n + t ≡ t = omega arith in rw z (get_or-append r (flatten s) 0 t (omega arith))

  next_there : (r : List ℕ) (s : Schedule) → length r ≡ n → (u : ℕ) → (r ++ flatten s) at (suc u * n + t) ≡ flatten s at (u * n + t)
  next_there r s e u = let z : suc u * n + t ≡ length r + (u * n + t) = omega arith in rw z (get_or-append-add r (flatten s) (u * n + t) 0)

  columns_are : (gs : List Generator) (s : Schedule) → length s ≡ length gs → All (λ r. length r ≡ n) s → output_in (length gs) n (flatten s) t ≡ sum_units (λ g r. r at t) gs s
  unfolding flatten
  columns_are [] s e a = refl
  columns_are (g ∷ gs) [] e a = absurd (omega arith)
  columns_are (g ∷ gs) (r ∷ s) e a =
      ap₂ ◌+◌ (first_here r s a.0)
      (sum_eq (length gs) (λ u. (r ++ flatten s) at (suc u * n + t)) (λ u. flatten s at (u * n + t)) (λ u h. next_there r s a.0 u) ∙ columns_are gs s (omega arith) a.1)

pub column_is : (P : Instance) (s : Schedule) → Shaped P s → (t : ℕ) → t < P.periods → output_in (length P.units) P.periods (flatten s) t ≡ output P s t
unfolding output
column_is P s shape t h = columns_are P.periods t h P.units s shape.0 shape.1

pub short_is : (P : Instance) (s : Schedule) → Shaped P s → short_of P (flatten s) ≡ shortfalls P s
unfolding shortfall
short_is P s shape = periods_same (short_at P (flatten s)) (shortfall P s) P.periods (λ t h. ap (λ (v : ℕ). P.demand at t - v) (column_is P s shape t h))
