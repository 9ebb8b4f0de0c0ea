-- A sum over units with their rows is the sum over the units' numbers, one more at each turn.
use mathlib.Core.Path.{◌≡◌, refl, sym, ap, ap₂, ◌∙◌}
use mathlib.Core.Bool.{Bool, true, false}
use mathlib.Core.List.{List, [], ◌∷◌}
use Prim.Native.Nat.{ℕ, ◌+◌, ◌*◌, ◌≤◌, ◌<◌}
use native.Mathlib.Numerals.{add-one}
use native.Mathlib.Omega.{arith}
use lib.ListN.{length, get_or, take}
use lib.Seq.{get_or-take}
use Rattle.model.specs.declared.generator.Generator.{Generator}
use Rattle.model.specs.declared.arrays.Problem.{Problem}
use Rattle.model.specs.Instance.{Schedule, ◌at◌, sum, sum_units}
use Rattle.model.specs.Held.{view, blank_generator}
use Rattle.model.specs.Rules.{on, if_on, output, capacity}
use Rattle.model.specs.Cost.{row_cost, cost}
use Rattle.model.proofs.PeriodSums.{sum_eq, sum_more}
use Rattle.judge.specs.Rows.{schedule_of, Fitting}
use Rattle.judge.proofs.Rows.{cut_long, cut_rows_at}
use Rattle.judge.proofs.Units.{unit, part, units_long, part_at}

-- one more, as a loop counts
pub sum_next : (n : ℕ) (f : ℕ → ℕ) → sum (n + 1) f ≡ sum n f + f n
sum_next n f = rw (add-one n) (sum_more n f)

-- ---- over units with their rows

sum_units_at : (f : Generator → List ℕ → ℕ) (d : Generator) (gs : List Generator) (s : Schedule) → length s ≡ length gs
    → sum_units f gs s ≡ sum (length gs) (λ i. f (get_or gs i d) (get_or s i []))
sum_units_at f d [] s e = refl
sum_units_at f d (g ∷ gs) [] e = absurd (omega arith)
sum_units_at f d (g ∷ gs) (r ∷ s) e = ap (λ (k : ℕ). f g r + k) (sum_units_at f d gs s (omega arith))

pub if_on_most : (b : Bool) (x : ℕ) → if_on b x ≤ x
if_on_most true x = omega arith
if_on_most false x = omega arith

module _ (p : Problem) (l : List ℕ) (F : Fitting p l) (many : length p.generators ≡ 32) where
  sum_parts : (f : Generator → List ℕ → ℕ)
      → sum_units f (take p.units p.generators) (schedule_of p l) ≡ sum p.units (λ i. f (unit p i) (part p l i))
  sum_parts f =
      let e = units_long p l F many in
      let gs = take p.units p.generators in
      let s = schedule_of p l in
      sum_units_at f blank_generator gs s (cut_long p.units p.periods l ∙ sym e)
      ∙ ap (λ (n : ℕ). sum n (λ i. f (get_or gs i blank_generator) (get_or s i []))) e
      ∙ sum_eq p.units _ _ (λ i h. ap₂ f (get_or-take p.units p.generators i blank_generator h) (cut_rows_at p.units p.periods l i h))

  -- (2) and (3), over the whole list
  pub outputs_are : (t : ℕ) → t < p.periods
      → output (view p) (schedule_of p l) t ≡ sum p.units (λ i. l at (i * p.periods + t))
  unfolding output view
  outputs_are t h = sum_parts (λ g r. r at t) ∙ sum_eq p.units _ _ (λ i k. part_at p l F i t h)

  pub capacities_are : (t : ℕ) → t < p.periods
      → capacity (view p) (schedule_of p l) t ≡ sum p.units (λ i. if_on (on (l at (i * p.periods + t))) (unit p i).pU)
  unfolding capacity view
  capacities_are t h =
      sum_parts (λ g r. if_on (on (r at t)) g.pU)
      ∙ sum_eq p.units _ _ (λ i k. ap (λ (x : ℕ). if_on (on x) (unit p i).pU) (part_at p l F i t h))

  -- (1)
  pub cost_is : cost (view p) (schedule_of p l) ≡ sum p.units (λ i. row_cost p.periods (unit p i) (part p l i))
  unfolding cost view
  cost_is = sum_parts (row_cost p.periods)
