-- The units that run in a period are the source's A_t, and a schedule agrees with what stands above a node exactly if it has the statuses and keeps the cuts (27)
-- and (28) by the counts that stand.
use mathlib.Core.Path.{◌≡◌, refl, ap₂, sym, ◌∙◌}
use mathlib.Core.Bool.{Bool, true, false}
use mathlib.Core.List.{List, [], ◌∷◌}
use mathlib.Core.Logic.{◌↔◌}
use mathlib.Core.Option.{Option, none, some}
use Prim.Native.Nat.{ℕ, suc, ◌+◌, ◌≤◌}
use native.Mathlib.Omega.{arith}
use lib.ListN.{length}
use Rattle.model.specs.declared.generator.Generator.{Generator}
use Rattle.model.specs.Instance.{Instance, Schedule, ◌at◌, sum_units, Each}
use Rattle.model.specs.Rules.{on, if_on}
use Rattle.model.specs.Above.{Above, AtMost}
use Rattle.model.specs.Agreement.{Follows, running, Agrees}
use Rattle.source.specs.Source.{bit, u_of}
use Rattle.source.specs.Counts.{units_on, Cut27, Cut28}
use Rattle.source.proofs.Indices.{Σᵢ_is}

one_on : (b : Bool) → if_on b 1 ≡ bit b
one_on true = refl
one_on false = refl

-- a row for each unit
one_each : (gs : List Generator) (s : Schedule) → length s ≡ length gs → Each (λ g r. Unit {0}) gs s
one_each [] [] e = tt
one_each [] (r ∷ s) e = absurd (omega (arith, e))
one_each (g ∷ gs) [] e = absurd (omega (arith, e))
one_each (g ∷ gs) (r ∷ s) e = (tt, one_each gs s (omega (arith, e)))

-- no unit's numbers are read
running_sum : (gs : List Generator) (s : Schedule) (t : ℕ) → length s ≡ length gs → running s t ≡ sum_units (λ g r. bit (on (r at t))) gs s
running_sum [] [] t e = refl
running_sum [] (r ∷ s) t e = absurd (omega (arith, e))
running_sum (g ∷ gs) [] t e = absurd (omega (arith, e))
running_sum (g ∷ gs) (r ∷ s) t e = ap₂ ◌+◌ (one_on (on (r at t))) (running_sum gs s t (omega (arith, e)))

module _ (P : Instance) (s : Schedule) (rows : length s ≡ length P.units) where
  -- period t, from 0, is the source's t + 1
  pub running_is : (t : ℕ) → running s t ≡ units_on P (u_of s) (suc t)
  running_is t =
      running_sum P.units s t rows
      ∙ sym (Σᵢ_is (λ g r. bit (on (r at t))) P.units s (λ i g. u_of s i (suc t)) (λ g r. Unit {0}) (one_each P.units s rows) (λ i g. refl))

  pub agrees_is : (A : Above)
      → Agrees A s
      ↔ (Follows A.marks s × ((t : ℕ) → Cut27 P (u_of s) (suc t) (A.least t)) × ((t K : ℕ) → A.most t ≡ some K → Cut28 P (u_of s) (suc t) K))
  agrees_is A = (
    λ h. (h.follows, λ t. omega (arith, running_is t, h.enough t), λ t K e. omega (arith, running_is t, below t K (A.most t) e (h.few t))),
    λ h. record { follows = h.0; enough = λ t. omega (arith, running_is t, h.1 t); few = λ t. at_most t (A.most t) (λ K e. h.2 t K e) },
  )
    where
      below : (t K : ℕ) (o : Option ℕ) → o ≡ some K → AtMost (running s t) o → running s t ≤ K
      below t K none e k = absurd (let z : ◌≡◌ {A = ℕ} 0 1 = cc in omega arith)
      below t K (some J) e k = let q : J ≡ K = cc in omega (arith, k, q)

      at_most : (t : ℕ) (o : Option ℕ) → ((K : ℕ) → o ≡ some K → Cut28 P (u_of s) (suc t) K) → AtMost (running s t) o
      at_most t none f = tt
      at_most t (some K) f = omega (arith, running_is t, f K refl)
