-- With a schedule's outputs, and (15) by its sentence, the least objective (1) is the model's cost: unit by unit the fuel of (1) is the
-- model's, and the costs of starts and stops are.
use mathlib.Core.Path.{◌≡◌, refl, sym, ◌∙◌, ap, ap₂, subst}
use mathlib.Core.List.{List, [], ◌∷◌}
use Prim.Native.Nat.{ℕ, zero, suc, ◌+◌, ◌*◌}
use native.Mathlib.Omega.{arith}
use lib.ListN.{length}
use Rattle.model.specs.declared.generator.Generator.{Generator}
use Rattle.model.specs.Instance.{Instance, Schedule, sum_units, Each}
use Rattle.model.specs.Ranges.{WellFormed}
use Rattle.model.specs.Rules.{on, MeetsPrinted}
use Rattle.model.specs.Cost.{fuel_cost, row_cost, cost}
use Rattle.model.proofs.Sums.{sum_add}
use Rattle.source.specs.Source.{Σ₁, Σᵢ, nth, bit, Fifteen, Sentence15, term, u_row, p_of, u_of}
use Rattle.source.specs.Sentences.{start_cost, stop_cost}
use Rattle.source.specs.Least.{LeastWith}
use Rattle.source.proofs.Indices.{Σ₁_same, Σᵢ_is, Shape, shape_of}
use Rattle.source.proofs.Ranged.{formed→ranged}
use Rattle.source.proofs.Schedules.{meets→source}
use Rattle.source.proofs.SwitchCosts.{switch_costs_are}
use Rattle.source.proofs.Objective.{Charge, LeastStart, unit_value, sentence_least, least_with}

-- ---- a row

fuel_is : (g : Generator) (p : ℕ) → g.a * bit (on p) + g.b * p + g.c * p * p ≡ fuel_cost g p
fuel_is g zero = omega arith
fuel_is g (suc p) = omega arith

pub row_value : (n : ℕ) (g : Generator) (r : List ℕ) → length r ≡ n → unit_value start_cost n g (nth r) ≡ row_cost n g r
unfolding row_cost
row_value n g r e =
    Σ₁_same n (λ t. term g (u_row r t) (nth r t) (start_cost g (u_row r) t) (stop_cost g (u_row r) t)) (λ t. fuel_cost g (nth r t) + c t)
    (λ t l m. omega (arith, fuel_is g (nth r t)))
    ∙ sym (sum_add n (λ t. fuel_cost g (nth r (suc t))) (λ t. c (suc t)))
    ∙ ap (λ (k : ℕ). Σ₁ n (λ t. fuel_cost g (nth r t)) + k) (ap (λ (k : ℕ). Σ₁ k c) (sym e) ∙ switch_costs_are g r)
  where
    c : ℕ → ℕ
    c t = start_cost g (u_row r) t + stop_cost g (u_row r) t

-- ---- a schedule

units_same : (F F' : Generator → List ℕ → ℕ) (L : Generator → List ℕ → Type 0) → ((g : Generator) (r : List ℕ) → L g r → F g r ≡ F' g r)
    → (gs : List Generator) (s : Schedule) → Each L gs s → sum_units F gs s ≡ sum_units F' gs s
units_same F F' L f [] s w = refl
units_same F F' L f (g ∷ gs) [] w = refl
units_same F F' L f (g ∷ gs) (r ∷ s) w = ap₂ ◌+◌ (f g r w.0) (units_same F F' L f gs s w.1)

-- what (1) has of the units is what a sum over the rows has
pub value_is : (c : Charge) (F : Generator → List ℕ → ℕ) (P : Instance) (s : Schedule) → Shape P s
    → ((g : Generator) (r : List ℕ) → length r ≡ P.periods → unit_value c P.periods g (nth r) ≡ F g r)
    → Σᵢ (λ i g. unit_value c P.periods g (p_of s i)) P.units ≡ sum_units F P.units s
value_is c F P s w f =
    Σᵢ_is (λ g r. unit_value c P.periods g (nth r)) P.units s (λ i g. unit_value c P.periods g (p_of s i))
    (λ g r. length r ≡ P.periods) w (λ i g. refl)
    ∙ units_same (λ g r. unit_value c P.periods g (nth r)) F (λ g r. length r ≡ P.periods) f P.units s w

-- if k is that sum for every schedule, k is the least objective with its outputs
pub least_is : (F : Fifteen) (c : Charge) → LeastStart F c → (P : Instance) (k : Schedule → ℕ)
    → ((s : Schedule) → Shape P s → Σᵢ (λ i g. unit_value c P.periods g (p_of s i)) P.units ≡ k s) → WellFormed P → (s : Schedule) → MeetsPrinted P s
    → LeastWith F P (p_of s) (k s)
least_is F c L P k is W s M =
    subst (λ (v : ℕ). LeastWith F P (p_of s) v) (is s (shape_of P s M)) (least_with F c L P (p_of s) (formed→ranged P W) (u_of s) (meets→source P s M))

pub cost_value : (P : Instance) (s : Schedule) → Shape P s → Σᵢ (λ i g. unit_value start_cost P.periods g (p_of s i)) P.units ≡ cost P s
unfolding cost
cost_value P s w = value_is start_cost (row_cost P.periods) P s w (row_value P.periods)

pub cost_is_least : (P : Instance) → WellFormed P → (s : Schedule) → MeetsPrinted P s → LeastWith Sentence15 P (p_of s) (cost P s)
cost_is_least P = least_is Sentence15 start_cost sentence_least P (cost P) (cost_value P)
