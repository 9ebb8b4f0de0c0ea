-- (1) with given outputs: its least value has for every unit the least cu and cd, and the statuses of the outputs. This holds for every form
-- of (15) for which least costs of starts are known.
use mathlib.Core.Path.{◌≡◌, refl, sym, ap, ap₂, subst}
use mathlib.Core.List.{List, [], ◌∷◌}
use Prim.Native.Nat.{ℕ, zero, suc, ◌*◌, ◌≤◌}
use native.Mathlib.Omega.{arith}
use Rattle.model.specs.declared.generator.Generator.{Generator}
use Rattle.model.specs.Instance.{Instance}
use Rattle.model.specs.Rules.{on}
use Rattle.source.specs.Source.{Bits, Σ₁, Σᵢ, Every, UnitSource, Source, bit, Fifteen, Sentence15, Charges, Costs, term, objective}
use Rattle.source.specs.Sentences.{start_cost, stop_cost}
use Rattle.source.specs.Least.{LeastWith}
use Rattle.source.proofs.Indices.{Σ₁_le, Σᵢ_same, Σᵢ_le, every_map, every_both}
use Rattle.source.proofs.Ranged.{Ranged, AllRanged}
use Rattle.source.proofs.Stays.{num_le}
use Rattle.source.proofs.Rows.{source_status}
use Rattle.source.proofs.Schedules.{same_self, problem_same, statuses_are}
use Rattle.source.proofs.Charges.{charges_allowed, start_below, stop_below, start_same, stop_same}

-- a cost in each period, from a unit and its statuses
abbrev pub Charge : Type 0
Charge = Generator → (ℕ → ℕ) → ℕ → ℕ

-- c is the least cu under a form of (15)
pub record LeastStart (F : Fifteen) (c : Charge) : Type 0 where
  pub allowed : (n : ℕ) (g : Generator) (u : ℕ → ℕ) → Ranged g → Bits n u → Charges F n g u (c g u) (stop_cost g u)
  pub below : (n : ℕ) (g : Generator) (u cu cd : ℕ → ℕ) → Ranged g → Bits n u → Charges F n g u cu cd → (t : ℕ) → 1 ≤ t → t ≤ n → c g u t ≤ cu t
  pub same : (n : ℕ) (g : Generator) (u v : ℕ → ℕ) → ((t : ℕ) → 1 ≤ t → t ≤ n → u t ≡ v t) → (t : ℕ) → 1 ≤ t → t ≤ n → c g u t ≡ c g v t

pub sentence_least : LeastStart Sentence15 start_cost
sentence_least = record {
  allowed = λ n g u R bits. charges_allowed n g u R.hot_cold bits;
  below = λ n g u cu cd R bits C. start_below n g u cu cd C R.started bits;
  same = λ n g u v e. start_same g n u v e;
}

-- the statuses of the outputs
abbrev pub status : (ℕ → ℕ) → ℕ → ℕ
status p t = bit (on (p t))

-- what (1) has of a unit with outputs p, with c for cu
abbrev pub unit_value : Charge → ℕ → Generator → (ℕ → ℕ) → ℕ
unit_value c n g p = Σ₁ n (λ t. term g (status p t) (p t) (c g (status p) t) (stop_cost g (status p) t))

-- ---- a value for each unit, units counted from 1

module _ {A : Type 0} (z : A) where
  abbrev pick : List Generator → ℕ → (Generator → A) → A
  pick [] i f = z
  pick (g ∷ gs) zero f = f g
  pick (g ∷ gs) (suc i) f = pick gs i f

  abbrev pick₁ : List Generator → ℕ → (Generator → A) → A
  pick₁ gs zero f = z
  pick₁ gs (suc i) f = pick gs i f

  pick_is : (gs : List Generator) → Every (λ i g. (f : Generator → A) → pick₁ gs i f ≡ f g) gs
  pick_is gs = go gs (pick₁ gs) (λ i f. refl)
    where
      go : (gs : List Generator) (φ : ℕ → (Generator → A) → A) → ((i : ℕ) (f : Generator → A) → φ (suc i) f ≡ pick gs i f)
          → Every (λ i g. (f : Generator → A) → φ i f ≡ f g) gs
      go [] φ e = tt
      go (g ∷ gs) φ e = (e 0, go gs (λ i. φ (suc i)) (λ i. e (suc i)))

-- ---- the least objective with the outputs p

module _ (F : Fifteen) (c : Charge) (L : LeastStart F c) where
  -- of a unit: no statuses and costs that the equations allow have less
  unit_below : (n : ℕ) (g : Generator) (u p cu cd : ℕ → ℕ) → Ranged g → UnitSource n g u p → Charges F n g u cu cd
      → unit_value c n g p ≤ Σ₁ n (λ t. term g (u t) (p t) (cu t) (cd t))
  unit_below n g u p cu cd R S C =
      let e = source_status n g u p R S in
      Σ₁_le n (λ t. term g (status p t) (p t) (c g (status p) t) (stop_cost g (status p) t)) (λ t. term g (u t) (p t) (cu t) (cd t))
      (λ t l m. omega (
        arith,
        ap (λ (k : ℕ). g.a * k) (e t l m),
        L.same n g u (status p) e t l m,
        stop_same g n u (status p) e t l m,
        L.below n g u cu cd R S.eq22 C t l m,
        stop_below F n g u cu cd C R.started S.eq22 t l m,
      ))

  module _ (P : Instance) (p : ℕ → ℕ → ℕ) (A : AllRanged P) where
    -- x of unit i in period t
    charge_of : Charge → ℕ → ℕ → ℕ
    charge_of x i = pick₁ (λ t. 0) P.units i (λ g. x g (status (p i)))

    charge_is : (x : Charge) → Every (λ i g. charge_of x i ≡ x g (status (p i))) P.units
    unfolding charge_of
    charge_is x =
        every_map _ (λ i g. charge_of x i ≡ x g (status (p i))) P.units (λ i g e. e (λ g. x g (status (p i)))) (pick_is (λ t. 0) P.units)

    charges_are : Every (λ i g. (charge_of c i ≡ c g (status (p i))) × (charge_of stop_cost i ≡ stop_cost g (status (p i)))) P.units
    charges_are = every_both _ _ P.units (charge_is c) (charge_is stop_cost)

    value_allowed : Costs F P (λ i. status (p i)) (charge_of c) (charge_of stop_cost)
    value_allowed =
        every_map _ (λ i g. Charges F P.periods g (status (p i)) (charge_of c i) (charge_of stop_cost i)) P.units
        (λ i g h. subst (λ (k : ℕ → ℕ). Charges F P.periods g (status (p i)) k (charge_of stop_cost i)) (sym h.1.0)
        (subst (λ (k : ℕ → ℕ). Charges F P.periods g (status (p i)) (c g (status (p i))) k) (sym h.1.1)
        (L.allowed P.periods g (status (p i)) h.0 (λ t l m. num_le (on (p i t))))))
        (every_both _ _ P.units A charges_are)

    value_attained : objective P (λ i. status (p i)) p (charge_of c) (charge_of stop_cost) ≡ Σᵢ (λ i g. unit_value c P.periods g (p i)) P.units
    value_attained =
        Σᵢ_same (λ i g. Σ₁ P.periods (λ t. term g (status (p i) t) (p i t) (charge_of c i t) (charge_of stop_cost i t)))
        (λ i g. unit_value c P.periods g (p i)) P.units (every_map _ _ P.units
        (λ i g h. ap₂ (λ (x y : ℕ → ℕ). Σ₁ P.periods (λ t. term g (status (p i) t) (p i t) (x t) (y t))) h.0 h.1) charges_are)

    pub value_below : (u cu cd : ℕ → ℕ → ℕ) → Source P u p → Costs F P u cu cd
        → Σᵢ (λ i g. unit_value c P.periods g (p i)) P.units ≤ objective P u p cu cd
    value_below u cu cd S C =
        Σᵢ_le (λ i g. unit_value c P.periods g (p i)) (λ i g. Σ₁ P.periods (λ t. term g (u i t) (p i t) (cu i t) (cd i t))) P.units
        (every_map _ _ P.units (λ i g h. unit_below P.periods g (u i) (p i) (cu i) (cd i) h.0 h.1.0 h.1.1)
        (every_both _ _ P.units A (every_both _ _ P.units S.eq4_12 C)))

    pub least_with : (u : ℕ → ℕ → ℕ) → Source P u p → LeastWith F P p (Σᵢ (λ i g. unit_value c P.periods g (p i)) P.units)
    least_with u S = record {
      u = λ i. status (p i);
      cu = charge_of c;
      cd = charge_of stop_cost;
      source = problem_same P u (λ i. status (p i)) p p (statuses_are P u p A S) (same_self P p) S;
      costs = value_allowed;
      value = value_attained;
      least = value_below;
    }
