-- Every solution of the printed equations is a schedule: its outputs, as rows. So where the model's rules are equations, the least objective
-- over all u, p, cu and cd is the least cost of a schedule that meets the rules.
use mathlib.Core.Path.{◌≡◌, refl, sym, ◌∙◌, ap}
use mathlib.Core.Logic.{◌↔◌}
use mathlib.Core.List.{List, [], ◌∷◌}
use Prim.Native.Nat.{ℕ, zero, suc, ◌+◌, ◌≤◌, ◌<◌}
use native.Mathlib.Omega.{arith}
use lib.ListN.{length, get_or}
use Rattle.model.specs.declared.generator.Generator.{Generator}
use Rattle.model.specs.Instance.{Instance, Schedule, ◌at◌, Each}
use Rattle.model.specs.Ranges.{WellFormed}
use Rattle.model.specs.Rules.{MeetsPrinted}
use Rattle.model.specs.Cost.{cost}
use Rattle.source.specs.Source.{Σ₁, Σᵢ, Every, nth, Source, Fifteen, Printed15, Repaired15, Sentence15, Costs, term, objective, p_of, u_of}
use Rattle.source.specs.Sentences.{start_cost, printed_cost, surcharges}
use Rattle.source.specs.Least.{LeastWith, LeastObjective, LeastCost}
use Rattle.source.proofs.Indices.{Σ₁_same, Σᵢ_same, every_map, Shape}
use Rattle.source.proofs.Ranged.{AllRanged, formed→ranged}
use Rattle.source.proofs.Schedules.{Same, same_self, same_sym, problem_same, statuses_are, Reading, any_meets, printed_reading}
use Rattle.source.proofs.Objective.{Charge, LeastStart, unit_value, sentence_least, value_below, least_with}
use Rattle.source.proofs.CostOfRows.{cost_value}
use Rattle.source.proofs.Printed.{printed_least, printed_value}
use Rattle.source.proofs.Repaired.{repaired_least}

-- ---- outputs as rows

abbrev listed : ℕ → (ℕ → ℕ) → List ℕ
listed zero p = []
listed (suc n) p = p 1 ∷ listed n (λ t. p (suc t))

abbrev rows : List Generator → ℕ → (ℕ → ℕ → ℕ) → Schedule
rows [] n p = []
rows (g ∷ gs) n p = listed n (p 1) ∷ rows gs n (λ i. p (suc i))

unfoldable pub schedule_of : Instance → (ℕ → ℕ → ℕ) → Schedule
schedule_of P p = rows P.units P.periods p

listed_long : (n : ℕ) (p : ℕ → ℕ) → length (listed n p) ≡ n
listed_long zero p = refl
listed_long (suc n) p = ap suc (listed_long n (λ t. p (suc t)))

listed_at : (n : ℕ) (p : ℕ → ℕ) (t : ℕ) → t < n → listed n p at t ≡ p (suc t)
listed_at zero p t l = absurd (omega arith)
listed_at (suc n) p zero l = refl
listed_at (suc n) p (suc t) l = listed_at n (λ t. p (suc t)) t (omega arith)

listed_nth : (n : ℕ) (p : ℕ → ℕ) (t : ℕ) → 1 ≤ t → t ≤ n → p t ≡ nth (listed n p) t
listed_nth n p zero l m = absurd (omega arith)
listed_nth n p (suc t) l m = sym (listed_at n p t m)

rows_long : (gs : List Generator) (n : ℕ) (p : ℕ → ℕ → ℕ) → Each (λ g r. length r ≡ n) gs (rows gs n p)
rows_long [] n p = tt
rows_long (g ∷ gs) n p = (listed_long n (p 1), rows_long gs n (λ i. p (suc i)))

rows_same : (gs : List Generator) (n : ℕ) (p q : ℕ → ℕ → ℕ) → ((i : ℕ) → q (suc i) ≡ nth (get_or (rows gs n p) i []))
    → Every (λ i g. (t : ℕ) → 1 ≤ t → t ≤ n → p i t ≡ q i t) gs
rows_same [] n p q e = tt
rows_same (g ∷ gs) n p q e = (rw (e 0) (listed_nth n (p 1)), rows_same gs n (λ i. p (suc i)) (λ i. q (suc i)) (λ i. e (suc i)))

-- ---- a solution's schedule

module _ (P : Instance) (p : ℕ → ℕ → ℕ) where
  pub schedule_shape : Shape P (schedule_of P p)
  unfolding schedule_of
  schedule_shape = rows_long P.units P.periods p

  schedule_same : Same P p (p_of (schedule_of P p))
  unfolding schedule_of
  schedule_same = rows_same P.units P.periods p (p_of (schedule_of P p)) (λ i. refl)

  schedule_source : (u : ℕ → ℕ → ℕ) → Source P u p → Source P u (p_of (schedule_of P p))
  schedule_source u S = problem_same P u u p (p_of (schedule_of P p)) (same_self P u) schedule_same S

  schedule_objective : (u cu cd : ℕ → ℕ → ℕ) → objective P u p cu cd ≡ objective P u (p_of (schedule_of P p)) cu cd
  schedule_objective u cu cd =
      Σᵢ_same (λ i g. Σ₁ P.periods (λ t. term g (u i t) (p i t) (cu i t) (cd i t)))
      (λ i g. Σ₁ P.periods (λ t. term g (u i t) (p_of (schedule_of P p) i t) (cu i t) (cd i t))) P.units
      (every_map _ _ P.units (λ i g e. Σ₁_same P.periods (λ t. term g (u i t) (p i t) (cu i t) (cd i t))
      (λ t. term g (u i t) (p_of (schedule_of P p) i t) (cu i t) (cd i t)) (λ t l m. ap (λ (k : ℕ). term g (u i t) k (cu i t) (cd i t)) (e t l m)))
      schedule_same)

-- it meets the rules, if these are the equations
pub solution_meets : (P : Instance) (E : (ℕ → ℕ → ℕ) → (ℕ → ℕ → ℕ) → Type 0) (M : Schedule → Type 0) → Reading P E M → AllRanged P
    → (u p : ℕ → ℕ → ℕ) → E u p → M (schedule_of P p)
solution_meets P E M R A u p e =
    let s = schedule_of P p in
    any_meets P E M R s A (schedule_shape P p) u (R.same u u p (p_of s) (same_self P u) (schedule_same P p) e)

-- ---- the two least values

-- k is what a form of (15) makes of a schedule's cost
module _ (F : Fifteen) (c : Charge) (L : LeastStart F c) (P : Instance) (A : AllRanged P) (k : Schedule → ℕ)
    (is : (s : Schedule) → Shape P s → Σᵢ (λ i g. unit_value c P.periods g (p_of s i)) P.units ≡ k s) where
  -- no solution has a smaller objective than its schedule
  pub solution_below : (u p cu cd : ℕ → ℕ → ℕ) → Source P u p → Costs F P u cu cd → k (schedule_of P p) ≤ objective P u p cu cd
  solution_below u p cu cd S C = let s = schedule_of P p in omega (
    arith,
    is s (schedule_shape P p),
    schedule_objective P p u cu cd,
    value_below F c L P (p_of s) A u cu cd (schedule_source P p u S) C,
  )

  -- the rules M are the equations E
  module _ (E : (ℕ → ℕ → ℕ) → (ℕ → ℕ → ℕ) → Type 0) (M : Schedule → Type 0) (R : Reading P E M) where
    -- a schedule with its least statuses and costs ..
    with_least : (s : Schedule) → M s → LeastWith F P (p_of s) (Σᵢ (λ i g. unit_value c P.periods g (p_of s i)) P.units)
    with_least s m = least_with F c L P (p_of s) A (u_of s) (R.source (u_of s) (p_of s) (R.solves s m))

    -- .. is a solution
    least_solves : (s : Schedule) (m : M s) → E (with_least s m).u (p_of s)
    least_solves s m =
        let W = with_least s m in
        R.same (u_of s) W.u (p_of s) (p_of s)
        (same_sym P W.u (u_of s) (statuses_are P W.u (p_of s) A W.source)) (same_self P (p_of s)) (R.solves s m)

    as_solution : (s : Schedule) → M s → (v : ℕ) → LeastObjective E F P v → v ≤ k s
    as_solution s m v O =
        let W = with_least s m in
        omega (arith, is s (R.shape s m), W.value, O.least W.u (p_of s) W.cu W.cd (least_solves s m) W.costs)

    least→objective : (v : ℕ) → LeastCost M k v → LeastObjective E F P v
    least→objective v O = let W = with_least O.s O.meets in record {
      u = W.u;
      p = p_of O.s;
      cu = W.cu;
      cd = W.cd;
      solves = least_solves O.s O.meets;
      costs = W.costs;
      value = W.value ∙ is O.s (R.shape O.s O.meets) ∙ O.value;
      least = λ u p cu cd e C. omega (
        arith,
        solution_below u p cu cd (R.source u p e) C,
        O.least (schedule_of P p) (solution_meets P E M R A u p e),
      );
    }

    objective→least : (v : ℕ) → LeastObjective E F P v → LeastCost M k v
    objective→least v O = let m = solution_meets P E M R A O.u O.p O.solves in record {
      s = schedule_of P O.p;
      meets = m;
      value = omega (
        arith,
        O.value,
        solution_below O.u O.p O.cu O.cd (R.source O.u O.p O.solves) O.costs,
        as_solution (schedule_of P O.p) m v O,
      );
      least = λ s m'. as_solution s m' v O;
    }

    pub optimum : (v : ℕ) → LeastCost M k v ↔ LeastObjective E F P v
    optimum v = (least→objective v, objective→least v)

-- ---- the theorems: the printed rules, for each form of (15)

pub optimum_sentence : (P : Instance) → WellFormed P → (v : ℕ) → LeastCost (MeetsPrinted P) (cost P) v ↔ LeastObjective (Source P) Sentence15 P v
optimum_sentence P W =
    let A = formed→ranged P W in
    optimum Sentence15 start_cost sentence_least P A (cost P) (cost_value P) (Source P) (MeetsPrinted P) (printed_reading P A)

pub optimum_repaired : (P : Instance) → WellFormed P → (v : ℕ) → LeastCost (MeetsPrinted P) (cost P) v ↔ LeastObjective (Source P) Repaired15 P v
optimum_repaired P W =
    let A = formed→ranged P W in
    optimum Repaired15 start_cost repaired_least P A (cost P) (cost_value P) (Source P) (MeetsPrinted P) (printed_reading P A)

pub optimum_printed : (P : Instance) → WellFormed P → (v : ℕ)
    → LeastCost (MeetsPrinted P) (λ s. cost P s + surcharges P s) v ↔ LeastObjective (Source P) Printed15 P v
optimum_printed P W =
    let A = formed→ranged P W in
    optimum Printed15 printed_cost printed_least P A (λ s. cost P s + surcharges P s) (printed_value P) (Source P) (MeetsPrinted P) (printed_reading P A)
