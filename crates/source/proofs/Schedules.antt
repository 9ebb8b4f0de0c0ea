-- A problem: a schedule meets the model's printed rules, ramps from period 2 on, exactly if the printed (2) to (12) hold for its outputs.
-- (4) to (12) are those of its rows, and the sums of (2) and (3) are the model's.
use mathlib.Core.Path.{◌≡◌, refl, sym, ap}
use mathlib.Core.Logic.{◌↔◌}
use mathlib.Core.List.{[]}
use Prim.Native.Nat.{ℕ, zero, suc, ◌*◌, ◌≤◌}
use native.Mathlib.Omega.{arith}
use lib.ListN.{length, get_or}
use Rattle.model.specs.Instance.{Instance, Schedule, ◌at◌}
use Rattle.model.specs.Ranges.{Shaped, WellFormed}
use Rattle.model.specs.Rules.{on, if_on, Row, output, capacity, MeetsPrinted}
use Rattle.source.specs.Source.{Σᵢ, Every, UnitSource, Source, bit, p_of, u_of}
use Rattle.source.proofs.Indices.{from_one, Σᵢ_same, Σᵢ_is, every_all, every_map, every_both, each→every, every→each, Shape, shape_of, shaped→shape, shape→shaped}
use Rattle.source.proofs.Ranged.{Ranged, AllRanged, formed→ranged}
use Rattle.source.proofs.Rows.{row→source, source→row, source_status, source_same}

-- ---- the two sums

if_on_is : (c p : ℕ) → c * bit (on p) ≡ if_on (on p) c
if_on_is c zero = omega arith
if_on_is c (suc p) = omega arith

output_is : (P : Instance) (s : Schedule) (t : ℕ) → Shape P s → Σᵢ (λ i g. p_of s i (suc t)) P.units ≡ output P s t
unfolding output
output_is P s t w = Σᵢ_is (λ g r. r at t) P.units s (λ i g. p_of s i (suc t)) (λ g r. length r ≡ P.periods) w (λ i g. refl)

capacity_is : (P : Instance) (s : Schedule) (t : ℕ) → Shape P s → Σᵢ (λ i g. g.pU * u_of s i (suc t)) P.units ≡ capacity P s t
unfolding capacity
capacity_is P s t w =
    Σᵢ_is (λ g r. if_on (on (r at t)) g.pU) P.units s (λ i g. g.pU * u_of s i (suc t)) (λ g r. length r ≡ P.periods) w
    (λ i g. if_on_is g.pU (get_or s i [] at t))

-- ---- from the rules to the equations

pub meets→source : (P : Instance) (s : Schedule) → MeetsPrinted P s → Source P (u_of s) (p_of s)
meets→source P s M = record {
  eq2 = from_one P.periods _ (λ t l. omega (arith, M.meets_demand t l, output_is P s t (shape_of P s M)));
  eq3 = from_one P.periods _ (λ t l. omega (arith, M.meets_spare t l, capacity_is P s t (shape_of P s M)));
  eq4_12 = each→every P.units s (λ i g. Unit {0}) (λ i g. UnitSource P.periods g (u_of s i) (p_of s i)) (Row P.periods)
      (λ i g k R. row→source P.periods g (get_or s i []) R) (every_all (λ i g. Unit {0}) P.units (λ i g. tt)) M.rows;
}

-- ---- and back

-- the equations look at u and p in the periods 1 to T of the units 1 to I only
abbrev pub Same : Instance → (ℕ → ℕ → ℕ) → (ℕ → ℕ → ℕ) → Type 0
Same P u v = Every (λ i g. (t : ℕ) → 1 ≤ t → t ≤ P.periods → u i t ≡ v i t) P.units

pub same_self : (P : Instance) (u : ℕ → ℕ → ℕ) → Same P u u
same_self P u = every_all _ P.units (λ i g t l m. refl)

pub same_sym : (P : Instance) (u v : ℕ → ℕ → ℕ) → Same P u v → Same P v u
same_sym P u v e = every_map _ (λ i g. (t : ℕ) → 1 ≤ t → t ≤ P.periods → v i t ≡ u i t) P.units (λ i g h t l m. sym (h t l m)) e

pub problem_same : (P : Instance) (u v p q : ℕ → ℕ → ℕ) → Same P u v → Same P p q → Source P u p → Source P v q
problem_same P u v p q e f S = record {
  eq2 = λ t l m. omega (
    arith,
    S.eq2 t l m,
    Σᵢ_same (λ i g. p i t) (λ i g. q i t) P.units (every_map _ (λ i g. p i t ≡ q i t) P.units (λ i g h. h t l m) f),
  );
  eq3 = λ t l m. omega (
    arith,
    S.eq3 t l m,
    Σᵢ_same (λ i g. g.pU * u i t) (λ i g. g.pU * v i t) P.units
        (every_map _ (λ i g. g.pU * u i t ≡ g.pU * v i t) P.units (λ i g h. ap (λ (k : ℕ). g.pU * k) (h t l m)) e),
  );
  eq4_12 = every_map _ (λ i g. UnitSource P.periods g (v i) (q i)) P.units
      (λ i g h. source_same P.periods g (u i) (v i) h.0 (p i) (q i) h.1.0 h.1.1)
      (every_both _ _ P.units e (every_both _ _ P.units f S.eq4_12));
}

-- from pL 1 on, the outputs tell the statuses
pub statuses_are : (P : Instance) (u p : ℕ → ℕ → ℕ) → AllRanged P → Source P u p → Same P u (λ i t. bit (on (p i t)))
statuses_are P u p A S =
    every_map _ (λ i g. (t : ℕ) → 1 ≤ t → t ≤ P.periods → u i t ≡ bit (on (p i t))) P.units
    (λ i g h. source_status P.periods g (u i) (p i) h.0 h.1) (every_both _ _ P.units A S.eq4_12)

pub source→meets : (P : Instance) (s : Schedule) → AllRanged P → Shape P s → Source P (u_of s) (p_of s) → MeetsPrinted P s
source→meets P s A w S = record {
  rows = every→each P.units s (λ i g. Ranged g × UnitSource P.periods g (u_of s i) (p_of s i)) (λ g r. length r ≡ P.periods) (Row P.periods)
      (λ i g e h. source→row P.periods g (get_or s i []) h.0.started e h.1) w (every_both _ _ P.units A S.eq4_12);
  meets_demand = λ t l. omega (arith, S.eq2 (suc t) (omega arith) l, output_is P s t w);
  meets_spare = λ t l. omega (arith, S.eq3 (suc t) (omega arith) l, capacity_is P s t w);
}

-- ---- rules that are equations

-- the rules M are the equations E: these ask (2) to (12) at least, and look at no more of u and p than (2) to (12) do
pub record Reading (P : Instance) (E : (ℕ → ℕ → ℕ) → (ℕ → ℕ → ℕ) → Type 0) (M : Schedule → Type 0) : Type 0 where
  pub source : (u p : ℕ → ℕ → ℕ) → E u p → Source P u p
  pub same : (u v p q : ℕ → ℕ → ℕ) → Same P u v → Same P p q → E u p → E v q
  pub shape : (s : Schedule) → M s → Shape P s
  pub solves : (s : Schedule) → M s → E (u_of s) (p_of s)
  pub meets : (s : Schedule) → Shape P s → E (u_of s) (p_of s) → M s

module _ (P : Instance) (E : (ℕ → ℕ → ℕ) → (ℕ → ℕ → ℕ) → Type 0) (M : Schedule → Type 0) (R : Reading P E M) (s : Schedule) where
  -- with u 1 exactly where the output is above 0 ..
  pub reading_is : M s ↔ (Shaped P s × E (u_of s) (p_of s))
  reading_is = (λ m. (shape→shaped P s (R.shape s m), R.solves s m), λ h. R.meets s (shaped→shape P s h.0) h.1)

  pub any_meets : AllRanged P → Shape P s → (u : ℕ → ℕ → ℕ) → E u (p_of s) → M s
  any_meets A w u e =
      R.meets s w (R.same u (u_of s) (p_of s) (p_of s) (statuses_are P u (p_of s) A (R.source u (p_of s) e)) (same_self P (p_of s)) e)

  -- .. and with any u at all
  pub reading_some : AllRanged P → M s ↔ (Shaped P s × ((u : ℕ → ℕ → ℕ) × E u (p_of s)))
  reading_some A = (
    λ m. (shape→shaped P s (R.shape s m), (u_of s, R.solves s m)),
    λ h. any_meets A (shaped→shape P s h.0) h.1.0 h.1.1,
  )

-- ---- the theorems

pub printed_reading : (P : Instance) → AllRanged P → Reading P (Source P) (MeetsPrinted P)
printed_reading P A = record {
  source = λ u p S. S;
  same = problem_same P;
  shape = shape_of P;
  solves = meets→source P;
  meets = λ s. source→meets P s A;
}

pub meets_is : (P : Instance) (s : Schedule) → WellFormed P → MeetsPrinted P s ↔ (Shaped P s × Source P (u_of s) (p_of s))
meets_is P s W = reading_is P (Source P) (MeetsPrinted P) (printed_reading P (formed→ranged P W)) s

pub meets_some : (P : Instance) (s : Schedule) → WellFormed P → MeetsPrinted P s ↔ (Shaped P s × ((u : ℕ → ℕ → ℕ) × Source P u (p_of s)))
meets_some P s W = let A = formed→ranged P W in reading_some P (Source P) (MeetsPrinted P) (printed_reading P A) s A
