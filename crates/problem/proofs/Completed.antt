-- A text can be completed from every place that lines which pass reach: demand and spare of zeros, one and the same small unit as often as units are due, and
-- the last line.
use Prim.Native.Nat.{ℕ, zero, suc, ◌≤◌}
use native.Mathlib.Omega.{arith}
use mathlib.Core.Path.{refl, subst}
use mathlib.Core.Bool.{true}
use mathlib.Core.List.{List, [], ◌∷◌}
use lib.ListN.{replicate, length-replicate}
use Rattle.model.specs.declared.generator.Generator.{Generator}
use Rattle.model.specs.Instance.{Instance}
use Rattle.model.specs.Ranges.{GoodUnit}
use Rattle.model.proofs.Zeros.{zeros_in}
use Rattle.text.specs.Lines.{Line, ended, end_problem}
use Rattle.text.specs.Rendering.{plain_line}
use Rattle.text.specs.Tests.{None, Passed, none_yet, one_more, AllPassed}
use Rattle.text.proofs.Words.{same_self}
use Rattle.text.proofs.Plain.{plain_passed}
use Rattle.problem.specs.Units.{unit_line}
use Rattle.problem.specs.Rendering.{periods_key, units_key, demand_key, spare_key}
use Rattle.problem.specs.Course.{Due, periods_due, units_due, demand_due, spare_due, unit_due, end_due, nothing_due, fleet_due, no_units, with_unit, tests, next_due, end}
use Rattle.problem.proofs.Ends.{judge_end}
use Rattle.problem.proofs.Rendered.{also, unit_judged, periods_judged, units_judged, demand_judged, spare_judged}

abbrev some_unit : Generator
some_unit = record { a = 0; b = 0; c = 0; pL = 1; pU = 1; TU = 1; TD = 1; on = true; since = 1; DR = 1; UR = 1; Hsc = 0; Csc = 0; Tcold = 0; Dc = 0; p0 = 1 }

some_good : GoodUnit some_unit
some_good = record {
  in_range = record {
    a_in = (omega arith, omega arith);
    b_in = (omega arith, omega arith);
    c_in = (omega arith, omega arith);
    pL_in = (omega arith, omega arith);
    pU_in = (omega arith, omega arith);
    TU_in = (omega arith, omega arith);
    TD_in = (omega arith, omega arith);
    since_in = (omega arith, omega arith);
    DR_in = (omega arith, omega arith);
    UR_in = (omega arith, omega arith);
    Hsc_in = (omega arith, omega arith);
    Csc_in = (omega arith, omega arith);
    Tcold_in = (omega arith, omega arith);
    Dc_in = (omega arith, omega arith);
    p0_in = (omega arith, omega arith);
  };
  ordered = record { limits = omega arith; starts = omega arith; midnight = (λ k. (omega arith, omega arith), λ k. absurd k) };
}

-- there is a period
abbrev Fine : Due → Type 0
Fine periods_due = Unit {0}
Fine (units_due T) = 1 ≤ T
Fine (demand_due T I) = 1 ≤ T
Fine (spare_due T I D) = 1 ≤ T
Fine (unit_due n P) = Unit {0}
Fine (end_due P) = Unit {0}
Fine (nothing_due P) = Unit {0}

fleet_fine : (n : ℕ) (P : Instance) → Fine (fleet_due n P)
fleet_fine zero P = tt
fleet_fine (suc n) P = tt

fine_next : (s : Due) (x : Line) → Fine s → None (tests s x) → Fine (next_due s x)
fine_next periods_due x f n = let p = plain_passed periods_key 1 1 48 x [] n in (p.range 0 (omega (arith, p.count))).0
fine_next (units_due T) x f n = f
fine_next (demand_due T I) x f n = f
fine_next (spare_due T I D) x f n = fleet_fine I _
fine_next (unit_due k P) x f n = fleet_fine k _
fine_next (end_due P) x f n = tt
fine_next (nothing_due P) x f n = tt

fine_then : (s t : Due) (ls : List Line) → Fine s → Passed tests next_due s ls t → Fine t
fine_then s t [] f none_yet = f
fine_then s t (x ∷ ls) f (one_more {s' = u} n e p) = fine_then u t ls (subst Fine e (fine_next s x f n)) p

pub record Completes (s : Due) : Type 0 where
  pub lines : List Line
  pub gives : Instance
  pub all : AllPassed tests next_due end gives s lines

from_fleet : (n : ℕ) (P : Instance) → Completes (fleet_due n P)
from_fleet zero P = record {
  lines = ended end_problem ∷ [];
  gives = P;
  all = record { last = nothing_due P; passed = also (judge_end P (ended end_problem) (same_self end_problem)) none_yet; ends = refl };
}
from_fleet (suc n) P =
    let c = from_fleet n (with_unit P some_unit) in
    record {
      lines = ended (unit_line some_unit) ∷ c.lines;
      gives = c.gives;
      all = record { last = c.all.last; passed = also (unit_judged n P some_unit some_good) c.all.passed; ends = c.all.ends };
    }

from_spare : (T I : ℕ) (D : List ℕ) → 1 ≤ T → Completes (spare_due T I D)
from_spare T I D h =
    let c = from_fleet I (no_units T D (replicate T 0)) in
    record {
      lines = ended (plain_line spare_key (replicate T 0)) ∷ c.lines;
      gives = c.gives;
      all = record { last = c.all.last; passed = also (spare_judged T I h D (replicate T 0) (length-replicate T 0) (zeros_in 320000 T)) c.all.passed; ends = c.all.ends };
    }

from_demand : (T I : ℕ) → 1 ≤ T → Completes (demand_due T I)
from_demand T I h =
    let c = from_spare T I (replicate T 0) h in
    record {
      lines = ended (plain_line demand_key (replicate T 0)) ∷ c.lines;
      gives = c.gives;
      all = record { last = c.all.last; passed = also (demand_judged T I h (replicate T 0) (length-replicate T 0) (zeros_in 320000 T)) c.all.passed; ends = c.all.ends };
    }

from_units : (T : ℕ) → 1 ≤ T → Completes (units_due T)
from_units T h =
    let c = from_demand T 1 h in
    record {
      lines = ended (plain_line units_key (1 ∷ [])) ∷ c.lines;
      gives = c.gives;
      all = record { last = c.all.last; passed = also (units_judged T 1 (omega arith, omega arith)) c.all.passed; ends = c.all.ends };
    }

completes : (s : Due) → Fine s → Completes s
completes periods_due f =
    let c = from_units 1 (omega arith) in
    record {
      lines = ended (plain_line periods_key (1 ∷ [])) ∷ c.lines;
      gives = c.gives;
      all = record { last = c.all.last; passed = also (periods_judged 1 (omega arith, omega arith)) c.all.passed; ends = c.all.ends };
    }
completes (units_due T) f = from_units T f
completes (demand_due T I) f = from_demand T I f
completes (spare_due T I D) f = from_spare T I D f
completes (unit_due n P) f = from_fleet (suc n) P
completes (end_due P) f = from_fleet zero P
completes (nothing_due P) f = record { lines = []; gives = P; all = record { last = nothing_due P; passed = none_yet; ends = refl } }

-- from the place that these lines reach
pub completed : (s : Due) (ls : List Line) → Passed tests next_due periods_due ls s → Completes s
completed s ls p = completes s (fine_then periods_due s ls tt p)
