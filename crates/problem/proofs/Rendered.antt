-- The lines of a well-formed problem are good, each at its place, and they give that problem.
use Prim.Native.Nat.{ℕ, ◌<◌}
use native.Mathlib.Omega.{arith}
use mathlib.Core.Path.{◌≡◌, refl, sym, ap, subst, ◌∙◌}
use mathlib.Core.Bool.{not}
use mathlib.Core.List.{List, [], ◌∷◌, ◌++◌, map, append_assoc, append-nil}
use lib.ListN.{length, get_or}
use Rattle.model.specs.declared.generator.Generator.{Generator}
use Rattle.model.specs.Instance.{Instance}
use Rattle.model.specs.Ranges.{Between, All, GoodLoad, GoodUnit, WellFormed, ordered}
use Rattle.text.specs.Lines.{Line, ended, end_problem}
use Rattle.text.specs.Course.{good}
use Rattle.text.specs.Tests.{◌if◌, found, Passed, none_yet, AllPassed}
use Rattle.text.specs.Rendering.{plain_line}
use Rattle.text.proofs.Courses.{good_more}
use Rattle.text.proofs.Words.{same_self}
use Rattle.text.proofs.Verdicts.{form_found}
use Rattle.problem.specs.Units.{unit_line, unit_of, unit_form}
use Rattle.problem.specs.Rendering.{lines_after, periods_key, units_key, demand_key, spare_key}
use Rattle.problem.specs.Course.{Due, periods_due, units_due, demand_due, spare_due, unit_due, end_due, nothing_due, fleet_due, no_units, with_unit, tests, next_due, judge, end}
use Rattle.problem.proofs.Ends.{judge_end}
use Rattle.problem.proofs.UnitLines.{unit_line_good, unit_line_of, of_ordered}
use Rattle.problem.proofs.PlainLines.{plain_judged}

-- a problem with these units in place of its own, and with these behind its own
abbrev pub having : Instance → List Generator → Instance
having P gs = record { periods = P.periods; demand = P.demand; spare = P.spare; units = gs }

abbrev pub with_units : Instance → List Generator → Instance
with_units P gs = having P (P.units ++ gs)

-- one good line in front of others
pub also : {s s' s'' : Due} {x : Line} {ls : List Line} → judge s x ≡ good s' → Passed tests next_due s' ls s'' → Passed tests next_due s (x ∷ ls) s''
unfolding judge
also e p = good_more tests next_due end e p

-- ---- the unit lines and the end line

pub unit_judged : (n : ℕ) (P : Instance) (g : Generator) → GoodUnit g → judge (unit_due n P) (ended (unit_line g)) ≡ good (fleet_due n (with_unit P g))
unfolding judge
unit_judged n P g G =
    let l = ended (unit_line g) in
    let u : unit_of l ≡ g = unit_line_of g G.in_range in
    form_found unit_form l (15 if not (ordered (unit_of l)) ∷ []) (fleet_due n (with_unit P (unit_of l))) (unit_line_good g G.in_range)
    ∙ ap (λ (x : Generator). found (15 if not (ordered x) ∷ []) (fleet_due n (with_unit P x))) u
    ∙ rw (of_ordered g G.ordered) refl

pub fleet_good : (gs : List Generator) (P : Instance) → All GoodUnit gs
    → Passed tests next_due (fleet_due (length gs) P) (map ended (map unit_line gs ++ (end_problem ∷ []))) (nothing_due (with_units P gs))
fleet_good [] P a =
    subst (λ (gs : List Generator). Passed tests next_due (end_due P) (ended end_problem ∷ []) (nothing_due (having P gs))) (sym (append-nil P.units))
    (also (judge_end P (ended end_problem) (same_self end_problem)) none_yet)
fleet_good (g ∷ gs) P a =
    subst (λ (hs : List Generator). Passed tests next_due (unit_due (length gs) P) (map ended (map unit_line (g ∷ gs) ++ (end_problem ∷ []))) (nothing_due (having P hs))) (append_assoc P.units (g ∷ []) gs)
    (also (unit_judged (length gs) P g a.0) (fleet_good gs (with_unit P g) a.1))

-- ---- the lines before them

pub periods_judged : (T : ℕ) → Between 1 T 48 → judge periods_due (ended (plain_line periods_key (T ∷ []))) ≡ good (units_due T)
periods_judged T b = plain_judged periods_key 1 1 48 (T ∷ []) (omega arith) refl (b, tt) periods_due (λ vs. units_due (get_or vs 0 0)) refl refl

pub units_judged : (T I : ℕ) → Between 1 I 32 → judge (units_due T) (ended (plain_line units_key (I ∷ []))) ≡ good (demand_due T I)
units_judged T I b = plain_judged units_key 1 1 32 (I ∷ []) (omega arith) refl (b, tt) (units_due T) (λ vs. demand_due T (get_or vs 0 0)) refl refl

module _ (T I : ℕ) (some_periods : 0 < T) where
  pub demand_judged : (D : List ℕ) → length D ≡ T → All GoodLoad D → judge (demand_due T I) (ended (plain_line demand_key D)) ≡ good (spare_due T I D)
  demand_judged D n b = plain_judged demand_key T 0 320000 D some_periods n b (demand_due T I) (spare_due T I) refl refl

  pub spare_judged : (D R : List ℕ) → length R ≡ T → All GoodLoad R → judge (spare_due T I D) (ended (plain_line spare_key R)) ≡ good (fleet_due I (no_units T D R))
  spare_judged D R n b = plain_judged spare_key T 0 320000 R some_periods n b (spare_due T I D) (λ vs. fleet_due I (no_units T D vs)) refl refl

-- ---- the whole

pub lines_good : (P : Instance) → WellFormed P → AllPassed tests next_due end P periods_due (map ended (lines_after P))
unfolding lines_after
lines_good P W =
    let T = P.periods in
    let I = length P.units in
    let h : 0 < T = W.periods_in.0 in
    record {
      last = nothing_due P;
      passed =
          also (periods_judged T W.periods_in)
          (also (units_judged T I W.units_in)
          (also (demand_judged T I h P.demand W.demand_long W.demand_in)
          (also (spare_judged T I h P.demand P.spare W.spare_long W.spare_in)
          (fleet_good P.units (no_units T P.demand P.spare) W.units_good))));
      ends = refl;
    }
