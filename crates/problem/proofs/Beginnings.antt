-- Lines that begin the text of a well-formed problem pass, and what is then due is the line that comes next in that text. They are taken off one by one.
use Prim.Native.Nat.{ℕ, suc, ◌+◌, ◌<◌}
use native.Mathlib.Omega.{arith}
use mathlib.Core.Path.{◌≡◌, refl, sym, subst}
use mathlib.Core.List.{List, [], ◌∷◌, ◌++◌, map}
use lib.ListN.{length}
use Rattle.model.specs.declared.generator.Generator.{Generator}
use Rattle.model.specs.Instance.{Instance}
use Rattle.model.specs.Ranges.{All, GoodUnit, WellFormed}
use Rattle.text.specs.Lines.{Line, ended, end_problem}
use Rattle.text.specs.Rendering.{plain_line}
use Rattle.text.specs.Course.{good}
use Rattle.text.specs.Tests.{Passed, none_yet}
use Rattle.text.proofs.Words.{same_self}
use Rattle.problem.specs.Units.{unit_line}
use Rattle.problem.specs.Rendering.{lines_after, periods_key, units_key, demand_key, spare_key}
use Rattle.problem.specs.Course.{Due, periods_due, units_due, demand_due, spare_due, unit_due, end_due, nothing_due, fleet_due, no_units, with_unit, tests, next_due, judge}
use Rattle.problem.proofs.Ends.{judge_end}
use Rattle.problem.proofs.Rendered.{also, unit_judged, periods_judged, units_judged, demand_judged, spare_judged}

-- ---- what is due at a line of the text of P

pub data Stands (P : Instance) : ℕ → Due → Type 0 where
  at_periods : Stands P 0 periods_due
  at_units : (T : ℕ) → Stands P 1 (units_due T)
  at_demand : (I : ℕ) → Stands P 2 (demand_due P.periods I)
  at_spare : (I : ℕ) (D : List ℕ) → Stands P 3 (spare_due P.periods I D)
  at_unit : (u n : ℕ) (Q : Instance) → u < length P.units → Stands P (4 + u) (unit_due n Q)
  at_end : (Q : Instance) → Stands P (4 + length P.units) (end_due Q)
  at_nothing : (Q : Instance) → Stands P (5 + length P.units) (nothing_due Q)

-- ---- lines that begin its text pass and end there

-- these lines pass from s, where line k of P is due, to where the line after them is
pub record Reached (P : Instance) (k : ℕ) (s : Due) (ls : List Line) : Type 0 where
  pub place : Due
  pub stands : Stands P (k + length ls) place
  pub passed : Passed tests next_due s ls place

module _ (P : Instance) where
  here : (k : ℕ) (s : Due) → Stands P k s → Reached P k s []
  here k s h = record { place = s; stands = subst (λ (n : ℕ). Stands P n s) (omega arith) h; passed = none_yet }

  one_on : (k j : ℕ) → j ≡ suc k → (s t : Due) (x l : Line) (ls : List Line) → x ≡ l → judge s l ≡ good t → Reached P j t ls → Reached P k s (x ∷ ls)
  one_on k j next s t x l ls e g r = record {
    place = r.place;
    stands = subst (λ (n : ℕ). Stands P n r.place) (omega (arith, next)) r.stands;
    passed = subst (λ (y : Line). Passed tests next_due s (y ∷ ls) r.place) (sym e) (also g r.passed);
  }

  from_fleet : (gs : List Generator) (u : ℕ) (Q : Instance) → u + length gs ≡ length P.units → All GoodUnit gs → (ls more : List Line)
      → ls ++ more ≡ map ended (map unit_line gs ++ (end_problem ∷ [])) → Reached P (4 + u) (fleet_due (length gs) Q) ls
  from_fleet [] u Q c a [] more e = here (4 + u) (end_due Q) (subst (λ (n : ℕ). Stands P n (end_due Q)) (omega (arith, c)) (at_end Q))
  from_fleet [] u Q c a (x ∷ []) more e =
      let f : x ≡ ended end_problem = cc in
      one_on (4 + u) (5 + u) (omega arith) (end_due Q) (nothing_due Q) x (ended end_problem) [] f (judge_end Q (ended end_problem) (same_self end_problem))
      (here (5 + u) (nothing_due Q) (subst (λ (n : ℕ). Stands P n (nothing_due Q)) (omega (arith, c)) (at_nothing Q)))
  from_fleet [] u Q c a (x ∷ y ∷ ls) more e = absurd (let z : ◌≡◌ {A = ℕ} 0 1 = cc in omega arith)
  from_fleet (g ∷ gs) u Q c a [] more e = here (4 + u) (unit_due (length gs) Q) (at_unit u (length gs) Q (omega (arith, c)))
  from_fleet (g ∷ gs) u Q c a (x ∷ ls) more e =
      let f : x ≡ ended (unit_line g) = cc in
      let h : ls ++ more ≡ map ended (map unit_line gs ++ (end_problem ∷ [])) = cc in
      one_on (4 + u) (4 + suc u) (omega arith) (unit_due (length gs) Q) (fleet_due (length gs) (with_unit Q g)) x (ended (unit_line g)) ls f (unit_judged (length gs) Q g a.0)
      (from_fleet gs (suc u) (with_unit Q g) (omega (arith, c)) a.1 ls more h)

  module _ (W : WellFormed P) where
    -- after T and I, from the spare line on, from the demand line on, and so back to the first
    abbrev fleet_lines : List (List ℕ)
    fleet_lines = map unit_line P.units ++ (end_problem ∷ [])

    from_spare : (ls more : List Line) → ls ++ more ≡ map ended (plain_line spare_key P.spare ∷ fleet_lines)
        → Reached P 3 (spare_due P.periods (length P.units) P.demand) ls
    from_spare [] more e = here 3 _ (at_spare _ _)
    from_spare (x ∷ ls) more e =
        let f : x ≡ ended (plain_line spare_key P.spare) = cc in
        let h : ls ++ more ≡ map ended fleet_lines = cc in
        one_on 3 4 refl _ _ x _ ls f (spare_judged P.periods (length P.units) W.periods_in.0 P.demand P.spare W.spare_long W.spare_in)
        (from_fleet P.units 0 (no_units P.periods P.demand P.spare) (omega arith) W.units_good ls more h)

    from_demand : (ls more : List Line) → ls ++ more ≡ map ended (plain_line demand_key P.demand ∷ plain_line spare_key P.spare ∷ fleet_lines)
        → Reached P 2 (demand_due P.periods (length P.units)) ls
    from_demand [] more e = here 2 _ (at_demand _)
    from_demand (x ∷ ls) more e =
        let f : x ≡ ended (plain_line demand_key P.demand) = cc in
        let h : ls ++ more ≡ map ended (plain_line spare_key P.spare ∷ fleet_lines) = cc in
        one_on 2 3 refl _ _ x _ ls f (demand_judged P.periods (length P.units) W.periods_in.0 P.demand W.demand_long W.demand_in)
        (from_spare ls more h)

    from_units : (ls more : List Line)
        → ls ++ more ≡ map ended (plain_line units_key (length P.units ∷ []) ∷ plain_line demand_key P.demand ∷ plain_line spare_key P.spare ∷ fleet_lines)
        → Reached P 1 (units_due P.periods) ls
    from_units [] more e = here 1 _ (at_units _)
    from_units (x ∷ ls) more e =
        let f : x ≡ ended (plain_line units_key (length P.units ∷ [])) = cc in
        let h : ls ++ more ≡ map ended (plain_line demand_key P.demand ∷ plain_line spare_key P.spare ∷ fleet_lines) = cc in
        one_on 1 2 refl _ _ x _ ls f (units_judged P.periods (length P.units) W.units_in) (from_demand ls more h)

    pub from_first : (ls more : List Line) → ls ++ more ≡ map ended (lines_after P) → Reached P 0 periods_due ls
    unfolding lines_after
    from_first [] more e = here 0 _ at_periods
    from_first (x ∷ ls) more e =
        let f : x ≡ ended (plain_line periods_key (P.periods ∷ [])) = cc in
        let h : ls ++ more
        ≡ map ended (plain_line units_key (length P.units ∷ []) ∷ plain_line demand_key P.demand ∷ plain_line spare_key P.spare ∷ fleet_lines) = cc in
        one_on 0 1 refl _ _ x _ ls f (periods_judged P.periods W.periods_in) (from_units ls more h)
