-- Lines that are all good, each at its place, are those of the problem that they give, and it is well-formed. They are taken off one by one.
use Prim.Native.Nat.{ℕ, zero, suc}
use native.Mathlib.Omega.{arith}
use mathlib.Core.Path.{◌≡◌, refl, sym, ap, subst, ◌∙◌}
use mathlib.Core.Bool.{not}
use mathlib.Core.List.{List, [], ◌∷◌, ◌++◌, map, append_assoc, append-nil}
use mathlib.Core.Option.{none, some}
use lib.ListN.{length, get_or}
use borrow.Author.Tests.{not-false}
use Rattle.model.specs.declared.generator.Generator.{Generator}
use Rattle.model.specs.Instance.{Instance}
use Rattle.model.specs.Ranges.{Between, All, GoodLoad, GoodUnit, WellFormed, ordered}
use Rattle.text.specs.Lines.{Line, ended, is_line, end_problem}
use Rattle.text.specs.Forms.{numbers_of}
use Rattle.text.specs.Rendering.{plain_line}
use Rattle.text.specs.Tests.{◌if◌, None, Passed, none_yet, one_more, AllPassed}
use Rattle.text.proofs.Words.{word_is}
use Rattle.text.proofs.Plain.{plain_passed, one_value}
use Rattle.text.proofs.Verdicts.{form_passes}
use Rattle.problem.specs.Units.{unit_line, unit_of, unit_form}
use Rattle.problem.specs.Rendering.{lines_after, periods_key, units_key, demand_key, spare_key}
use Rattle.problem.specs.Course.{Due, periods_due, units_due, demand_due, spare_due, unit_due, end_due, nothing_due, fleet_due, no_units, with_unit, tests, next_due, end}
use Rattle.problem.specs.Refusals.{periods_form, units_form, demand_form, spare_form}
use Rattle.problem.proofs.UnitLines.{unit_line_was}
use Rattle.problem.proofs.PlainLines.{between_all}
use Rattle.problem.proofs.Rendered.{having, with_units}

-- ---- one line off

-- where a line is due, one stands there that passes, and what is due after it is met by the rest
pub record Taken (P : Instance) (s : Due) (ls : List Line) : Type 0 where
  pub first : Line
  pub rest : List Line
  pub parts : ls ≡ first ∷ rest
  pub passes : None (tests s first)
  pub after : AllPassed tests next_due end P (next_due s first) rest

take_line : (P : Instance) (s : Due) (ls : List Line) → end s ≡ none → AllPassed tests next_due end P s ls → Taken P s ls
take_line P s ls e a = go ls a.last a.passed a.ends
  where
    go : (ls : List Line) (t : Due) → Passed tests next_due s ls t → end t ≡ some P → Taken P s ls
    go [] t none_yet q = absurd (let z : ◌≡◌ {A = ℕ} 0 1 = cc in omega arith)
    go (x ∷ ls) t (one_more n d g) q = record {
      first = x;
      rest = ls;
      parts = refl;
      passes = n;
      after = subst (λ (d : Due). AllPassed tests next_due end P d ls) (sym d) (record { last = t; passed = g; ends = q });
    }

-- nothing stands where nothing is due
take_none : (P Q : Instance) (ls : List Line) → AllPassed tests next_due end P (nothing_due Q) ls → (ls ≡ []) × (Q ≡ P)
take_none P Q ls a = go ls a.last a.passed a.ends
  where
    go : (ls : List Line) (t : Due) → Passed tests next_due (nothing_due Q) ls t → end t ≡ some P → (ls ≡ []) × (Q ≡ P)
    go [] t none_yet q = (refl, cc)
    go (x ∷ ls) t (one_more n d g) q = absurd (let p = n.0 in let z : ◌≡◌ {A = ℕ} 0 1 = cc in omega arith)

-- ---- the unit lines and the end line

-- n good units follow those of Q, and with them it is P
pub record IsFleet (n : ℕ) (Q P : Instance) (ls : List Line) : Type 0 where
  pub units : List Generator
  pub count : length units ≡ n
  pub all_good : All GoodUnit units
  pub whole : P ≡ with_units Q units
  pub lines : ls ≡ map ended (map unit_line units ++ (end_problem ∷ []))

pub fleet_was : (n : ℕ) (Q P : Instance) (ls : List Line) → AllPassed tests next_due end P (fleet_due n Q) ls → IsFleet n Q P ls
fleet_was zero Q P ls a =
    let t = take_line P (end_due Q) ls refl a in
    let e = word_is end_problem t.first (not-false (is_line end_problem t.first) t.passes.0) in
    let r = take_none P Q t.rest t.after in
    record {
      units = [];
      count = refl;
      all_good = tt;
      whole = sym r.1 ∙ ap (having Q) (sym (append-nil Q.units));
      lines = t.parts ∙ (λ i. e i ∷ r.0 i);
    }
fleet_was (suc n) Q P ls a =
    let t = take_line P (unit_due n Q) ls refl a in
    let l = t.first in
    let g = (form_passes unit_form l (15 if not (ordered (unit_of l)) ∷ [])).0 t.passes in
    let u = unit_line_was l g.0 (not-false (ordered (unit_of l)) g.1.0) in
    let f = fleet_was n (with_unit Q (unit_of l)) P t.rest t.after in
    record {
      units = unit_of l ∷ f.units;
      count = ap suc f.count;
      all_good = (u.good, f.all_good);
      whole = f.whole ∙ ap (having Q) (append_assoc Q.units (unit_of l ∷ []) f.units);
      lines = t.parts ∙ (λ i. u.line i ∷ f.lines i);
    }

-- ---- the lines before them, from the last to the first

-- from the spare line on, after T, I and the demand D
record FromSpare (T I : ℕ) (D : List ℕ) (P : Instance) (ls : List Line) : Type 0 where
  periods_are : P.periods ≡ T
  units_are : length P.units ≡ I
  demand_is : P.demand ≡ D
  spare_long : length P.spare ≡ P.periods
  spare_in : All GoodLoad P.spare
  units_good : All GoodUnit P.units
  lines : ls ≡ ended (plain_line spare_key P.spare) ∷ map ended (map unit_line P.units ++ (end_problem ∷ []))

spare_was : (T I : ℕ) (D : List ℕ) (P : Instance) (ls : List Line) → AllPassed tests next_due end P (spare_due T I D) ls → FromSpare T I D P ls
spare_was T I D P ls a =
    let t = take_line P (spare_due T I D) ls refl a in
    let r = plain_passed spare_key T 0 320000 t.first [] t.passes in
    let F = fleet_was I (no_units T D (numbers_of (spare_form T) t.first)) P t.rest t.after in
    subst (λ (Q : Instance). FromSpare T I D Q ls) (sym F.whole) (record {
      periods_are = refl;
      units_are = F.count;
      demand_is = refl;
      spare_long = r.count;
      spare_in = between_all 0 320000 (numbers_of (spare_form T) t.first) r.range;
      units_good = F.all_good;
      lines = t.parts ∙ (λ i. r.line i ∷ F.lines i);
    })

-- from the demand line on, after T and I
record FromDemand (T I : ℕ) (P : Instance) (ls : List Line) : Type 0 where
  rest : List Line
  demand_long : length P.demand ≡ T
  demand_in : All GoodLoad P.demand
  lines : ls ≡ ended (plain_line demand_key P.demand) ∷ rest
  after : FromSpare T I P.demand P rest

demand_was : (T I : ℕ) (P : Instance) (ls : List Line) → AllPassed tests next_due end P (demand_due T I) ls → FromDemand T I P ls
demand_was T I P ls a =
    let t = take_line P (demand_due T I) ls refl a in
    let d = plain_passed demand_key T 0 320000 t.first [] t.passes in
    let s = spare_was T I (numbers_of (demand_form T) t.first) P t.rest t.after in
    let e = sym s.demand_is in
    record {
      rest = t.rest;
      demand_long = ap length s.demand_is ∙ d.count;
      demand_in = subst (λ (D : List ℕ). All GoodLoad D) e (between_all 0 320000 (numbers_of (demand_form T) t.first) d.range);
      lines = t.parts ∙ ap (λ (l : Line). l ∷ t.rest) (d.line ∙ ap (λ (D : List ℕ). ended (plain_line demand_key D)) e);
      after = subst (λ (D : List ℕ). FromSpare T I D P t.rest) e s;
    }

-- from the units line on, after T
record FromUnits (T : ℕ) (P : Instance) (ls : List Line) : Type 0 where
  rest : List Line
  units_in : Between 1 (length P.units) 32
  lines : ls ≡ ended (plain_line units_key (length P.units ∷ [])) ∷ rest
  after : FromDemand T (length P.units) P rest

units_was : (T : ℕ) (P : Instance) (ls : List Line) → AllPassed tests next_due end P (units_due T) ls → FromUnits T P ls
units_was T P ls a =
    let t = take_line P (units_due T) ls refl a in
    let u = plain_passed units_key 1 1 32 t.first [] t.passes in
    let one = one_value (numbers_of units_form t.first) u.count in
    let d = demand_was T (get_or (numbers_of units_form t.first) 0 0) P t.rest t.after in
    let e = sym d.after.units_are in
    record {
      rest = t.rest;
      units_in = subst (λ (n : ℕ). Between 1 n 32) e (u.range 0 (omega (arith, u.count)));
      lines = t.parts ∙ ap (λ (l : Line). l ∷ t.rest) (u.line ∙ ap (λ (vs : List ℕ). ended (plain_line units_key vs)) one ∙ ap (λ (n : ℕ). ended (plain_line units_key (n ∷ []))) e);
      after = subst (λ (n : ℕ). FromDemand T n P t.rest) e d;
    }

-- ---- the whole

pub record IsLines (P : Instance) (ls : List Line) : Type 0 where
  pub lines : ls ≡ map ended (lines_after P)
  pub well_formed : WellFormed P

followed : {l : Line} {ls rest more : List Line} → ls ≡ l ∷ rest → rest ≡ more → ls ≡ l ∷ more
followed {l} p q = p ∙ ap (λ (x : List Line). l ∷ x) q

pub lines_were : (P : Instance) (ls : List Line) → AllPassed tests next_due end P periods_due ls → IsLines P ls
unfolding lines_after
lines_were P ls a =
    let t = take_line P periods_due ls refl a in
    let p = plain_passed periods_key 1 1 48 t.first [] t.passes in
    let one = one_value (numbers_of periods_form t.first) p.count in
    let u = units_was (get_or (numbers_of periods_form t.first) 0 0) P t.rest t.after in
    let d = u.after in
    let s = d.after in
    let e = sym s.periods_are in
    let first : t.first ≡ ended (plain_line periods_key (P.periods ∷ [])) = p.line ∙ ap (λ (vs : List ℕ). ended (plain_line periods_key vs)) one ∙ ap (λ (n : ℕ). ended (plain_line periods_key (n ∷ []))) e in
    record {
      lines = t.parts ∙ (λ i. first i ∷ followed u.lines (followed d.lines s.lines) i);
      well_formed = record {
        periods_in = subst (λ (n : ℕ). Between 1 n 48) e (p.range 0 (omega (arith, p.count)));
        units_in = u.units_in;
        demand_long = d.demand_long ∙ e;
        demand_in = d.demand_in;
        spare_long = s.spare_long;
        spare_in = s.spare_in;
        units_good = s.units_good;
      };
    }
