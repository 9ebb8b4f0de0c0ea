-- The lines of a problem's text that pass are those that begin the text of some well-formed problem, and the first test that holds of a line there is the number
-- that refuses it, by renderings: so the law of text/proofs/WhichLine.antt holds of problems.
use Prim.Native.Nat.{ℕ, zero, suc, ◌+◌, ◌≤◌, ◌<◌}
use native.Mathlib.Omega.{arith}
use mathlib.Core.Path.{◌≡◌, refl, sym, ap, subst, ◌∙◌}
use mathlib.Core.Bool.{Bool, true, false, not}
use mathlib.Core.List.{List, [], ◌∷◌, ◌++◌, map}
use mathlib.Core.Logic.{◌↔◌, ◌⊎◌, inl, inr}
use mathlib.Core.Option.{none}
use lib.ListN.{length, length-append}
use borrow.Author.Tests.{not-true}
use Rattle.model.specs.declared.generator.Generator.{Generator}
use Rattle.model.specs.Instance.{Instance}
use Rattle.model.specs.Ranges.{Ordered, ordered}
use Rattle.text.specs.Lines.{Line, ended, later, lines_of, end_problem}
use Rattle.text.specs.Forms.{Form, form_tests}
use Rattle.text.specs.Tests.{Test, ◌if◌, FirstTrue, this, after, None, tests_before, StopsAt}
use Rattle.text.specs.LineRefused.{Unfit, Beginning, Refuses}
use Rattle.text.proofs.Courses as courses
use Rattle.text.proofs.Tests.{first_every}
use Rattle.text.proofs.Verdicts.{form_passes}
use Rattle.text.proofs.Unfit.{Fits, fits_passes, passes_fits, true_not_false}
use Rattle.text.proofs.WhichLine as which_line
use Rattle.text.proofs.WhichLine.{Faithful}
use Rattle.problem.specs.Units.{unit_form, unit_line, unit_of}
use Rattle.problem.specs.Rendering.{lines_after}
use Rattle.problem.specs.Course.{Due, periods_due, units_due, demand_due, spare_due, unit_due, end_due, nothing_due, tests, next_due, end}
use Rattle.problem.specs.Refusals as refusals
use Rattle.problem.specs.Refusals.{FormAt, periods, units, demand, spare, unit, Breaks, unfit, disordered, InLimits, periods_form, units_form, demand_form, spare_form}
use Rattle.problem.proofs.WasRendered.{lines_were}
use Rattle.problem.proofs.UnitLines.{unit_line_good, unit_line_of, unit_line_formed, ordered_of, of_ordered}
use Rattle.problem.proofs.Completed.{completed}
use Rattle.problem.proofs.Beginnings.{Stands, at_periods, at_units, at_demand, at_spare, at_unit, at_end, at_nothing, from_first}

-- ---- the numbers there

-- the lines of a text are four, the unit lines and the last
lines_long : (P : Instance) → length (lines_after P) ≡ 5 + length P.units
unfolding lines_after
lines_long P = omega (arith, length-append (map unit_line P.units) (end_problem ∷ []), mapped P.units)
  where
    mapped : (gs : List Generator) → length (map unit_line gs) ≡ length gs
    mapped [] = refl
    mapped (g ∷ gs) = ap suc (mapped gs)

module _ (P : Instance) where
  -- one form is due at a place, and none from the last line on
  abbrev form_at : ℕ → Form
  form_at zero = periods_form
  form_at (suc zero) = units_form
  form_at (suc (suc zero)) = demand_form P.periods
  form_at (suc (suc (suc zero))) = spare_form P.periods
  form_at (suc (suc (suc (suc u)))) = unit_form

  one_form : {k : ℕ} {f : Form} → FormAt P k f → f ≡ form_at k
  one_form periods = refl
  one_form units = refl
  one_form demand = refl
  one_form spare = refl
  one_form (unit u h) = ap form_at (let e : suc (suc (suc (suc u))) ≡ 4 + u = omega arith in e)

  before_last : {k : ℕ} {f : Form} → FormAt P k f → k < 4 + length P.units
  before_last periods = omega arith
  before_last units = omega arith
  before_last demand = omega arith
  before_last spare = omega arith
  before_last (unit u h) = omega (arith, h)

  -- a line that is no unit line has no tests but 12, 14, 13
  breaks_plain : (k : ℕ) (f : Form) → FormAt P k f → f.minus ≡ 0 → (n : ℕ) (l : Line)
      → Breaks P k l n ↔ (Unfit f l n ⊎ (((neg : Bool) × (vs : List ℕ) × Fits f l neg vs) × FirstTrue n []))
  breaks_plain k f F unsigned n l = (forth n, back)
    where
      forth : (n : ℕ) → Breaks P k l n → Unfit f l n ⊎ (((neg : Bool) × (vs : List ℕ) × Fits f l neg vs) × FirstTrue n [])
      forth n (unfit g G u) = inl (subst (λ (h : Form). Unfit h l n) (one_form G ∙ sym (one_form F)) u)
      forth n (disordered G g e R O) = absurd (omega (arith, unsigned, ap (λ (h : Form). h.minus) (one_form F ∙ sym (one_form G))))

      back : Unfit f l n ⊎ (((neg : Bool) × (vs : List ℕ) × Fits f l neg vs) × FirstTrue n []) → Breaks P k l n
      back (inl u) = unfit f F u
      back (inr (t, h)) = absurd (first_every (λ _. ⊥) n [] tt h)

  -- a unit line has 15 after them
  abbrev order : Line → List Test
  order l = 15 if not (ordered (unit_of l)) ∷ []

  breaks_unit : (k : ℕ) → FormAt P k unit_form → (n : ℕ) (l : Line)
      → Breaks P k l n ↔ (Unfit unit_form l n ⊎ (((neg : Bool) × (vs : List ℕ) × Fits unit_form l neg vs) × FirstTrue n (order l)))
  breaks_unit k F n l = (forth n, back)
    where
      unordered : (g : Generator) → (Ordered g → ⊥) → (b : Bool) → ordered g ≡ b → ordered g ≡ false
      unordered g O true e = absurd (O (ordered_of g e))
      unordered g O false e = e

      forth : (n : ℕ) → Breaks P k l n → Unfit unit_form l n ⊎ (((neg : Bool) × (vs : List ℕ) × Fits unit_form l neg vs) × FirstTrue n (order l))
      forth n (unfit g G u) = inl (subst (λ (h : Form). Unfit h l n) (one_form G ∙ sym (one_form F)) u)
      forth n (disordered G g e R O) = inr (
        passes_fits unit_form l (subst (λ (x : Line). None (form_tests unit_form x [])) (sym e) ((form_passes unit_form (ended (unit_line g)) []).1 (unit_line_good g R, tt))),
        this (ap not (ap ordered (ap unit_of e ∙ unit_line_of g R) ∙ unordered g O (ordered g) refl)),
      )

      disorder : (n : ℕ) → (neg : Bool) (vs : List ℕ) → Fits unit_form l neg vs → FirstTrue n (order l) → Breaks P k l n
      disorder n neg vs t (this e) =
          let u = unit_line_formed l ((form_passes unit_form l []).0 (fits_passes unit_form l neg vs t)).0 in
          disordered F (unit_of l) u.0 u.1 (λ O. true_not_false (ordered (unit_of l)) (of_ordered (unit_of l) O) (not-true (ordered (unit_of l)) e))
      disorder n neg vs t (after e h) = absurd (first_every (λ _. ⊥) n [] tt h)

      back : Unfit unit_form l n ⊎ (((neg : Bool) × (vs : List ℕ) × Fits unit_form l neg vs) × FirstTrue n (order l)) → Breaks P k l n
      back (inl u) = unfit unit_form F u
      back (inr (t, h)) = disorder n t.0 t.1 t.2 h

  -- from the last line on no line of numbers is due
  no_numbers : (k : ℕ) → 4 + length P.units ≤ k → (n : ℕ) (l : Line) → Breaks P k l n → ⊥
  no_numbers k h n l (unfit f F u) = omega (arith, h, before_last F)
  no_numbers k h n l (disordered F g e R O) = omega (arith, h, before_last F)

  abbrev Broken : ℕ → List Line → ℕ → Type 0
  Broken k left n = Refuses lines_after end_problem InLimits Breaks P k left n

  module _ (left : List Line) (n : ℕ) where
    at_form : (k : ℕ) (s : Due) (f : Form) → FormAt P k f → f.minus ≡ 0 → end s ≡ none → ((l : Line) → tests s l ≡ form_tests f l [])
        → FirstTrue n (tests_before tests next_due end s left) ↔ Broken k left n
    at_form k s f F unsigned no_end same =
        which_line.numbers_refuse tests next_due end lines_after end_problem InLimits Breaks P k s left n f (λ l. []) no_end same
        (omega (arith, before_last F, lines_long P)) (breaks_plain k f F unsigned n)

    refuses : (k : ℕ) (s : Due) → Stands P k s → FirstTrue n (tests_before tests next_due end s left) ↔ Broken k left n
    refuses k s at_periods = at_form 0 periods_due periods_form periods refl refl (λ l. refl)
    refuses k s (at_units T) = at_form 1 (units_due T) units_form units refl refl (λ l. refl)
    refuses k s (at_demand I) = at_form 2 (demand_due P.periods I) (demand_form P.periods) demand refl refl (λ l. refl)
    refuses k s (at_spare I D) = at_form 3 (spare_due P.periods I D) (spare_form P.periods) spare refl refl (λ l. refl)
    refuses k s (at_unit u m Q h) =
        which_line.numbers_refuse tests next_due end lines_after end_problem InLimits Breaks P (4 + u) (unit_due m Q) left n unit_form order refl (λ l. refl)
        (omega (arith, h, lines_long P)) (breaks_unit (4 + u) (unit u h) n)
    refuses k s (at_end Q) =
        which_line.last_refuses tests next_due end lines_after end_problem InLimits Breaks P (4 + length P.units) (end_due Q) left n refl (λ l. refl)
        (omega (arith, lines_long P)) (no_numbers (4 + length P.units) (omega arith) n)
    refuses k s (at_nothing Q) =
        which_line.end_refuses tests next_due end lines_after end_problem InLimits Breaks P (5 + length P.units) (nothing_due Q) left n Q refl (λ l. refl)
        (omega (arith, lines_long P)) (no_numbers (5 + length P.units) (omega arith) n)

-- ---- the law

follows : Faithful tests next_due end lines_after end_problem InLimits Breaks periods_due Stands
follows = record {
  passes = λ P ls b. let r = from_first P b.within ls b.more b.whole in (r.place, subst (λ (k : ℕ). Stands P k r.place) (omega arith) r.stands, r.passed);
  begins = λ s ls p.
      let c = completed s ls p in
      let w = lines_were c.gives (ls ++ c.lines) (record {
        last = c.all.last;
        passed = courses.passed_both tests next_due end ls c.lines p c.all.passed;
        ends = c.all.ends;
      }) in
      (c.gives, record { more = c.lines; whole = w.lines; within = w.well_formed });
  refuses = λ P k s h left n. refuses P left n k s h;
}

module _ (n m : ℕ) (text : List ℕ) where
  -- as the line is judged, and as texts are written
  pub refused_line_is : StopsAt tests next_due end n m 2 periods_due (later (lines_of text)) ↔ refusals.RefusedAt text n m
  refused_line_is = which_line.line_refused_is tests next_due end lines_after end_problem InLimits Breaks follows n m (later (lines_of text))

  -- with the refused line the lines begin the text of no well-formed problem
  pub with_it_none : (r : refusals.RefusedAt text n m) (x : Line) (rest : List Line) → r.left ≡ x ∷ rest
      → (P : Instance) → Beginning lines_after InLimits (r.before ++ (x ∷ [])) P → ⊥
  with_it_none = which_line.with_it_none tests next_due end lines_after end_problem InLimits Breaks follows n m (later (lines_of text))
