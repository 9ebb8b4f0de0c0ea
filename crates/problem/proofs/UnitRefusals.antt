-- Which number refuses a unit line that shows values: 14 by their count, fifteen being due; 13 by their ranges, and 15 by their order, p0's among them.
use Prim.Native.Nat.{ℕ, ◌+◌}
use native.Mathlib.Omega.{arith}
use mathlib.Core.Path.{◌≡◌, refl, sym, ap, subst, ◌∙◌}
use mathlib.Core.Bool.{Bool}
use mathlib.Core.List.{List, ◌∷◌, ◌++◌}
use mathlib.Core.Logic.{◌↔◌}
use lib.ListN.{length}
use Rattle.model.specs.declared.generator.Generator.{Generator}
use Rattle.model.specs.Instance.{Instance}
use Rattle.model.specs.Ranges.{InRange, Ordered, WellFormed}
use Rattle.text.specs.Lines.{Line, ended, due, later, lines_of, end_problem}
use Rattle.text.specs.Forms.{Form}
use Rattle.text.specs.LineRefused.{Renders, InRanges, Unfit, shows_none, miscounted, out_of_range, Beginning, Refuses, at_numbers, at_last, behind_last}
use Rattle.text.proofs.WhichLine.{same_cut}
use Rattle.problem.specs.Units.{unit_numbers, generator, unit_line, unit_lows, unit_highs, unit_form, unit_of}
use Rattle.problem.specs.Rendering.{lines_after}
use Rattle.problem.specs.Refusals.{FormAt, Breaks, unfit, disordered, RefusedAt, InLimits}
use Rattle.problem.proofs.UnitLines.{numbers_generator, unit_line_of}

-- ---- one line

-- values in the ranges of a unit line are the numbers of a generator in range
in_ranges : (g : Generator) → InRanges (unit_numbers g) unit_lows unit_highs → InRange g
in_ranges g h =
    let b = h.1.1 in
    let c = b.1.1 in
    let pL = c.1.1 in
    let pU = pL.1.1 in
    let TU = pU.1.1 in
    let TD = TU.1.1 in
    let since = TD.1.1 in
    let DR = since.1.1 in
    let UR = DR.1.1 in
    let Hsc = UR.1.1 in
    let Csc = Hsc.1.1 in
    let Tcold = Csc.1.1 in
    let Dc = Tcold.1.1 in
    let p0 = Dc.1.1 in
    record {
      a_in = (h.0, h.1.0);
      b_in = (b.0, b.1.0);
      c_in = (c.0, c.1.0);
      pL_in = (pL.0, pL.1.0);
      pU_in = (pU.0, pU.1.0);
      TU_in = (TU.0, TU.1.0);
      TD_in = (TD.0, TD.1.0);
      since_in = (since.0, since.1.0);
      DR_in = (DR.0, DR.1.0);
      UR_in = (UR.0, UR.1.0);
      Hsc_in = (Hsc.0, Hsc.1.0);
      Csc_in = (Csc.0, Csc.1.0);
      Tcold_in = (Tcold.0, Tcold.1.0);
      Dc_in = (Dc.0, Dc.1.0);
      p0_in = (p0.0, p0.1.0);
    }

-- the generator of a line is one
one_generator : (g h : Generator) → InRange g → InRange h → ended (unit_line g) ≡ ended (unit_line h) → g ≡ h
one_generator g h R S e = sym (unit_line_of g R) ∙ ap unit_of e ∙ unit_line_of h S

unfit_below_15 : {f : Form} {l : Line} {n : ℕ} → Unfit f l n → n ≡ 15 → ⊥
unfit_below_15 (shows_none never) e = omega (arith, e)
unfit_below_15 (miscounted neg vs r never) e = omega (arith, e)
unfit_below_15 (out_of_range neg vs r c never) e = omega (arith, e)

-- 15 refuses only a unit line whose numbers are not ordered
breaks_order : (P : Instance) (k n : ℕ) (l : Line) → Breaks P k l n → n ≡ 15 → (g : Generator) → InRange g → l ≡ ended (unit_line g) → Ordered g → ⊥
breaks_order P k n l (unfit f F u) e g R same O = unfit_below_15 u e
breaks_order P k n l (disordered F h line S N) e g R same O = N (subst Ordered (one_generator g h R S (sym same ∙ line)) O)

module _ (P : Instance) (k : ℕ) (F : FormAt P k unit_form) where
  -- any count of values but fifteen, whatever the values are
  pub count_refused : (l : Line) (neg : Bool) (vs : List ℕ) → Renders unit_form l neg vs → (length vs ≡ 15 → ⊥) → Breaks P k l 14
  count_refused l neg vs r n = unfit unit_form F (miscounted neg vs r n)

  -- of fifteen values: 13 where they are not in range
  pub range_refused : (l : Line) (neg : Bool) (vs : List ℕ) → Renders unit_form l neg vs → length vs ≡ 15 → (InRange (generator neg vs) → ⊥) → Breaks P k l 13
  range_refused l neg vs r c n =
      unfit unit_form F (out_of_range neg vs r c
      (λ h. n (in_ranges (generator neg vs) (subst (λ (x : List ℕ). InRanges x unit_lows unit_highs) (sym (numbers_generator neg vs c)) h))))

  -- of a line of numbers in range: 15 exactly where they are not ordered
  pub order_refused : (g : Generator) → InRange g → Breaks P k (ended (unit_line g)) 15 ↔ (Ordered g → ⊥)
  order_refused g R = (λ b. breaks_order P k 15 (ended (unit_line g)) b refl g R refl, λ n. disordered F g refl R n)

-- ---- a text, whatever stands after the line

module _ (text : List ℕ) (before rest : List Line) (x : Line) (lines : later (lines_of text) ≡ before ++ (x ∷ rest)) (P : Instance)
    (b : Beginning lines_after InLimits before P) where
  pub line_refused : (n : ℕ) → Breaks P (length before) x n → RefusedAt text n (2 + length before)
  line_refused n h = record { value = P; before = before; left = x ∷ rest; parts = lines; begins = b; place = refl; refuses = at_numbers h }

  -- 15 exactly where its numbers are in range and not ordered
  pub fifteen_is : (g : Generator) → x ≡ ended (unit_line g) → InRange g → FormAt P (length before) unit_form
      → RefusedAt text 15 (2 + length before) ↔ (Ordered g → ⊥)
  fifteen_is g e R F = (
    λ r. ordered_not r.value (length r.before) r.left
        (same_cut r.before before r.left (x ∷ rest) (omega (arith, r.place)) (sym r.parts ∙ lines)).1 15 r.refuses refl,
    λ n. line_refused 15 (disordered F g e R n),
  )
    where
      ordered_not : (Q : Instance) (k : ℕ) (left : List Line) → left ≡ x ∷ rest → (n : ℕ) → Refuses lines_after end_problem (λ P k. WellFormed P) Breaks Q k left n → n ≡ 15
          → Ordered g → ⊥
      ordered_not Q k left q n (at_numbers h) f = breaks_order Q k n (due left) h f g R (ap due q ∙ e)
      ordered_not Q k left q n (at_last p h) f = λ O. omega (arith, f)
      ordered_not Q k left q n (behind_last p h) f = λ O. omega (arith, f)
