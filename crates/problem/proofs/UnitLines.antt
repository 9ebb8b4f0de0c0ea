-- A unit line that is good at its place is the line of its generator, whose numbers are in range and ordered; and the other way.
use Prim.Native.Nat.{ℕ, zero, suc, ◌+◌}
use native.Mathlib.Omega.{arith}
use mathlib.Core.Path.{◌≡◌, refl, sym, ap, ◌∙◌}
use mathlib.Core.Bool.{Bool, true, false, not, ◌&&◌}
use mathlib.Core.List.{List, [], ◌∷◌}
use lib.Dec.{leb}
use lib.ListN.{length, drop, get_or, drop_of_length-le}
use lib.Seq.{drop-cons}
use borrow.Author.Tests.{leb-true, le-leb}
use Rattle.model.specs.declared.generator.Generator.{Generator}
use Rattle.model.specs.Ranges.{Between, InRange, Ordered, GoodUnit, ordered}
use Rattle.model.proofs.Tests.{true_T, T_true}
use Rattle.model.proofs.RangeTests.{ordered_is}
use Rattle.text.specs.Lines.{Line, ended}
use Rattle.text.specs.Forms as forms
use Rattle.text.specs.Forms.{all_within, values_of, sizes, any_minus}
use Rattle.text.specs.Rendering.{rendered}
use Rattle.text.proofs.Cuts.{and_both}
use Rattle.text.proofs.Shown.{sizes_shown, all_shown_minus}
use Rattle.text.proofs.Accepted.{Fits, values_rendered, rendered_good, good_rendered}
use Rattle.problem.specs.Units.{unit_key, Tini_place, unit_numbers, generator, unit_values, unit_line, unit_lows, unit_highs, unit_form, unit_of}

-- ---- a generator and its numbers

not_not : (b : Bool) → not (not b) ≡ b
not_not true = refl
not_not false = refl

-- n numbers from place k on
abbrev from_place : ℕ → ℕ → List ℕ → List ℕ
from_place k zero vs = []
from_place k (suc n) vs = get_or vs k 0 ∷ from_place (suc k) n vs

all_from : (n k : ℕ) (vs : List ℕ) → length vs ≡ k + n → from_place k n vs ≡ drop k vs
all_from zero k vs e = sym (drop_of_length-le vs {i = k} (omega arith))
all_from (suc n) k vs e = ap (λ (l : List ℕ). get_or vs k 0 ∷ l) (all_from n (suc k) vs (omega arith)) ∙ sym (drop-cons vs k 0 (omega arith))

-- the numbers of a generator that is built from fifteen are these
pub numbers_generator : (minus : Bool) (vs : List ℕ) → length vs ≡ 15 → unit_numbers (generator minus vs) ≡ vs
numbers_generator minus vs e = all_from 15 0 vs e

-- the generator that is built from a generator's numbers and sign is that generator
pub generator_numbers : (g : Generator) → generator (not g.on) (unit_numbers g) ≡ g
generator_numbers g = λ i. record {
  a = g.a;
  b = g.b;
  c = g.c;
  pL = g.pL;
  pU = g.pU;
  TU = g.TU;
  TD = g.TD;
  on = not_not g.on i;
  since = g.since;
  DR = g.DR;
  UR = g.UR;
  Hsc = g.Hsc;
  Csc = g.Csc;
  Tcold = g.Tcold;
  Dc = g.Dc;
  p0 = g.p0;
}

-- ---- the ranges

is_within : (l x h : ℕ) (b : Bool) → (leb l x && (leb x h && b)) ≡ true → Between l x h × (b ≡ true)
is_within l x h b e =
    let p = and_both (leb l x) (leb x h && b) e in
    let q = and_both (leb x h) b p.1 in
    ((leb-true l x p.0, leb-true x h q.0), q.1)

within_is : (l x h : ℕ) (b : Bool) → Between l x h → b ≡ true → (leb l x && (leb x h && b)) ≡ true
within_is l x h b p e = simp (le-leb l x p.0, le-leb x h p.1, e)

module _ (g : Generator) where
  pub in_range_of : all_within (unit_numbers g) unit_lows unit_highs ≡ true → InRange g
  in_range_of e =
      let a = is_within 0 g.a 1000000000 _ e in
      let b = is_within 0 g.b 10000000 _ a.1 in
      let c = is_within 0 g.c 10000 _ b.1 in
      let pL = is_within 1 g.pL 10000 _ c.1 in
      let pU = is_within 1 g.pU 10000 _ pL.1 in
      let TU = is_within 1 g.TU 48 _ pU.1 in
      let TD = is_within 1 g.TD 48 _ TU.1 in
      let since = is_within 1 g.since 1000 _ TD.1 in
      let DR = is_within 1 g.DR 10000 _ since.1 in
      let UR = is_within 1 g.UR 10000 _ DR.1 in
      let Hsc = is_within 0 g.Hsc 1000000000 _ UR.1 in
      let Csc = is_within 0 g.Csc 1000000000 _ Hsc.1 in
      let Tcold = is_within 0 g.Tcold 48 _ Csc.1 in
      let Dc = is_within 0 g.Dc 1000000000 _ Tcold.1 in
      let p0 = is_within 0 g.p0 10000 _ Dc.1 in
      record {
        a_in = a.0;
        b_in = b.0;
        c_in = c.0;
        pL_in = pL.0;
        pU_in = pU.0;
        TU_in = TU.0;
        TD_in = TD.0;
        since_in = since.0;
        DR_in = DR.0;
        UR_in = UR.0;
        Hsc_in = Hsc.0;
        Csc_in = Csc.0;
        Tcold_in = Tcold.0;
        Dc_in = Dc.0;
        p0_in = p0.0;
      }

  pub of_in_range : InRange g → all_within (unit_numbers g) unit_lows unit_highs ≡ true
  of_in_range R =
      within_is 0 g.a 1000000000 _ R.a_in (within_is 0 g.b 10000000 _ R.b_in (within_is 0 g.c 10000 _ R.c_in
      (within_is 1 g.pL 10000 _ R.pL_in (within_is 1 g.pU 10000 _ R.pU_in (within_is 1 g.TU 48 _ R.TU_in
      (within_is 1 g.TD 48 _ R.TD_in (within_is 1 g.since 1000 _ R.since_in (within_is 1 g.DR 10000 _ R.DR_in
      (within_is 1 g.UR 10000 _ R.UR_in (within_is 0 g.Hsc 1000000000 _ R.Hsc_in (within_is 0 g.Csc 1000000000 _ R.Csc_in
      (within_is 0 g.Tcold 48 _ R.Tcold_in (within_is 0 g.Dc 1000000000 _ R.Dc_in (within_is 0 g.p0 10000 _ R.p0_in refl))))))))))))))

  pub ordered_of : ordered g ≡ true → Ordered g
  ordered_of e = (ordered_is g).0 (true_T (ordered g) e)

  pub of_ordered : Ordered g → ordered g ≡ true
  of_ordered O = T_true (ordered g) ((ordered_is g).1 O)

  -- ---- the line of a generator

  pub unit_fits : InRange g → Fits unit_form (not g.on) (unit_numbers g)
  unit_fits R = record {
    some = omega arith;
    count = refl;
    range = of_in_range R;
    sign = λ e. (omega arith, (omega arith, R.since_in.0));
  }

  pub unit_line_good : InRange g → forms.good_line unit_form (ended (unit_line g)) ≡ true
  unfolding unit_line
  unit_line_good R = rendered_good unit_form (not g.on) (unit_numbers g) (unit_fits R)

  -- reading it gives the generator
  pub unit_line_of : InRange g → unit_of (ended (unit_line g)) ≡ g
  unfolding unit_line unit_of
  unit_line_of R =
      let F = unit_fits R in
      let v = values_rendered unit_form (not g.on) (unit_numbers g) F in
      let m : any_minus (unit_values g) ≡ not g.on = all_shown_minus Tini_place (not g.on) 1 (unit_numbers g) (λ e. ((F.sign e).0, (F.sign e).1.0)) in
      ap (λ (x : List (List ℕ)). generator (any_minus x) (sizes x)) v
      ∙ (λ i. generator (m i) (sizes_shown Tini_place (not g.on) 1 (unit_numbers g) i))
      ∙ generator_numbers g

-- ---- a line that is good

-- its form is good: it is the line of a generator whose numbers are in range
pub unit_line_formed : (l : Line) → forms.good_line unit_form l ≡ true → (l ≡ ended (unit_line (unit_of l))) × InRange (unit_of l)
unfolding unit_line unit_of
unit_line_formed l g =
    let A = good_rendered unit_form l g in
    let minus = any_minus (values_of unit_form l) in
    let vs = sizes (values_of unit_form l) in
    let n : unit_numbers (generator minus vs) ≡ vs = numbers_generator minus vs A.fits.count in (
      A.line ∙ (λ i. ended (rendered unit_key Tini_place (sym (not_not minus) i) (sym n i))),
      in_range_of (generator minus vs) (ap (λ (x : List ℕ). all_within x unit_lows unit_highs) n ∙ A.fits.range),
    )

pub record IsUnitLine (l : Line) : Type 0 where
  pub line : l ≡ ended (unit_line (unit_of l))
  pub good : GoodUnit (unit_of l)

pub unit_line_was : (l : Line) → forms.good_line unit_form l ≡ true → ordered (unit_of l) ≡ true → IsUnitLine l
unit_line_was l g o =
    let f = unit_line_formed l g in
    record { line = f.0; good = record { in_range = f.1; ordered = ordered_of (unit_of l) o } }
