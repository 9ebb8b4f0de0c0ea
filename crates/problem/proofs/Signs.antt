-- Tini: the eighth value of a unit line shows the signed number, on the line that is written and on the line that is read.
use Prim.Native.Nat.{ℕ, zero, suc, ◌≤◌}
use native.Mathlib.Omega.{arith}
use mathlib.Core.Path.{◌≡◌, refl, ap, ◌∙◌}
use mathlib.Core.Bool.{Bool, true, false, not}
use mathlib.Core.List.{List, []}
use lib.ListN.{get_or}
use Rattle.decimal.specs.Decimal.{shown_whole}
use Rattle.model.specs.declared.generator.Generator.{Generator}
use Rattle.model.specs.Instance.{Tini}
use Rattle.model.specs.Ranges.{InRange, ordered}
use Rattle.text.specs.Lines.{Line}
use Rattle.text.specs.Forms as forms
use Rattle.text.specs.Forms.{values_of}
use Rattle.text.proofs.Accepted.{values_rendered}
use Rattle.problem.specs.Units.{unit_numbers, unit_values, unit_line, unit_form, unit_of}
use Rattle.problem.proofs.UnitLines.{unit_fits, unit_line_was}

-- a generator with another Tini
abbrev with_Tini : Generator → Bool → ℕ → Generator
with_Tini g b n = record {
  a = g.a;
  b = g.b;
  c = g.c;
  pL = g.pL;
  pU = g.pU;
  TU = g.TU;
  TD = g.TD;
  on = b;
  since = n;
  DR = g.DR;
  UR = g.UR;
  Hsc = g.Hsc;
  Csc = g.Csc;
  Tcold = g.Tcold;
  Dc = g.Dc;
  p0 = g.p0;
}

-- on the line of a generator
pub Tini_shown : (g : Generator) → InRange g → get_or (unit_values g) 7 [] ≡ shown_whole (Tini g)
Tini_shown g R = go g.on g.since R.since_in.0
  where
    go : (b : Bool) (n : ℕ) → 1 ≤ n → get_or (unit_values (with_Tini g b n)) 7 [] ≡ shown_whole (Tini (with_Tini g b n))
    go true n h = refl
    go false zero h = absurd (omega arith)
    go false (suc n) h = refl

-- on a good line, of the generator that is read from it
pub Tini_read : (l : Line) → forms.good_line unit_form l ≡ true → ordered (unit_of l) ≡ true → get_or (values_of unit_form l) 7 [] ≡ shown_whole (Tini (unit_of l))
unfolding unit_line
Tini_read l g o =
    let u = unit_line_was l g o in
    let h = unit_of l in
    let R = u.good.in_range in
    ap (λ (x : Line). get_or (values_of unit_form x) 7 []) u.line
    ∙ ap (λ (vs : List (List ℕ)). get_or vs 7 []) (values_rendered unit_form (not h.on) (unit_numbers h) (unit_fits h R))
    ∙ Tini_shown h R
