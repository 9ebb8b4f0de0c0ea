-- The unit line of a generator, and the generator of a unit line.
use Rattle.std.specs.Prelude.{ℕ, Bool, not, List, [], ◌∷◌}
use Rattle.model.specs.declared.generator.Generator.{Generator}
use Rattle.model.specs.Instance.{◌at◌}
use Rattle.text.specs.Lines.{Line}
use Rattle.text.specs.Forms.{Form, form, values_of, numbers_of, any_minus}
use Rattle.text.specs.Rendering.{rendered, all_shown}

-- ---- document 01, Texts, and document 02, [3]: unit=a,b,c,pL,pU,TU,TD,Tini,DR,UR,Hsc,Csc,Tcold,Dc,p0

-- unit=
abbrev pub unit_key : List ℕ
unit_key = 117 ∷ 110 ∷ 105 ∷ 116 ∷ 61 ∷ []

-- Tini's place among the values, which alone may carry a minus
abbrev pub Tini_place : ℕ
Tini_place = 8

-- the numbers of a generator in the order of its line, Tini without its sign
abbrev pub unit_numbers : Generator → List ℕ
unit_numbers g =
    g.a ∷ g.b ∷ g.c ∷ g.pL ∷ g.pU ∷ g.TU ∷ g.TD ∷ g.since ∷ g.DR ∷ g.UR ∷ g.Hsc ∷ g.Csc ∷ g.Tcold ∷ g.Dc ∷ g.p0 ∷ []

-- the generator of numbers in that order, of which Tini carries a minus or not
abbrev pub generator : Bool → List ℕ → Generator
generator minus v = record {
  a = v at 0;
  b = v at 1;
  c = v at 2;
  pL = v at 3;
  pU = v at 4;
  TU = v at 5;
  TD = v at 6;
  on = not minus;
  since = v at 7;
  DR = v at 8;
  UR = v at 9;
  Hsc = v at 10;
  Csc = v at 11;
  Tcold = v at 12;
  Dc = v at 13;
  p0 = v at 14;
}

-- ---- the line of a generator

-- its values as they stand between the commas: Tini has a minus where the generator was off before period 1
abbrev pub unit_values : Generator → List (List ℕ)
unit_values g = all_shown Tini_place (not g.on) 1 (unit_numbers g)

-- the line without its byte 10
unfoldable pub unit_line : Generator → List ℕ
unit_line g = rendered unit_key Tini_place (not g.on) (unit_numbers g)

-- ---- document 01, Texts, and document 02, [3]: the ranges of a unit line, Tini's without its sign

abbrev pub unit_lows : List ℕ
unit_lows = 0 ∷ 0 ∷ 0 ∷ 1 ∷ 1 ∷ 1 ∷ 1 ∷ 1 ∷ 1 ∷ 1 ∷ 0 ∷ 0 ∷ 0 ∷ 0 ∷ 0 ∷ []

abbrev pub unit_highs : List ℕ
unit_highs =
    1000000000 ∷ 10000000 ∷ 10000 ∷ 10000 ∷ 10000 ∷ 48 ∷ 48 ∷ 1000 ∷ 10000 ∷ 10000 ∷ 1000000000 ∷ 1000000000 ∷ 48 ∷ 1000000000 ∷ 10000
    ∷ []

abbrev pub unit_form : Form
unit_form = form unit_key Tini_place unit_lows unit_highs

-- ---- the generator of a line

unfoldable pub unit_of : Line → Generator
unit_of l = generator (any_minus (values_of unit_form l)) (numbers_of unit_form l)
