-- Document 02, [3]: two problems that differ in p0 alone.
use Rattle.std.specs.Prelude.{◌≡◌, List, [], ◌∷◌, ℕ}
use Rattle.model.specs.declared.generator.Generator.{Generator}
use Rattle.model.specs.Instance.{Instance}

-- a unit whose output at midnight is k, its other numbers as they are
abbrev pub with_p0 : ℕ → Generator → Generator
with_p0 k g = record {
  a = g.a;
  b = g.b;
  c = g.c;
  pL = g.pL;
  pU = g.pU;
  TU = g.TU;
  TD = g.TD;
  on = g.on;
  since = g.since;
  DR = g.DR;
  UR = g.UR;
  Hsc = g.Hsc;
  Csc = g.Csc;
  Tcold = g.Tcold;
  Dc = g.Dc;
  p0 = k;
}

-- units one by one the same but for p0
abbrev pub AlikeUnits : List Generator → List Generator → Type 0
AlikeUnits [] [] = Unit {0}
AlikeUnits [] (g' ∷ gs') = ⊥
AlikeUnits (g ∷ gs) [] = ⊥
AlikeUnits (g ∷ gs) (g' ∷ gs') = (g' ≡ with_p0 g'.p0 g) × AlikeUnits gs gs'

-- two problems the same but for the p0 of their units
pub record AlikeButMidnight (P P' : Instance) : Type 0 where
  pub periods : P.periods ≡ P'.periods
  pub demand : P.demand ≡ P'.demand
  pub spare : P.spare ≡ P'.spare
  pub units : AlikeUnits P.units P'.units
