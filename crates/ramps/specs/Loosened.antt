-- Document 02, [6]: a problem whose ramps are wide, and trees without a ramp leaf.
use Rattle.std.specs.Prelude.{map}
use Rattle.model.specs.declared.generator.Generator.{Generator}
use Rattle.model.specs.Instance.{Instance}
use Rattle.model.specs.Tree.{Leaf, short, crowd, stuck, price, ramp, Tree, leaf, fork}

-- a unit that may rise and fall by pU, so that (11) and (12) ask no more than (4)
abbrev pub loose : Generator → Generator
loose g = record {
  a = g.a;
  b = g.b;
  c = g.c;
  pL = g.pL;
  pU = g.pU;
  TU = g.TU;
  TD = g.TD;
  on = g.on;
  since = g.since;
  DR = g.pU;
  UR = g.pU;
  Hsc = g.Hsc;
  Csc = g.Csc;
  Tcold = g.Tcold;
  Dc = g.Dc;
  p0 = g.p0;
}

abbrev pub loosened : Instance → Instance
loosened P = record { periods = P.periods; demand = P.demand; spare = P.spare; units = map loose P.units }

-- a tree none of whose leaves is a ramp leaf
abbrev pub PlainLeaf : Leaf → Type 0
PlainLeaf (short t) = Unit {0}
PlainLeaf (crowd t) = Unit {0}
PlainLeaf (stuck U) = Unit {0}
PlainLeaf (price q s) = Unit {0}
PlainLeaf (ramp q s l) = ⊥

abbrev pub Plain : Tree → Type 0
Plain (leaf l) = PlainLeaf l
Plain (fork f x y) = Plain x × Plain y
