-- A problem's numbers in one list of 610: the periods T, the units, 48 demands, 48 spares, and 16 numbers for each of 32
-- generators, on being 0 or 1. Of the demands and the spares the
-- first T are the problem's, of the generators as many as it has units. A tree is read under 674: behind those, for the units in the order of
-- their ranks, the largest first, 32 pU and 32 places where their statuses begin.
use Rattle.std.specs.Prelude.{◌≡◌, not, cond, List, [], ◌∷◌, ◌++◌, map, ℕ, zero, suc, ◌+◌, ◌*◌, eqb, length, take, drop}
use Rattle.model.specs.declared.generator.Generator.{Generator}
use Rattle.model.specs.declared.arrays.Problem.{Problem}
use Rattle.model.specs.Instance.{Instance, ◌at◌}
use Rattle.model.specs.Ranges.{WellFormed}
use Rattle.model.specs.Held.{pad, view}
use Rattle.layout.specs.Ranks.{pU_of, place_of, ranked}

-- a generator's numbers
abbrev pub generator_numbers : Generator → List ℕ
generator_numbers g =
    g.a ∷ g.b ∷ g.c ∷ g.pL ∷ g.pU ∷ g.TU ∷ g.TD ∷ cond g.on 1 0 ∷ g.since ∷ g.DR ∷ g.UR ∷ g.Hsc ∷ g.Csc ∷ g.Tcold ∷ g.Dc ∷ g.p0 ∷ []

-- the generators' numbers, one after another
abbrev pub all_numbers : List Generator → List ℕ
all_numbers [] = []
all_numbers (g ∷ gs) = generator_numbers g ++ all_numbers gs

-- the numbers that a problem's arrays hold, with what stands past its periods and units
unfoldable pub laid_out : Problem → List ℕ
laid_out p = p.periods ∷ p.units ∷ (p.demand ++ (p.spare ++ all_numbers p.generators))

-- the units' ranks, zeros after the last
abbrev pub ranks_of : Problem → List ℕ
ranks_of p = pad 0 32 (ranked (view p).units)

-- the same numbers with the pU and the place of each rank behind them
unfoldable pub ranked_out : Problem → List ℕ
ranked_out p = laid_out p ++ (map pU_of (ranks_of p) ++ map (place_of p.periods) (ranks_of p))

-- the generator whose numbers the list begins with
abbrev pub generator_of : List ℕ → Generator
generator_of v = record {
  a = v at 0;
  b = v at 1;
  c = v at 2;
  pL = v at 3;
  pU = v at 4;
  TU = v at 5;
  TD = v at 6;
  on = not (eqb (v at 7) 0);
  since = v at 8;
  DR = v at 9;
  UR = v at 10;
  Hsc = v at 11;
  Csc = v at 12;
  Tcold = v at 13;
  Dc = v at 14;
  p0 = v at 15;
}

-- the generator u, counted from 0
abbrev pub generator_in : List ℕ → ℕ → Generator
generator_in v u = generator_of (drop (98 + u * 16) v)

-- the n generators from u on
abbrev pub generators_in : List ℕ → ℕ → ℕ → List Generator
generators_in v u zero = []
generators_in v u (suc n) = generator_in v u ∷ generators_in v (suc u) n

-- the problem as its arrays hold it, with what stands past its periods and units, well-formed or not; the list may go on
unfoldable pub problem_in : List ℕ → Problem
problem_in v = record {
  periods = v at 0;
  units = v at 1;
  demand = take 48 (drop 2 v);
  spare = take 48 (drop 50 v);
  generators = generators_in v 0 32;
}

-- the problem
unfoldable pub instance_in : List ℕ → Instance
instance_in v = record {
  periods = v at 0;
  demand = take (v at 0) (drop 2 v);
  spare = take (v at 0) (drop 50 v);
  units = generators_in v 0 (v at 1);
}

-- the numbers are a well-formed problem's, with the pU and the places of its units behind them, in the order of their ranks
pub record Laid (v : List ℕ) : Type 0 where
  pub long : length v ≡ 674
  pub well_formed : WellFormed (instance_in v)
  pub sizes : take (length (instance_in v).units) (drop 610 v) ≡ map pU_of (ranked (instance_in v).units)
  pub places : take (length (instance_in v).units) (drop 642 v) ≡ map (place_of (instance_in v).periods) (ranked (instance_in v).units)
