-- A problem in the arrays of the struct Problem, and back.
use Rattle.std.specs.Prelude.{Bool, false, ◌&&◌, List, ◌++◌, ℕ, ◌-◌, ◌≤◌, length, take, replicate}
use Rattle.model.specs.declared.generator.Generator.{Generator}
use Rattle.model.specs.declared.arrays.Problem.{Problem}
use Rattle.model.specs.Instance.{Instance}
use Rattle.model.specs.Ranges.{WellFormed, every, between, good_generator, load_in_range}

abbrev pub blank_generator : Generator
blank_generator = record { a = 0; b = 0; c = 0; pL = 0; pU = 0; TU = 0; TD = 0; on = false; since = 0; DR = 0; UR = 0; Hsc = 0; Csc = 0; Tcold = 0; Dc = 0; p0 = 0 }

abbrev pub blank_problem : Problem
blank_problem = record { periods = 0; units = 0; demand = replicate 48 0; spare = replicate 48 0; generators = replicate 32 blank_generator }

-- the problem that the arrays hold
unfoldable pub view : Problem → Instance
view p = record {
  periods = p.periods;
  demand = take p.periods p.demand;
  spare = take p.periods p.spare;
  units = take p.units p.generators;
}

-- a list with z after it, up to n members
unfoldable pub pad : {A : Type 0} → A → ℕ → List A → List A
pad z n l = l ++ replicate (n - length l) z

-- the arrays that hold a problem
unfoldable pub held : Instance → Problem
held P = record {
  periods = P.periods;
  units = length P.units;
  demand = pad 0 48 P.demand;
  spare = pad 0 48 P.spare;
  generators = pad blank_generator 32 P.units;
}

-- the arrays hold a well-formed problem
pub record Valid (p : Problem) : Type 0 where
  pub units_fit : p.units ≤ 32
  pub well_formed : WellFormed (view p)

-- the same as a test, for the code
unfoldable pub valid_problem : Problem → Bool
valid_problem p =
    between 1 p.periods 48 && (between 1 p.units 32 && (every load_in_range (take p.periods p.demand)
    && (every load_in_range (take p.periods p.spare) && every good_generator (take p.units p.generators))))
