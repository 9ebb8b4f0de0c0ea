-- The numbers of a problem of two periods and two generators, and the problem that they are.
use mathlib.Core.Path.{◌≡◌, refl}
use mathlib.Core.Bool.{true, false}
use mathlib.Core.List.{List, [], ◌∷◌, ◌++◌}
use Prim.Native.Nat.{ℕ}
use Rattle.model.specs.declared.generator.Generator.{Generator}
use Rattle.model.specs.Instance.{Instance}
use Rattle.model.specs.Held.{pad, held}
use Rattle.layout.specs.Numbers.{generator_numbers, problem_in, instance_in}

-- a generator that has been on, and one that has been off
abbrev first : Generator
first = record { a = 100; b = 10; c = 0; pL = 20; pU = 80; TU = 2; TD = 2; on = true; since = 3; DR = 30; UR = 30; Hsc = 50; Csc = 90; Tcold = 1; Dc = 5; p0 = 60 }

abbrev second : Generator
second = record { a = 40; b = 14; c = 0; pL = 10; pU = 50; TU = 1; TD = 1; on = false; since = 2; DR = 50; UR = 50; Hsc = 20; Csc = 60; Tcold = 0; Dc = 0; p0 = 0 }

-- the sixteen numbers of a generator, in their order
sixteen : generator_numbers (record {
  a = 101;
  b = 102;
  c = 103;
  pL = 104;
  pU = 105;
  TU = 106;
  TD = 107;
  on = true;
  since = 109;
  DR = 110;
  UR = 111;
  Hsc = 112;
  Csc = 113;
  Tcold = 114;
  Dc = 115;
  p0 = 116;
}) ≡ 101 ∷ 102 ∷ 103 ∷ 104 ∷ 105 ∷ 106 ∷ 107 ∷ 1 ∷ 109 ∷ 110 ∷ 111 ∷ 112 ∷ 113 ∷ 114 ∷ 115 ∷ 116 ∷ []
sixteen = refl

abbrev two_units : Instance
two_units = record { periods = 2; demand = 60 ∷ 100 ∷ []; spare = 10 ∷ 11 ∷ []; units = first ∷ second ∷ [] }

abbrev two_numbers : List ℕ
two_numbers = 2 ∷ 2 ∷ pad 0 48 (60 ∷ 100 ∷ []) ++ pad 0 48 (10 ∷ 11 ∷ []) ++ generator_numbers first ++ generator_numbers second

pub two_units_in : instance_in (pad 0 610 two_numbers) ≡ two_units
unfolding pad instance_in
two_units_in = refl

-- its arrays, where the list goes on
pub two_units_again : problem_in (pad 0 610 two_numbers ++ (7 ∷ [])) ≡ held two_units
unfolding pad problem_in held
two_units_again = refl
