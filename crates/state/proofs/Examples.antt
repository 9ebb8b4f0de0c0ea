-- The mark, the front of a state and the outputs of a docket, by computation; and numbers that are no state's.
use Rattle.std.specs.Prelude.{Some}
use mathlib.Core.Path.{◌≡◌, refl}
use mathlib.Core.Bool.{true, false}
use mathlib.Core.List.{List, [], ◌∷◌, map}
use Prim.Native.Nat.{ℕ, ◌+◌, ◌*◌, ◌-◌, ◌^◌}
use lib.IntN.{pos, negsuc}
use lib.ListN.{take, drop, set, replicate}
use Rattle.model.specs.declared.generator.Generator.{Generator}
use Rattle.model.specs.Instance.{Instance}
use Rattle.model.specs.Ranges.{costs_in_range, outputs_in_range, times_in_range, in_range, midnight_ordered, ordered}
use Rattle.model.specs.Held.{pad, held, valid_problem}
use Rattle.layout.specs.Numbers.{laid_out, problem_in}
use Rattle.writer.specs.Written.{figure_of}
use Rattle.docket.specs.declared.Docket.{Docket}
use Rattle.docket.specs.declared.held.HeldBound.TheVariants as bound
use Rattle.docket.specs.Docket.{sound, small_cost, small_bound}
use Rattle.state.specs.Layout.{layout_mark, state_numbers, held_bound_numbers, docket_in, cost_in, bound_in}
use Rattle.state.specs.Kept.{long, holds, outputs_of}

-- D O C K E T, and layout 2
the_mark : layout_mark ≡ 68 * 2 ^ 48 + 79 * 2 ^ 40 + 67 * 2 ^ 32 + 75 * 2 ^ 24 + 69 * 2 ^ 16 + 84 * 2 ^ 8 + 2
the_mark = refl

-- a unit that has been on, alone in two periods
abbrev unit : Generator
unit = record { a = 100; b = 10; c = 0; pL = 20; pU = 80; TU = 2; TD = 2; on = true; since = 3; DR = 30; UR = 30; Hsc = 50; Csc = 90; Tcold = 1; Dc = 5; p0 = 60 }

abbrev alone : Instance
alone = record { periods = 2; demand = 60 ∷ 70 ∷ []; spare = 5 ∷ 6 ∷ []; units = unit ∷ [] }

-- a docket under it that holds a schedule of writer 7 and a bound of writer 3
abbrev docket : Docket
docket = record {
  known = true;
  problem = held alone;
  held = record { cost = Some (record { cost = 1500; writer = 7 }); bound = bound.Number (record { value = negsuc 29; writer = 3 }) };
  rows = pad 0 1536 (60 ∷ 70 ∷ []);
}

its_front : take 12 (state_numbers docket) ≡ layout_mark ∷ 1 ∷ 1 ∷ 1500 ∷ 7 ∷ 2 ∷ 30 ∷ 3 ∷ 2 ∷ 1 ∷ 60 ∷ 70 ∷ []
unfolding state_numbers laid_out held pad figure_of
its_front = refl

-- the numbers of its unit, p0 the last
its_unit : take 16 (drop 106 (state_numbers docket)) ≡ 100 ∷ 10 ∷ 0 ∷ 20 ∷ 80 ∷ 2 ∷ 2 ∷ 1 ∷ 3 ∷ 30 ∷ 30 ∷ 50 ∷ 90 ∷ 1 ∷ 5 ∷ 60 ∷ []
unfolding state_numbers laid_out held pad figure_of
its_unit = refl

-- a bound of 0 or more, never, and none
its_bound : held_bound_numbers (bound.Number (record { value = pos 30; writer = 3 })) ≡ 1 ∷ 30 ∷ 3 ∷ []
unfolding figure_of
its_bound = refl

its_never : held_bound_numbers (bound.Never (record { writer = 9 })) ≡ 3 ∷ 0 ∷ 9 ∷ []
its_never = refl

no_bound : held_bound_numbers bound.Nothing ≡ 0 ∷ 0 ∷ 0 ∷ []
no_bound = refl

-- zeros are no docket; nor is a mark with a problem of no periods behind it
zeros_none : holds (replicate 618 0) (replicate 1536 0) ≡ false
unfolding holds
zeros_none = refl

unsound_none : holds (layout_mark ∷ 1 ∷ replicate 616 0) (replicate 1536 0) ≡ false
unfolding holds docket_in problem_in sound valid_problem
unsound_none = refl

-- nor is a state of layout 1, whatever follows its mark
layout_1_none : (v w : List ℕ) → holds (19227448860562433 ∷ v) w ≡ false
unfolding holds
layout_1_none v w = refl

-- its numbers are a docket's with an output at midnight of 60, 20 and 80, and none's with 19, 81 and 0
its_midnight : map (λ p0. holds (set (state_numbers docket) 121 p0) docket.rows) (60 ∷ 19 ∷ 20 ∷ 80 ∷ 81 ∷ 0 ∷ [])
    ≡ true ∷ false ∷ true ∷ true ∷ false ∷ false ∷ []
unfolding holds state_numbers laid_out held pad figure_of docket_in problem_in sound valid_problem in_range costs_in_range outputs_in_range times_in_range ordered midnight_ordered
its_midnight = refl

its_outputs : outputs_of docket ≡ 60 ∷ 70 ∷ []
unfolding outputs_of held pad
its_outputs = refl

-- slices of 618 numbers and 1,536 rows have room, and no shorter ones
room_there : long (replicate 618 0) (replicate 1536 0) ≡ true
room_there = refl

numbers_short : long (replicate 617 0) (replicate 1536 0) ≡ false
numbers_short = refl

rows_short : long (replicate 618 0) (replicate 1535 0) ≡ false
rows_short = refl

-- figures that are too large, and tags that none has, are read as what no sound docket holds
large_minus : small_bound (bound_in 2 (2 ^ 61 + 1) 3) ≡ false
large_minus = refl

large_size : small_bound (bound_in 1 (2 ^ 64 - 1) 3) ≡ false
large_size = refl

odd_bound : small_bound (bound_in 4 30 3) ≡ false
odd_bound = refl

odd_cost : small_cost (cost_in 2 1500 7) ≡ false
odd_cost = refl

-- the lowest bound is none of them
lowest_bound : small_bound (bound_in 2 (2 ^ 61) 3) ≡ true
lowest_bound = refl
