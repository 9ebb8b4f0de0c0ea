-- Refusals of document 01's specimens, by computation.
use mathlib.Core.Path.{◌≡◌, refl}
use Rattle.refusal.specs.Refusals.{carries_line, carries_unit, carries_period, refusal_of}

-- an empty text: 12, line 1
missing_line : refusal_of 12 1 4 4 ≡ record { number = 12; line = 1; unit = 0; period = 0 }
unfolding refusal_of carries_line carries_unit carries_period
missing_line = refl

-- document 01, Specimens: the ramp that is too steep
ramp : refusal_of 25 5 1 2 ≡ record { number = 25; line = 0; unit = 1; period = 2 }
unfolding refusal_of carries_line carries_unit carries_period
ramp = refl

-- 59,80 and 0,20: 22, period 1
demand : refusal_of 22 5 1 1 ≡ record { number = 22; line = 0; unit = 0; period = 1 }
unfolding refusal_of carries_line carries_unit carries_period
demand = refl

-- a lone short=2: 33, line 3
short_leaf : refusal_of 33 3 1 1 ≡ record { number = 33; line = 3; unit = 0; period = 0 }
unfolding refusal_of carries_line carries_unit carries_period
short_leaf = refl

-- a tree in a fresh docket: 42
no_problem : refusal_of 42 1 1 1 ≡ record { number = 42; line = 0; unit = 0; period = 0 }
unfolding refusal_of carries_line carries_unit carries_period
no_problem = refl

-- document 02, [1]: a crowd without a count, 36, and a second count that is no narrower, 37, each at its line; no number after them carries one
crowd_leaf : refusal_of 36 3 1 1 ≡ record { number = 36; line = 3; unit = 0; period = 0 }
unfolding refusal_of carries_line carries_unit carries_period
crowd_leaf = refl

count_line : refusal_of 37 4 1 1 ≡ record { number = 37; line = 4; unit = 0; period = 0 }
unfolding refusal_of carries_line carries_unit carries_period
count_line = refl

beyond : refusal_of 38 4 1 1 ≡ record { number = 38; line = 0; unit = 0; period = 0 }
unfolding refusal_of carries_line carries_unit carries_period
beyond = refl
