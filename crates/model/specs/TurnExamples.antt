-- Document 02, [2]: how many units `short` takes, on numbers. Every line is found by computing.
use Rattle.std.specs.Prelude.{◌≡◌, refl, List, [], ◌∷◌, map, ℕ}
use Rattle.model.specs.Above.{Above, root}
use Rattle.model.specs.Largest.{falling}
use Rattle.model.specs.Leaf.{usable}
use Rattle.model.specs.Turns.{in_turn, took}
use Rattle.model.specs.CountExamples.{plant, off, on, at_most}

-- the pU in the order in which they are taken, of three units in one period
abbrev turns : ℕ → ℕ → ℕ → Above → List ℕ
turns x y z A = in_turn (plant x y z) A 0

-- 80, 50 and 30: by number; at most two; at most one; the first fixed off
falling_plant : map (turns 80 50 30) (root ∷ at_most 2 root ∷ at_most 1 root ∷ off 0 root ∷ [])
    ≡ (80 ∷ 50 ∷ 30 ∷ []) ∷ (80 ∷ 50 ∷ []) ∷ (80 ∷ []) ∷ (50 ∷ 30 ∷ []) ∷ []
unfolding in_turn usable falling
falling_plant = refl

-- 30, 50 and 80: by number as they stand, under a count the largest first; one fixed on has no precedence, one fixed off no place
rising_plant : map (turns 30 50 80) (root ∷ at_most 2 root ∷ at_most 2 (on 0 root) ∷ at_most 2 (off 2 root) ∷ at_most 0 root ∷ [])
    ≡ (30 ∷ 50 ∷ 80 ∷ []) ∷ (80 ∷ 50 ∷ []) ∷ (80 ∷ 50 ∷ []) ∷ (50 ∷ 30 ∷ []) ∷ [] ∷ []
unfolding in_turn usable falling
rising_plant = refl

-- 80, 50 and 30 for 120: two by number, two of at most two; one of at most one, and all that there are with the first off, where they do not reach it
for_120 : map (λ A. took (turns 80 50 30 A) 120) (root ∷ at_most 2 root ∷ at_most 1 root ∷ off 0 root ∷ []) ≡ 2 ∷ 2 ∷ 1 ∷ 2 ∷ []
unfolding in_turn took usable falling
for_120 = refl

-- 30, 50 and 80 for 100: three by number, two of at most two
for_100 : map (λ A. took (turns 30 50 80 A) 100) (root ∷ at_most 2 root ∷ []) ≡ 3 ∷ 2 ∷ []
unfolding in_turn took usable falling
for_100 = refl

-- for 80, which 30 and 50 just reach: two by number, one of at most two; for 81 three and two
for_80 : (map (λ A. took (turns 30 50 80 A) 80) (root ∷ at_most 2 root ∷ []) ≡ 2 ∷ 1 ∷ [])
    × (map (λ A. took (turns 30 50 80 A) 81) (root ∷ at_most 2 root ∷ []) ≡ 3 ∷ 2 ∷ [])
unfolding in_turn took usable falling
for_80 = (refl, refl)

-- for 0 none; for 1 one; for all of 160 three, and for more no more than three
for_all : map (took (turns 30 50 80 root)) (0 ∷ 1 ∷ 160 ∷ 161 ∷ []) ≡ 0 ∷ 1 ∷ 3 ∷ 3 ∷ []
unfolding in_turn took usable
for_all = refl

-- with all units off, and with at most none, none
none_left : (took (turns 30 50 80 (off 0 (off 1 (off 2 root)))) 100 ≡ 0) × (took (turns 30 50 80 (at_most 0 root)) 100 ≡ 0)
unfolding in_turn took usable falling
none_left = (refl, refl)

-- one fixed off is passed over and not counted, wherever it stands
off_passed : map (λ A. took (turns 30 50 80 A) 30) (root ∷ off 0 root ∷ off 1 root ∷ at_most 3 (off 2 root) ∷ []) ≡ 1 ∷ 1 ∷ 1 ∷ 1 ∷ []
unfolding in_turn took usable falling
off_passed = refl
