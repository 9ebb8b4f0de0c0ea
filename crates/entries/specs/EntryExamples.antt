-- Document 02, [5]: what is told of forced statuses, on numbers: document 01's problem, and each end of each range of a question. Every line is found by computing.
use Rattle.std.specs.Prelude.{◌≡◌, refl, true, false, Ok, Err, List, [], ◌∷◌, map, ℕ, ℤ, pos, neg_ℤ, replicate}
use Rattle.model.specs.Instance.{Instance}
use Rattle.model.specs.Cost.{row_cost}
use Rattle.model.specs.Leaf.{rows_of, is_stuck, revenue, value, unit_least}
use Rattle.model.specs.Forced.{forced_table, forced_tables}
use Rattle.model.specs.Examples.{line, example, unit1}
use Rattle.walk.specs.Marks.{mark_of, marks_in}
use Rattle.runs.specs.declared.question.Unanswered.TheVariants.{Unfit}
use Rattle.forced.specs.Answers.{Told, untold, told_under}

-- asked with room for k values and j bytes, sevens in it
abbrev asked : Instance → List ℕ → List ℕ → List ℕ → ℕ → ℕ → Told
asked P q s fixed k j = told_under P q s fixed (replicate k (pos 7)) (replicate j 7)

abbrev found : List ℤ → List ℕ → Told
found values stuck = record { answer = Ok tt; values = values; stuck = stuck }

abbrev minus : ℕ → ℤ
minus n = neg_ℤ (pos n)

abbrev none : List ℕ
none = 0 ∷ 0 ∷ []

-- document 01's problem at 10 and 14: unit 1 on in both periods is worth 120, off in both costs 5 and on in the first alone 105; unit 2 off in both costs 0, on in one period alone 140 or 100, in both 180. With unit 2 fixed on in period 2
plant : (asked example (10 ∷ 14 ∷ []) none (0 ∷ 0 ∷ 0 ∷ 0 ∷ []) 8 8
    ≡ found (pos 5 ∷ minus 120 ∷ pos 5 ∷ minus 120 ∷ pos 0 ∷ pos 140 ∷ pos 0 ∷ pos 100 ∷ []) (0 ∷ 0 ∷ 0 ∷ 0 ∷ 0 ∷ 0 ∷ 0 ∷ 0 ∷ []))
    × (asked example (10 ∷ 14 ∷ []) none (0 ∷ 0 ∷ 0 ∷ 2 ∷ []) 8 8
    ≡ found (pos 5 ∷ minus 120 ∷ pos 5 ∷ minus 120 ∷ pos 100 ∷ pos 180 ∷ pos 0 ∷ pos 100 ∷ []) (0 ∷ 0 ∷ 0 ∷ 0 ∷ 0 ∷ 0 ∷ 1 ∷ 0 ∷ []))
unfolding told_under forced_tables forced_table is_stuck marks_in mark_of unit_least value revenue rows_of row_cost
plant = (refl, refl)

-- two units like unit 1, the second stuck: its entries say so, and the first's are given
twins : Instance
twins = record { periods = 2; demand = 60 ∷ 100 ∷ []; spare = 10 ∷ 10 ∷ []; units = unit1 ∷ unit1 ∷ [] }

second_stuck : asked twins none none (0 ∷ 0 ∷ 1 ∷ 2 ∷ []) 8 8
    ≡ found (pos 5 ∷ pos 305 ∷ pos 5 ∷ pos 600 ∷ pos 0 ∷ pos 0 ∷ pos 0 ∷ pos 0 ∷ []) (0 ∷ 0 ∷ 0 ∷ 0 ∷ 1 ∷ 1 ∷ 1 ∷ 1 ∷ [])
unfolding twins told_under forced_tables forced_table is_stuck marks_in mark_of unit_least value revenue rows_of row_cost
second_stuck = refl

-- two units in three periods at 3, each worth 3 in a period on. The first, off for 3 periods at least and for 1 before period 1, may be on in period 3 alone; the second is fixed off in
-- period 1, and its start costs 2 in period 2 and, as a cold one, 5 in period 3
three : Instance
three = record { periods = 3; demand = 1 ∷ 1 ∷ 1 ∷ []; spare = 0 ∷ 0 ∷ 0 ∷ []; units = line 0 0 0 1 1 1 3 false 1 10 10 0 0 0 0 0 ∷ line 0 0 0 1 1 1 1 false 1 10 10 2 5 1 0 0 ∷ [] }

two_by_three : asked three (3 ∷ 3 ∷ 3 ∷ []) (0 ∷ 0 ∷ 0 ∷ []) (0 ∷ 0 ∷ 0 ∷ 1 ∷ 0 ∷ 0 ∷ []) 12 12
    ≡ found (minus 3 ∷ pos 0 ∷ minus 3 ∷ pos 0 ∷ pos 0 ∷ minus 3 ∷ minus 4 ∷ pos 0 ∷ pos 0 ∷ minus 4 ∷ minus 1 ∷ minus 4 ∷ [])
    (0 ∷ 1 ∷ 0 ∷ 1 ∷ 0 ∷ 0 ∷ 0 ∷ 1 ∷ 0 ∷ 0 ∷ 0 ∷ 0 ∷ [])
unfolding three told_under forced_tables forced_table is_stuck marks_in mark_of unit_least value revenue rows_of row_cost
two_by_three = refl

-- one unit in two periods, 2 to 4 at 5 each
abbrev tiny : Instance
tiny = record { periods = 2; demand = 3 ∷ 3 ∷ []; spare = 1 ∷ 1 ∷ []; units = line 0 5 0 2 4 1 1 true 1 10 10 0 0 0 0 2 ∷ [] }

abbrev left : Told
left = untold (pos 7 ∷ pos 7 ∷ pos 7 ∷ pos 7 ∷ []) (7 ∷ 7 ∷ 7 ∷ 7 ∷ []) (Err Unfit)

-- the highest multiplier, and one more, of either kind
multipliers : (asked tiny (1_000_000_000 ∷ 0 ∷ []) none none 4 4 ≡ found (pos 0 ∷ minus 3_999_999_980 ∷ minus 3_999_999_980 ∷ minus 3_999_999_970 ∷ []) (0 ∷ 0 ∷ 0 ∷ 0 ∷ []))
    × (asked tiny none (0 ∷ 1_000_000_000 ∷ []) none 4 4 ≡ found (minus 3_999_999_990 ∷ minus 3_999_999_980 ∷ pos 0 ∷ minus 3_999_999_990 ∷ []) (0 ∷ 0 ∷ 0 ∷ 0 ∷ []))
    × (asked tiny (0 ∷ 1_000_000_001 ∷ []) none none 4 4 ≡ left)
    × (asked tiny none (1_000_000_001 ∷ 0 ∷ []) none 4 4 ≡ left)
unfolding told_under forced_tables forced_table is_stuck marks_in mark_of unit_least value revenue rows_of row_cost
multipliers = (refl, refl, refl, refl)

-- the status in period 2: free, off, on, and no status
statuses : map (λ b. asked tiny (7 ∷ 7 ∷ []) none (0 ∷ b ∷ []) 4 4) (0 ∷ 1 ∷ 2 ∷ 3 ∷ [])
    ≡ found (minus 8 ∷ minus 16 ∷ minus 8 ∷ minus 16 ∷ []) (0 ∷ 0 ∷ 0 ∷ 0 ∷ [])
    ∷ found (pos 0 ∷ minus 8 ∷ minus 8 ∷ pos 0 ∷ []) (0 ∷ 0 ∷ 0 ∷ 1 ∷ [])
    ∷ found (minus 8 ∷ minus 16 ∷ pos 0 ∷ minus 16 ∷ []) (0 ∷ 0 ∷ 1 ∷ 0 ∷ [])
    ∷ left
    ∷ []
unfolding told_under forced_tables forced_table is_stuck marks_in mark_of unit_least value revenue rows_of row_cost
statuses = refl

-- one too few and one too many of each
lengths : (map (λ q. asked tiny q none none 4 4) ((0 ∷ []) ∷ (0 ∷ 0 ∷ 0 ∷ []) ∷ []) ≡ left ∷ left ∷ [])
    × (map (λ s. asked tiny none s none 4 4) ((0 ∷ []) ∷ (0 ∷ 0 ∷ 0 ∷ []) ∷ []) ≡ left ∷ left ∷ [])
    × (map (λ f. asked tiny none none f 4 4) ((0 ∷ []) ∷ (0 ∷ 0 ∷ 0 ∷ []) ∷ []) ≡ left ∷ left ∷ [])
    × (map (λ k. asked tiny none none none k 4) (3 ∷ 5 ∷ []) ≡ map (λ k. untold (replicate k (pos 7)) (replicate 4 7) (Err Unfit)) (3 ∷ 5 ∷ []))
    × (map (λ j. asked tiny none none none 4 j) (3 ∷ 5 ∷ []) ≡ map (λ j. untold (replicate 4 (pos 7)) (replicate j 7) (Err Unfit)) (3 ∷ 5 ∷ []))
unfolding told_under
lengths = (refl, refl, refl, refl, refl)
