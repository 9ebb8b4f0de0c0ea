-- Document 02, [7]: what is told of the runs of a price leaf, on numbers: document 01's problem at several prices, and each end of each range of a question. Every line is found by
-- computing.
use Rattle.std.specs.Prelude.{◌≡◌, refl, true, Ok, Err, ℕ, ℤ, pos, neg_ℤ, replicate}
use mathlib.Core.List.{List, [], ◌∷◌, map, flatten}
use Rattle.model.specs.Instance.{Instance}
use Rattle.model.specs.Rules.{output}
use Rattle.model.specs.Cost.{row_cost}
use Rattle.model.specs.Leaf.{rows_of, is_stuck, revenue, value, unit_least, units_least, requirement, leaf_value}
use Rattle.model.specs.Runs.{least_row, first_stuck, least_rows, shortfall}
use Rattle.model.specs.Examples.{line, example, unit1}
use Rattle.walk.specs.Marks.{mark_of, marks_in}
use Rattle.runs.specs.declared.question.Unanswered.TheVariants.{Unfit}
use Rattle.runs.specs.declared.drafting.NoRuns.{NoRuns}
use Rattle.runs.specs.declared.drafting.NoRuns.TheVariants.{Question, Stuck}
use Rattle.runs.specs.Drafts.{Drafted, unwritten, drafted, draft_under}

-- asked with room for k outputs and j shortfalls, sevens in it
abbrev asked : Instance → List ℕ → List ℕ → List ℕ → ℕ → ℕ → Drafted
asked P q s fixed k j = draft_under P q s fixed (replicate k 7) (replicate j 7)

abbrev found : ℤ → List ℕ → List ℕ → Drafted
found z rows short = record { answer = Ok z; rows = rows; short = short }

-- sevens as they were
abbrev left : NoRuns → Drafted
left a = unwritten (7 ∷ 7 ∷ 7 ∷ 7 ∷ []) (7 ∷ 7 ∷ []) (Err a)

abbrev free : List ℕ
free = 0 ∷ 0 ∷ 0 ∷ 0 ∷ []

abbrev none : List ℕ
none = 0 ∷ 0 ∷ []

-- document 01's problem: D is 60 and 100, R 10 and 10. At 10 unit 1 is worth as much at each output, and runs at 20; at 14 it runs at 80. Unit 2 loses 40 a period on at 14, and more at 10
prices : (asked example (10 ∷ 14 ∷ []) none free 4 2 ≡ found (pos 1880) (20 ∷ 80 ∷ 0 ∷ 0 ∷ []) (40 ∷ 20 ∷ []))
    × (asked example (10 ∷ 14 ∷ []) (1 ∷ 1 ∷ []) free 4 2 ≡ found (pos 1900) (20 ∷ 80 ∷ 0 ∷ 0 ∷ []) (40 ∷ 20 ∷ []))
    × (asked example (10 ∷ 14 ∷ []) none (0 ∷ 0 ∷ 0 ∷ 2 ∷ []) 4 2 ≡ found (pos 1980) (20 ∷ 80 ∷ 0 ∷ 10 ∷ []) (40 ∷ 10 ∷ []))
    × (asked example (12 ∷ 18 ∷ []) none free 4 2 ≡ found (pos 1820) (80 ∷ 80 ∷ 0 ∷ 50 ∷ []) (0 ∷ 0 ∷ []))
unfolding flatten draft_under drafted least_rows least_row shortfall output first_stuck is_stuck marks_in mark_of leaf_value units_least unit_least value revenue requirement rows_of row_cost
prices = (refl, refl, refl, refl)

-- one unit in two periods, 2 to 4 at 5 each, D being 3
abbrev tiny : Instance
tiny = record { periods = 2; demand = 3 ∷ 3 ∷ []; spare = 1 ∷ 1 ∷ []; units = line 0 5 0 2 4 1 1 true 1 10 10 0 0 0 0 2 ∷ [] }

abbrev untold : NoRuns → Drafted
untold a = unwritten (7 ∷ 7 ∷ []) (7 ∷ 7 ∷ []) (Err a)

-- the highest multiplier, and one more, of either kind
multipliers : (asked tiny (1_000_000_000 ∷ 1_000_000_000 ∷ []) none none 2 2 ≡ found (neg_ℤ (pos 1_999_999_960)) (4 ∷ 4 ∷ []) (0 ∷ 0 ∷ []))
    × (asked tiny none (1_000_000_000 ∷ 0 ∷ []) none 2 2 ≡ found (pos 10) (2 ∷ 0 ∷ []) (1 ∷ 3 ∷ []))
    × (asked tiny (0 ∷ 1_000_000_001 ∷ []) none none 2 2 ≡ untold (Question Unfit))
    × (asked tiny none (1_000_000_001 ∷ 0 ∷ []) none 2 2 ≡ untold (Question Unfit))
unfolding flatten draft_under drafted least_rows least_row shortfall output first_stuck is_stuck marks_in mark_of leaf_value units_least unit_least value revenue requirement rows_of row_cost
multipliers = (refl, refl, refl, refl)

-- the status in period 2: free, off, on, and no status
statuses : map (λ b. asked tiny (7 ∷ 7 ∷ []) none (0 ∷ b ∷ []) 2 2) (0 ∷ 1 ∷ 2 ∷ 3 ∷ [])
    ≡ found (pos 26) (4 ∷ 4 ∷ []) (0 ∷ 0 ∷ []) ∷ found (pos 34) (4 ∷ 0 ∷ []) (0 ∷ 3 ∷ []) ∷ found (pos 26) (4 ∷ 4 ∷ []) (0 ∷ 0 ∷ []) ∷ untold (Question Unfit) ∷ []
unfolding flatten draft_under drafted least_rows least_row shortfall output first_stuck is_stuck marks_in mark_of leaf_value units_least unit_least value revenue requirement rows_of row_cost
statuses = refl

-- one too few and one too many of each
lengths : (map (λ q. asked tiny q none none 2 2) ((0 ∷ []) ∷ (0 ∷ 0 ∷ 0 ∷ []) ∷ []) ≡ untold (Question Unfit) ∷ untold (Question Unfit) ∷ [])
    × (map (λ s. asked tiny none s none 2 2) ((0 ∷ []) ∷ (0 ∷ 0 ∷ 0 ∷ []) ∷ []) ≡ untold (Question Unfit) ∷ untold (Question Unfit) ∷ [])
    × (map (λ f. asked tiny none none f 2 2) ((0 ∷ []) ∷ (0 ∷ 0 ∷ 0 ∷ []) ∷ []) ≡ untold (Question Unfit) ∷ untold (Question Unfit) ∷ [])
    × (map (λ k. (asked tiny none none none k 2).answer) (1 ∷ 3 ∷ []) ≡ Err (Question Unfit) ∷ Err (Question Unfit) ∷ [])
    × (map (λ j. (asked tiny none none none 2 j).answer) (1 ∷ 3 ∷ []) ≡ Err (Question Unfit) ∷ Err (Question Unfit) ∷ [])
unfolding draft_under
lengths = (refl, refl, refl, refl, refl)

-- two units like unit 1, which is on and stays off for two periods once it stops: off and then on again it is stuck. The lower of the two is told
abbrev twins : Instance
twins = record { periods = 2; demand = 60 ∷ 100 ∷ []; spare = 10 ∷ 10 ∷ []; units = unit1 ∷ unit1 ∷ [] }

stuck : map (λ f. asked twins none none f 4 2) ((1 ∷ 2 ∷ 1 ∷ 2 ∷ []) ∷ (1 ∷ 2 ∷ 0 ∷ 0 ∷ []) ∷ (0 ∷ 0 ∷ 1 ∷ 2 ∷ []) ∷ []) ≡ left (Stuck 1) ∷ left (Stuck 1) ∷ left (Stuck 2) ∷ []
unfolding draft_under drafted first_stuck is_stuck marks_in mark_of
stuck = refl
