-- Document 02, [2]: what is told of the units that `short` takes, on numbers: each end of each range of a question, and each number read. Every line is found by computing.
use Rattle.std.specs.Prelude.{◌≡◌, refl, true, false, Result, Ok, Err, List, [], ◌∷◌, map, ℕ}
use Rattle.model.specs.Instance.{Instance}
use Rattle.model.specs.Largest.{falling, largest}
use Rattle.model.specs.Leaf.{usable, available}
use Rattle.model.specs.Turns.{in_turn, took}
use Rattle.model.specs.CountExamples.{plant}
use Rattle.walk.specs.Marks.{mark_of, marks_in}
use Rattle.leaves.specs.declared.short.Taken.{Taken}
use Rattle.runs.specs.declared.question.Unanswered.{Unanswered}
use Rattle.runs.specs.declared.question.Unanswered.TheVariants.{Unfit}
use Rattle.docket.specs.Taking.{taken_under}

-- pU 30, 50 and 80 in two periods, which need 80 and 80 + 1
abbrev rising : Instance
rising = record { periods = 2; demand = 80 ∷ 80 ∷ []; spare = 0 ∷ 1 ∷ []; units = (plant 30 50 80).units }

abbrev free : List ℕ
free = 0 ∷ 0 ∷ 0 ∷ 0 ∷ 0 ∷ 0 ∷ []

abbrev enough : ℕ → Result Taken Unanswered
enough n = Ok (record { short = false; units = n })

abbrev too_few : ℕ → Result Taken Unanswered
too_few n = Ok (record { short = true; units = n })

-- periods 0 to 3 with nothing fixed: 30 and 50 just reach 80, and do not reach 81
periods : map (λ p. taken_under rising p 0 free) (0 ∷ 1 ∷ 2 ∷ 3 ∷ []) ≡ Err Unfit ∷ enough 2 ∷ enough 3 ∷ Err Unfit ∷ []
unfolding taken_under in_turn took usable available largest falling marks_in mark_of
periods = refl

-- no upper count, and those of 0, 1, 2 and 3: the last is no count of three units
counts : map (λ m. taken_under rising 2 m free) (0 ∷ 1 ∷ 2 ∷ 3 ∷ 4 ∷ []) ≡ enough 3 ∷ too_few 0 ∷ too_few 1 ∷ enough 2 ∷ Err Unfit ∷ []
unfolding taken_under in_turn took usable available largest falling marks_in mark_of
counts = refl

-- unit 2's status in period 2: free, off, on, and no status; in period 1 it is not read, but it has to be one
statuses : (map (λ b. taken_under rising 2 0 (0 ∷ 0 ∷ 0 ∷ b ∷ 0 ∷ 0 ∷ [])) (0 ∷ 1 ∷ 2 ∷ 3 ∷ []) ≡ enough 3 ∷ enough 2 ∷ enough 3 ∷ Err Unfit ∷ [])
    × (map (λ b. taken_under rising 2 0 (0 ∷ 0 ∷ b ∷ 0 ∷ 0 ∷ 0 ∷ [])) (0 ∷ 1 ∷ 2 ∷ 3 ∷ []) ≡ enough 3 ∷ enough 3 ∷ enough 3 ∷ Err Unfit ∷ [])
unfolding taken_under in_turn took usable available largest falling marks_in mark_of
statuses = (refl, refl)

-- a status too few, and one too many
lengths : map (taken_under rising 2 0) ((0 ∷ 0 ∷ 0 ∷ 0 ∷ 0 ∷ []) ∷ (0 ∷ 0 ∷ 0 ∷ 0 ∷ 0 ∷ 0 ∷ 0 ∷ []) ∷ []) ≡ Err Unfit ∷ Err Unfit ∷ []
unfolding taken_under
lengths = refl
