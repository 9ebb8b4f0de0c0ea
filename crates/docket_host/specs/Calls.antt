-- What the calls on an open docket answer, and what every slice that they are lent then holds. v and w are the two slices of its state.
use Rattle.std.specs.Prelude.{◌≡◌, Bool, false, cond, List, [], ◌∷◌, ℕ, ◌+◌, ◌≤◌, eqb, ltb, leb, ℤ, length, Result, Ok, Err}
use Rattle.writer.specs.Written.{over}
use Rattle.answer.specs.StatedAnswers.{Stated, stated}
use Rattle.answer.specs.AnswerLines.{answer_line}
use Rattle.answer.specs.AnswerNumbers.{answer_numbers}
use Rattle.refusal.specs.declared.Refusal.{Refusal}
use Rattle.docket.specs.declared.Lodged.{Lodged}
use Rattle.docket.specs.Docket.{fresh_docket}
use Rattle.docket.specs.Lodging.{lodge_of}
use Rattle.docket.specs.Report.{report_of, buffer_of}
use Rattle.leaves.specs.declared.short.Taken.{Taken}
use Rattle.docket.specs.Taking.{taken_of}
use Rattle.runs.specs.declared.question.Unanswered.{Unanswered}
use Rattle.runs.specs.declared.question.Unanswered.TheVariants.{NoProblem, Unfit}
use Rattle.runs.specs.declared.drafting.NoRuns.{NoRuns}
use Rattle.runs.specs.declared.drafting.NoRuns.TheVariants.{Question, Stuck}
use Rattle.runs.specs.Drafts.{Drafted, unwritten}
use Rattle.forced.specs.Answers.{Told}
use Rattle.docket.specs.Drafting.{runs_of}
use Rattle.docket.specs.Forcing.{forced_of}
use Rattle.state.specs.Layout.{docket_in}
use Rattle.state.specs.Kept.{long, holds, kept_numbers, kept_rows, lodged_numbers, lodged_rows, outputs_count, outputs_of}
use Rattle.docket_host.specs.HostAnswer.{too_little_room}

-- the number of the rules by which texts are judged: it goes up where some text gets another answer
abbrev pub rules : ℕ
rules = 4

-- no docket: the largest number but the one for too little room
abbrev pub no_docket : ℕ
no_docket = 18446744073709551614

-- what a call gives: by whether it was lent enough, and whether the state holds a docket
abbrev pub guarded : {A : Type 0} → Bool → Bool → A → A → A → A
guarded room is short none done = cond room (cond is done none) short

-- ---- a docket begun

unfoldable pub fresh_answer : List ℕ → List ℕ → ℕ
fresh_answer v w = cond (long v w) 0 too_little_room

unfoldable pub fresh_numbers : List ℕ → List ℕ → List ℕ
fresh_numbers v w = cond (long v w) (kept_numbers fresh_docket v) v

unfoldable pub fresh_rows : List ℕ → List ℕ → List ℕ
fresh_rows v w = cond (long v w) (kept_rows fresh_docket w) w

-- ---- a text lodged: the line of its answer and its values, each at the front of what is lent

-- 128 bytes for a line and 16 values
abbrev pub lends : List ℕ → List ℕ → Bool
lends line values = cond (ltb (length line) 128) false (leb 16 (length values))

-- and room for a state
abbrev pub lodge_room : List ℕ → List ℕ → List ℕ → List ℕ → Bool
lodge_room v w line values = cond (long v w) (lends line values) false

module _ (v w text line values : List ℕ) where
  abbrev pub lodged_there : Lodged
  lodged_there = lodge_of (docket_in v w) text

  abbrev pub answer_there : Stated
  answer_there = stated (lodge_of (docket_in v w) text).answer

  abbrev pub lodging : {A : Type 0} → A → A → A → A
  lodging short none done = guarded (lodge_room v w line values) (holds v w) short none done

  unfoldable pub lodge_answer : ℕ
  lodge_answer = lodging too_little_room no_docket (length (answer_line answer_there))

  unfoldable pub lodge_numbers : List ℕ
  lodge_numbers = lodging v v (lodged_numbers lodged_there v)

  unfoldable pub lodge_rows : List ℕ
  lodge_rows = lodging w w (lodged_rows lodged_there w)

  unfoldable pub lodge_line : List ℕ
  lodge_line = lodging line line (over (answer_line answer_there) line)

  unfoldable pub lodge_values : List ℕ
  lodge_values = lodging values values (over (answer_numbers answer_there) values)

-- ---- a report: too little room is 43

abbrev pub report_number : Result ℕ Refusal → ℕ
report_number (Err r) = too_little_room
report_number (Ok n) = n

unfoldable pub report_answer : List ℕ → List ℕ → List ℕ → ℕ → ℕ
report_answer v w b k = guarded (long v w) (holds v w) too_little_room no_docket (report_number (report_of (docket_in v w) b k).answer)

unfoldable pub report_bytes : List ℕ → List ℕ → List ℕ → ℕ → List ℕ
report_bytes v w b k = guarded (long v w) (holds v w) b b (buffer_of (docket_in v w) b k)

-- ---- the outputs of the held schedule: room for 1,536 is asked for, whatever is held

abbrev pub outputs_room : List ℕ → List ℕ → List ℕ → Bool
outputs_room v w o = cond (long v w) (leb 1536 (length o)) false

unfoldable pub outputs_answer : List ℕ → List ℕ → List ℕ → ℕ
outputs_answer v w o = guarded (outputs_room v w o) (holds v w) too_little_room no_docket (outputs_count (docket_in v w))

unfoldable pub outputs_rows : List ℕ → List ℕ → List ℕ → List ℕ
outputs_rows v w o = guarded (outputs_room v w o) (holds v w) o o (over (outputs_of (docket_in v w)) o)

-- ---- why a question has no answer: 1 where no problem is known, 2 where the question does not fit it

abbrev pub unanswered_number : Unanswered → ℕ
unanswered_number NoProblem = 1
unanswered_number Unfit = 2

-- ---- how many units `short` takes: room for two numbers is asked for

abbrev pub taken_room : List ℕ → List ℕ → List ℕ → Bool
taken_room v w o = cond (long v w) (leb 2 (length o)) false

-- 0 where units were taken, 1 where no problem is known, 2 where the question does not fit it
abbrev pub taken_number : Result Taken Unanswered → ℕ
taken_number (Ok t) = 0
taken_number (Err why) = unanswered_number why

-- 1 for short or 0, and how many were taken, at the front of what is lent; in the other cases it stays
abbrev pub taken_written : Result Taken Unanswered → List ℕ → List ℕ
taken_written (Err why) o = o
taken_written (Ok t) o = over (cond t.short 1 0 ∷ (t.units ∷ [])) o

module _ (v w : List ℕ) (period most : ℕ) (fixed o : List ℕ) where
  unfoldable pub taken_answer : ℕ
  taken_answer = guarded (taken_room v w o) (holds v w) too_little_room no_docket (taken_number (taken_of (docket_in v w) period most fixed))

  unfoldable pub taken_numbers : List ℕ
  taken_numbers = guarded (taken_room v w o) (holds v w) o o (taken_written (taken_of (docket_in v w) period most fixed) o)

-- ---- the runs of a price leaf: the lengths of all slices but the state's are exact

-- 0 where they were found, 1 where no problem is known, 2 where the question does not fit it, 100 + u for the stuck unit u
abbrev pub runs_number : Result ℤ NoRuns → ℕ
runs_number (Ok z) = 0
runs_number (Err (Question why)) = unanswered_number why
runs_number (Err (Stuck u)) = 100 + u

-- a stuck unit is one of 32
abbrev pub Few : Result ℤ NoRuns → Type 0
Few (Ok z) = Unit {0}
Few (Err (Question why)) = Unit {0}
Few (Err (Stuck u)) = u ≤ 32

-- the leaf's value, where it was found; in the other cases what is lent for it stays
abbrev pub value_told : Result ℤ NoRuns → List ℤ → List ℤ
value_told (Ok z) l = z ∷ []
value_told (Err why) l = l

module _ (v w q s fixed rows short : List ℕ) (value : List ℤ) where
  -- under a known problem a question with room for another number of values than one is unfit too
  unfoldable pub runs_there : Drafted
  runs_there = cond (eqb (length value) 1) (runs_of (docket_in v w) q s fixed rows short) (unwritten rows short (Err (Question (cond (docket_in v w).known Unfit NoProblem))))

  abbrev pub drafting : {A : Type 0} → A → A → A → A
  drafting few none done = guarded (long v w) (holds v w) few none done

  unfoldable pub runs_answer : ℕ
  runs_answer = drafting too_little_room no_docket (runs_number runs_there.answer)

  unfoldable pub runs_rows : List ℕ
  runs_rows = drafting rows rows runs_there.rows

  unfoldable pub runs_short : List ℕ
  runs_short = drafting short short runs_there.short

  unfoldable pub runs_value : List ℤ
  runs_value = drafting value value (value_told runs_there.answer value)

  -- a number and three lists are what is answered, and what the slices then hold
  abbrev pub Tells : ℕ → List ℕ → List ℕ → List ℤ → Type 0
  Tells r rows' short' value' = (r ≡ runs_answer) × ((rows' ≡ runs_rows) × ((short' ≡ runs_short) × (value' ≡ runs_value)))

-- ---- forced statuses: the lengths of all slices but the state's are exact

-- 0 where the entries are written, 1 where no problem is known, 2 where the question does not fit it
abbrev pub forced_number : Result (Unit {0}) Unanswered → ℕ
forced_number (Ok u) = 0
forced_number (Err why) = unanswered_number why

module _ (v w q s fixed : List ℕ) (values : List ℤ) (stuck : List ℕ) where
  abbrev pub forced_there : Told
  forced_there = forced_of (docket_in v w) q s fixed values stuck

  unfoldable pub forced_answer : ℕ
  forced_answer = guarded (long v w) (holds v w) too_little_room no_docket (forced_number forced_there.answer)

  unfoldable pub forced_values : List ℤ
  forced_values = guarded (long v w) (holds v w) values values forced_there.values

  unfoldable pub forced_stuck : List ℕ
  forced_stuck = guarded (long v w) (holds v w) stuck stuck forced_there.stuck

  -- a number and two lists are what is answered, and what the slices then hold
  abbrev pub Forces : ℕ → List ℤ → List ℕ → Type 0
  Forces r values' stuck' = (r ≡ forced_answer) × ((values' ≡ forced_values) × (stuck' ≡ forced_stuck))
