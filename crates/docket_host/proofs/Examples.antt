-- What the calls ask for, by computation: as much as the header says, and not one less.
use mathlib.Core.Path.{◌≡◌, refl}
use mathlib.Core.Bool.{true, false, cond}
use Prim.Native.Nat.{ℕ, ◌-◌, ◌^◌}
use lib.IntN.{pos, neg_ℤ}
use lib.ListN.{replicate}
use Rattle.docket_host.specs.HostAnswer.{too_little_room}
use Rattle.state.specs.Layout.{numbers_count, rows_count, docket_in}
use mathlib.Core.List.{List, [], ◌∷◌}
use Rattle.std.specs.Prelude.{Ok, Err}
use Rattle.runs.specs.declared.question.Unanswered.TheVariants.{NoProblem, Unfit}
use Rattle.runs.specs.declared.drafting.NoRuns.TheVariants.{Question, Stuck}
use Rattle.runs.specs.Drafts.{unwritten}
use Rattle.docket_host.specs.Calls.{rules, no_docket, lodge_room, outputs_room, taken_room, taken_number, taken_written, runs_number, value_told, runs_there, forced_number}

lodge_enough : lodge_room (replicate 618 0) (replicate 1536 0) (replicate 128 0) (replicate 16 0) ≡ true
lodge_enough = refl

line_short : lodge_room (replicate 618 0) (replicate 1536 0) (replicate 127 0) (replicate 16 0) ≡ false
line_short = refl

values_short : lodge_room (replicate 618 0) (replicate 1536 0) (replicate 128 0) (replicate 15 0) ≡ false
values_short = refl

state_short : lodge_room (replicate 617 0) (replicate 1536 0) (replicate 128 0) (replicate 16 0) ≡ false
state_short = refl

outputs_enough : outputs_room (replicate 618 0) (replicate 1536 0) (replicate 1536 0) ≡ true
outputs_enough = refl

outputs_short : outputs_room (replicate 618 0) (replicate 1536 0) (replicate 1535 0) ≡ false
outputs_short = refl

-- the numbers that are asked for by calls
the_sizes : (numbers_count ≡ 618) × ((rows_count ≡ 1536) × (rules ≡ 4))
the_sizes = (refl, (refl, refl))

-- SIZE_MAX and SIZE_MAX - 1
the_numbers : (too_little_room ≡ 2 ^ 64 - 1) × (no_docket ≡ 2 ^ 64 - 2)
the_numbers = (refl, refl)

taken_enough : taken_room (replicate 618 0) (replicate 1536 0) (replicate 2 0) ≡ true
taken_enough = refl

taken_few : taken_room (replicate 618 0) (replicate 1536 0) (replicate 1 0) ≡ false
taken_few = refl

-- the numbers of enum docket_taken_answer, and the places of enum docket_taken
the_answers : (taken_number (Err NoProblem) ≡ 1) × ((taken_number (Err Unfit) ≡ 2) × (taken_number (Ok (record { short = true; units = 5 })) ≡ 0))
the_answers = (refl, (refl, refl))

the_places : (taken_written (Ok (record { short = true; units = 5 })) (7 ∷ 7 ∷ 7 ∷ []) ≡ 1 ∷ 5 ∷ 7 ∷ [])
    × (taken_written (Ok (record { short = false; units = 5 })) (7 ∷ 7 ∷ 7 ∷ []) ≡ 0 ∷ 5 ∷ 7 ∷ [])
the_places = (refl, refl)

-- the numbers of enum docket_runs_answer, and the value that is told
the_runs : (runs_number (Err (Question NoProblem)) ≡ 1) × ((runs_number (Err (Question Unfit)) ≡ 2) × ((runs_number (Err (Stuck 1)) ≡ 101) × ((runs_number (Err (Stuck 32)) ≡ 132) × (runs_number (Ok (neg_ℤ (pos 5))) ≡ 0))))
the_runs = (refl, (refl, (refl, (refl, refl))))

the_value : (value_told (Ok (neg_ℤ (pos 5))) (pos 7 ∷ []) ≡ neg_ℤ (pos 5) ∷ []) × (value_told (Err (Stuck 1)) (pos 7 ∷ []) ≡ pos 7 ∷ [])
the_value = (refl, refl)

-- room for no value and for two
the_room : (v w q s f r h : List ℕ) → (runs_there v w q s f r h [] ≡ unwritten r h (Err (Question (cond (docket_in v w).known Unfit NoProblem))))
    × (runs_there v w q s f r h (pos 7 ∷ (pos 7 ∷ [])) ≡ unwritten r h (Err (Question (cond (docket_in v w).known Unfit NoProblem))))
unfolding runs_there
the_room v w q s f r h = (refl, refl)

-- the numbers of enum docket_forced_answer
the_forced : (forced_number (Err NoProblem) ≡ 1) × ((forced_number (Err Unfit) ≡ 2) × (forced_number (Ok tt) ≡ 0))
the_forced = (refl, (refl, refl))
