-- Document 02, [5], asked of a problem: the entries of all units at multipliers and under fixed statuses that the question names, in slices that are lent for them.
use Rattle.std.specs.Prelude.{◌≡◌, Bool, cond, ◌&&◌, Result, Ok, Err, List, map, ℕ, ◌*◌, ◌≤◌, eqb, ℤ, length}
use Rattle.std.proofs.Math.Option.{Option}
use Rattle.model.specs.Instance.{Instance, ◌at◌}
use Rattle.model.specs.Ranges.{All, GoodPrice}
use Rattle.model.specs.Forced.{forced_tables, value_number, stuck_number}
use Rattle.runs.specs.declared.question.Unanswered.{Unanswered}
use Rattle.runs.specs.declared.question.Unanswered.TheVariants.{Unfit}
use Rattle.runs.specs.Questions.{asked_in}
use Rattle.runs.specs.Drafts.{marks_asked}

-- ---- the question

-- it fits I units in T periods: T multipliers of either kind, I-as-T statuses, and room for 2·I·T values and as many bytes
abbrev pub fits_in : ℕ → ℕ → List ℕ → List ℕ → List ℕ → ℕ → ℕ → Bool
fits_in T I q s fixed values stuck = eqb values (2 * (I * T)) && (eqb stuck (2 * (I * T)) && asked_in T I q s fixed)

abbrev pub fits : Instance → List ℕ → List ℕ → List ℕ → ℕ → ℕ → Bool
fits P = fits_in P.periods (length P.units)

-- the same without the test
pub record FitQuestion (P : Instance) (q s fixed : List ℕ) (values stuck : ℕ) : Type 0 where
  pub q_long : length q ≡ P.periods
  pub s_long : length s ≡ P.periods
  pub fixed_long : length fixed ≡ length P.units * P.periods
  pub values_long : values ≡ 2 * (length P.units * P.periods)
  pub stuck_long : stuck ≡ 2 * (length P.units * P.periods)
  pub q_in : All GoodPrice q
  pub s_in : All GoodPrice s
  pub statuses : All (λ b. b ≤ 2) fixed

-- ---- the answer

-- what comes back, and what the slices for the values and for the bytes then hold
pub record Told : Type 0 where
  pub answer : Result (Unit {0}) Unanswered
  pub values : List ℤ
  pub stuck : List ℕ

-- the slices as they were
abbrev pub untold : List ℤ → List ℕ → Result (Unit {0}) Unanswered → Told
untold values stuck a = record { answer = a; values = values; stuck = stuck }

module _ (P : Instance) (q s fixed : List ℕ) where
  -- the entries of all units
  abbrev pub entries_asked : List (Option ℤ)
  entries_asked = forced_tables P.periods (λ t. q at t) (λ t. s at t) P.units (marks_asked P fixed)

  -- of a question that fits: all entries, each in two numbers; of any other nothing
  unfoldable pub told_under : List ℤ → List ℕ → Told
  told_under values stuck =
      cond (fits P q s fixed (length values) (length stuck))
      (record { answer = Ok tt; values = map value_number entries_asked; stuck = map stuck_number entries_asked })
      (untold values stuck (Err Unfit))
