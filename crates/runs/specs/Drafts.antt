-- Document 02, [7], asked of a problem: the runs and the shortfalls of a price leaf, at multipliers and under fixed statuses that the question names, in slices that
-- are lent for them.
use Rattle.std.specs.Prelude.{◌≡◌, Bool, cond, ◌&&◌, Result, Ok, Err, ℕ, suc, ◌*◌, ◌≤◌, eqb, ℤ, length}
use mathlib.Core.List.{List, flatten}
use Rattle.model.specs.Instance.{Instance, Schedule, ◌at◌}
use Rattle.model.specs.Ranges.{All, GoodPrice}
use Rattle.model.specs.Above.{Marks}
use Rattle.model.specs.Leaf.{any_stuck, leaf_value}
use Rattle.model.specs.Runs.{first_stuck, least_rows, shortfalls}
use Rattle.walk.specs.Marks.{marks_in}
use Rattle.runs.specs.declared.drafting.NoRuns.{NoRuns}
use Rattle.runs.specs.declared.drafting.NoRuns.TheVariants.{Question, Stuck}
use Rattle.runs.specs.declared.question.Unanswered.TheVariants.{Unfit}
use Rattle.runs.specs.Questions.{asked_in}

-- ---- the question

-- it fits I units in T periods: T multipliers of either kind, I-as-T statuses, and room for I-as-T outputs and T shortfalls
abbrev pub fits_in : ℕ → ℕ → List ℕ → List ℕ → List ℕ → ℕ → ℕ → Bool
fits_in T I q s fixed outputs shorts = eqb shorts T && (eqb outputs (I * T) && asked_in T I q s fixed)

abbrev pub fits : Instance → List ℕ → List ℕ → List ℕ → ℕ → ℕ → Bool
fits P = fits_in P.periods (length P.units)

-- the same without the test
pub record FitQuestion (P : Instance) (q s fixed rows short : List ℕ) : Type 0 where
  pub q_long : length q ≡ P.periods
  pub s_long : length s ≡ P.periods
  pub short_long : length short ≡ P.periods
  pub fixed_long : length fixed ≡ length P.units * P.periods
  pub rows_long : length rows ≡ length P.units * P.periods
  pub q_in : All GoodPrice q
  pub s_in : All GoodPrice s
  pub statuses : All (λ b. b ≤ 2) fixed

-- ---- the answer

-- what comes back, and what the slices for the runs and the shortfalls then hold
pub record Drafted : Type 0 where
  pub answer : Result ℤ NoRuns
  pub rows : List ℕ
  pub short : List ℕ

-- the slices as they were
abbrev pub unwritten : List ℕ → List ℕ → Result ℤ NoRuns → Drafted
unwritten rows short a = record { answer = a; rows = rows; short = short }

-- the statuses, unit u's from u·T on
abbrev pub marks_asked : Instance → List ℕ → Marks
marks_asked P fixed = marks_in (length P.units) P.periods fixed

module _ (P : Instance) (q s fixed rows short : List ℕ) where
  -- the runs of all units
  abbrev pub runs_asked : Schedule
  runs_asked = least_rows P.periods (λ t. q at t) (λ t. s at t) P.units (marks_asked P fixed)

  -- of a question that fits: the first stuck unit, from 1, or the leaf's value, the runs one after the other, and how far they fall short
  unfoldable pub drafted : Drafted
  drafted =
      cond (any_stuck P.periods P.units (marks_asked P fixed))
      (unwritten rows short (Err (Stuck (suc (first_stuck P.periods P.units (marks_asked P fixed))))))
      (record {
        answer = Ok (leaf_value P (marks_asked P fixed) (λ t. q at t) (λ t. s at t));
        rows = flatten runs_asked;
        short = shortfalls P runs_asked;
      })

  -- of any question
  unfoldable pub draft_under : Drafted
  draft_under = cond (fits P q s fixed (length rows) (length short)) drafted (unwritten rows short (Err (Question Unfit)))
