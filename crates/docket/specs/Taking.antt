-- Document 02, [2], asked of a docket: how many units `short` takes in a period, under statuses and an upper count that the question names.
use Rattle.std.specs.Prelude.{◌≡◌, Bool, cond, ◌&&◌, Result, Ok, Err, List, ℕ, ◌*◌, ◌-◌, ◌≤◌, leb, length}
use Rattle.std.proofs.Math.Option.{none}
use Rattle.model.specs.Instance.{Instance}
use Rattle.model.specs.Ranges.{Between, All, between}
use Rattle.model.specs.Held.{view}
use Rattle.model.specs.Above.{Above, put}
use Rattle.walk.specs.Marks.{most_of, marks_in}
use Rattle.leaves.specs.declared.short.Taken.{Taken}
use Rattle.leaves.specs.LeafLeasts.{taken_in}
use Rattle.runs.specs.declared.question.Unanswered.{Unanswered}
use Rattle.runs.specs.declared.question.Unanswered.TheVariants.{NoProblem, Unfit}
use Rattle.runs.specs.Questions.{statuses_in}
use Rattle.docket.specs.declared.Docket.{Docket}
use Rattle.docket.specs.Lodging.{trusted}

-- the question fits I units in T periods: a period from 1 to T; no upper count, or one below I, by a number that is 0 for none and else one more; I-as-T statuses
abbrev pub fits_in : ℕ → ℕ → ℕ → ℕ → List ℕ → Bool
fits_in T I period most fixed = between 1 period T && (leb most I && statuses_in T I fixed)

abbrev pub fits : Instance → ℕ → ℕ → List ℕ → Bool
fits P = fits_in P.periods (length P.units)

-- the same without the test
pub record FitQuestion (P : Instance) (period most : ℕ) (fixed : List ℕ) : Type 0 where
  pub period_in : Between 1 period P.periods
  pub most_in : most ≤ length P.units
  pub long : length fixed ≡ length P.units * P.periods
  pub statuses : All (λ b. b ≤ 2) fixed

-- what stands above: the statuses, unit u's from u·T on, and in period t, counted from 0, the upper count
abbrev pub asked : Instance → ℕ → ℕ → List ℕ → Above
asked P t most fixed = record {
  marks = marks_in (length P.units) P.periods fixed;
  most = put t (most_of most) (λ v. none);
  least = λ v. 0;
}

-- whether `short` holds there under that, and how many units are taken
unfoldable pub taken_under : Instance → ℕ → ℕ → List ℕ → Result Taken Unanswered
taken_under P period most fixed = cond (fits P period most fixed) (Ok (taken_in P (asked P (period - 1) most fixed) (period - 1))) (Err Unfit)

-- whether there is a problem to ask about: a value that is not sound is taken for a fresh docket, which knows none
abbrev pub problem_asked : Docket → Result (Unit {0}) Unanswered
problem_asked d = cond (trusted d).known (Ok tt) (Err NoProblem)

-- what is told of any docket
unfoldable pub taken_of : Docket → ℕ → ℕ → List ℕ → Result Taken Unanswered
taken_of d period most fixed = cond (trusted d).known (taken_under (view (trusted d).problem) period most fixed) (Err NoProblem)
