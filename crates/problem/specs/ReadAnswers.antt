-- What reading a problem gives.
use Rattle.std.specs.Prelude.{ℕ, ◌≡◌, List, Result, Ok, Err}
use Rattle.model.specs.Instance.{Instance}
use Rattle.model.specs.Held.{held}
use Rattle.model.specs.declared.arrays.Problem.{Problem}
use Rattle.refusal.specs.Refusals.{refusal_of}
use Rattle.refusal.specs.declared.Refusal.{Refusal}
use Rattle.text.specs.Lines.{line_at, kind_of}
use Rattle.text.specs.Course.{Judged, refused_at, accepted}
use Rattle.text.specs.declared.Kind.TheVariants as kind
use Rattle.problem.specs.Course.{problem_judged}

-- the first line is kind=problem
abbrev pub IsProblem : List ℕ → Type 0
IsProblem text = kind_of (line_at text 0) ≡ kind.Problem

-- the refusal with its line, or the problem in arrays
unfoldable pub read_as : Judged Instance → Result Problem Refusal
read_as (refused_at n l) = Err (refusal_of n l 0 0)
read_as (accepted P) = Ok (held P)

-- what reading a text gives whose first line is kind=problem
unfoldable pub problem_read : List ℕ → Result Problem Refusal
problem_read text = read_as (problem_judged text)
