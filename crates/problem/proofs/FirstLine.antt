-- The first line of a problem's text: kind=problem and byte 10, so the second line starts at place 13.
use Prim.Native.Nat.{ℕ}
use mathlib.Core.Path.{◌≡◌, ap}
use mathlib.Core.List.{List}
use Rattle.text.specs.Lines.{line_at, kind_problem}
use Rattle.text.specs.Course.{judged_from}
use Rattle.text.proofs.Cuts.{next_lines}
use Rattle.text.proofs.FirstLine.{problem_is}
use Rattle.problem.specs.Course.{periods_due, judge, end, problem_judged}
use Rattle.problem.specs.ReadAnswers.{IsProblem, read_as, problem_read}
use Rattle.problem.specs.Storing.{read_from}

-- what stands at place 13 is what is judged
pub from_second : (text : List ℕ) → IsProblem text → read_from text 13 2 periods_due ≡ problem_read text
unfolding read_from problem_read problem_judged
from_second text k = ap (λ ls. read_as (judged_from judge end 2 periods_due ls)) (next_lines text kind_problem 0 ((problem_is (line_at text 0)).0 k))
