-- A problem's text is refused by a number at a line exactly where the lines before it begin the text of a well-formed problem and that number refuses it there:
-- the law of courses, and WhichLine.antt. Each of these numbers carries its line.
use Prim.Native.Nat.{ℕ}
use mathlib.Core.Path.{◌≡◌, refl}
use mathlib.Core.Bool.{true}
use mathlib.Core.Logic.{◌↔◌}
use mathlib.Core.List.{List}
use Rattle.refusal.specs.Refusals.{carries_line, refusal_of, line_refusal}
use Rattle.refusal.proofs.Places.{line_only}
use Rattle.text.specs.Lines.{Line, missing, later, lines_of}
use Rattle.text.specs.Forms.{malformed}
use Rattle.text.specs.Course.{refused, refused_at}
use Rattle.text.proofs.Tests.{Every}
use Rattle.text.proofs.Courses as courses
use Rattle.text.proofs.Courses.{number_every}
use Rattle.problem.specs.Course.{Due, periods_due, units_due, demand_due, spare_due, unit_due, end_due, nothing_due, next_due, tests, judge, end, problem_judged}
use Rattle.problem.specs.Refusals.{RefusedAt}
use Rattle.problem.proofs.WhichLine.{refused_line_is}

-- a line that is missing is 12, whatever is due
pub judge_missing : (s : Due) → judge s missing ≡ refused 12
unfolding judge malformed
judge_missing periods_due = refl
judge_missing (units_due T) = refl
judge_missing (demand_due T I) = refl
judge_missing (spare_due T I D) = refl
judge_missing (unit_due n P) = refl
judge_missing (end_due P) = refl
judge_missing (nothing_due P) = refl

-- refused by n at line m
pub refused_is : (n m : ℕ) (text : List ℕ) → (problem_judged text ≡ refused_at n m) ↔ RefusedAt text n m
unfolding problem_judged judge
refused_is n m text =
    let c = courses.refused_is tests next_due end n m 2 periods_due (later (lines_of text)) in
    let w = refused_line_is n m text in
    (λ e. w.0 (c.0 e), λ r. c.1 (w.1 r))

all_lined : (s : Due) (l : Line) → Every (λ n. carries_line n ≡ true) (tests s l)
unfolding carries_line
all_lined periods_due l = (refl, (refl, (refl, tt)))
all_lined (units_due T) l = (refl, (refl, (refl, tt)))
all_lined (demand_due T I) l = (refl, (refl, (refl, tt)))
all_lined (spare_due T I D) l = (refl, (refl, (refl, tt)))
all_lined (unit_due n P) l = (refl, (refl, (refl, (refl, tt))))
all_lined (end_due P) l = (refl, tt)
all_lined (nothing_due P) l = (refl, tt)

pub refused_carries : (n m : ℕ) (text : List ℕ) → RefusedAt text n m → refusal_of n m 0 0 ≡ line_refusal n m
unfolding carries_line
refused_carries n m text r =
    line_only n m (number_every tests next_due end (λ k. carries_line k ≡ true) refl all_lined n m 2 periods_due (later (lines_of text)) ((refused_line_is n m text).1 r))
