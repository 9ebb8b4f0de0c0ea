-- A text is refused at a line by a number exactly where `RefusedAt` says so, by renderings: the law of courses, and that of which line. Each of these numbers
-- carries its line.
use Prim.Native.Nat.{ℕ, ◌<◌}
use mathlib.Core.Path.{◌≡◌, refl}
use mathlib.Core.Bool.{true}
use mathlib.Core.Logic.{◌↔◌}
use mathlib.Core.List.{List}
use Rattle.model.specs.Instance.{Instance}
use Rattle.refusal.specs.Refusals.{carries_line, refusal_of, line_refusal}
use Rattle.refusal.proofs.Places.{line_only}
use Rattle.text.specs.Lines.{Line, missing, later, lines_of}
use Rattle.text.specs.Forms.{malformed}
use Rattle.text.specs.Course.{refused, refused_at}
use Rattle.text.proofs.Tests.{Every}
use Rattle.text.proofs.Courses as courses
use Rattle.text.proofs.Courses.{number_every}
use Rattle.schedule.specs.Course.{Due, writer_due, run_due, end_due, nothing_due, tests, next_due, judge, end, schedule_judged}
use Rattle.schedule.specs.Refusals.{RefusedAt}
use Rattle.schedule.proofs.WhichLine.{line_refused_is}

module _ (P : Instance) where
  -- a line that is missing is 12, whatever is due
  pub judge_missing : (s : Due) → judge P s missing ≡ refused 12
  unfolding judge malformed
  judge_missing writer_due = refl
  judge_missing (run_due n v) = refl
  judge_missing (end_due v) = refl
  judge_missing (nothing_due v) = refl

  all_lined : (s : Due) (l : Line) → Every (λ n. carries_line n ≡ true) (tests P s l)
  unfolding carries_line
  all_lined writer_due l = (refl, (refl, (refl, tt)))
  all_lined (run_due n v) l = (refl, (refl, (refl, tt)))
  all_lined (end_due v) l = (refl, tt)
  all_lined (nothing_due v) l = (refl, tt)

  module _ (h : 0 < P.periods) (text : List ℕ) (n l : ℕ) where
    pub refused_is : (schedule_judged P text ≡ refused_at n l) ↔ RefusedAt P text n l
    unfolding schedule_judged judge
    refused_is =
        let a = courses.refused_is (tests P) (next_due P) end n l 2 writer_due (later (lines_of text)) in
        let b = line_refused_is P h n l (later (lines_of text)) in
        (λ e. b.0 (a.0 e), λ r. a.1 (b.1 r))

    pub refused_carries : RefusedAt P text n l → refusal_of n l 0 0 ≡ line_refusal n l
    unfolding carries_line
    refused_carries r =
        line_only n l (number_every (tests P) (next_due P) end (λ k. carries_line k ≡ true) refl all_lined n l 2 writer_due (later (lines_of text))
        ((line_refused_is P h n l (later (lines_of text))).1 r))
