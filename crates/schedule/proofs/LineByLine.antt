-- Reading goes from line to line: a good line is passed, and what follows it is read with what is then due; a refused line ends it.
use Prim.Native.Nat.{ℕ, suc}
use mathlib.Core.Path.{◌≡◌, refl, ap}
use mathlib.Core.Bool.{true, false}
use mathlib.Core.List.{List, []}
use mathlib.Core.Option.{none}
use Rattle.model.specs.Instance.{Instance}
use Rattle.text.specs.Lines.{Line, line_at}
use Rattle.text.specs.Forms.{Form, form_refusal, place_after, form_tests}
use Rattle.text.specs.Forms as forms
use Rattle.text.specs.Course.{Judged}
use Rattle.text.specs.Tests.{Test, found}
use Rattle.text.proofs.LineByLine.{numbers_refused, numbers_good}
use Rattle.schedule.specs.Course.{Due, tests, next_due, judge, end}
use Rattle.schedule.specs.Refusals.{Written}
use Rattle.schedule.specs.ReadAnswers.{by_lines, in_arrays}
use Rattle.schedule.specs.Storing.{refused_read, read_from}
use Rattle.schedule.specs.declared.ScheduleRead.{ScheduleRead}
use Rattle.schedule.proofs.LinesRefused.{judge_missing}

module _ (P : Instance) (text : List ℕ) (at l : ℕ) (s : Due) (ends : end s ≡ none) where
  -- the line, what is due after it if it is good, and what reading gives of what is judged
  abbrev here : Line
  here = line_at text at

  abbrev next : Due
  next = next_due P s here

  abbrev read : Judged Written → ScheduleRead
  read j = in_arrays (by_lines P j)

  -- where a line of numbers is due
  module _ (f : Form) (form : tests P s here ≡ form_tests f here []) where
    pub row_passed : forms.good_line f here ≡ true → read_from P text at l s ≡ read_from P text (place_after here at) (suc l) next
    unfolding read_from judge
    row_passed g = ap read (numbers_good (judge P) end (judge_missing P) text at l s f [] next (ap (λ (ts : List Test). found ts next) form) next refl g)

    pub row_stopped : forms.good_line f here ≡ false → read_from P text at l s ≡ refused_read (form_refusal f here) l
    unfolding read_from judge
    row_stopped g = ap read (numbers_refused (judge P) end (judge_missing P) text at l s f [] next (ap (λ (ts : List Test). found ts next) form) ends g)
