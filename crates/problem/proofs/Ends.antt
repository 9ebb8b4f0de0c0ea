-- The end line of a problem's text, and nothing after it.
use Prim.Native.Nat.{ℕ}
use mathlib.Core.Path.{◌≡◌, refl, sym, ap, ◌∙◌}
use mathlib.Core.Bool.{true}
use mathlib.Core.List.{List}
use lib.ListN.{drop}
use Rattle.model.specs.Instance.{Instance}
use Rattle.text.specs.Lines.{Line, lines_of, is_line, end_problem}
use Rattle.text.specs.Course.{good}
use Rattle.text.specs.Ends.{end_of, ended_by, EndDue}
use Rattle.text.specs.declared.End.{End}
use Rattle.text.proofs.Ends.{end_judged}
use Rattle.problem.specs.Course.{end_due, nothing_due, judge, end}
use Rattle.problem.specs.ReadAnswers.{read_as}
use Rattle.problem.specs.Storing.{read_from}

pub judge_end : (P : Instance) (l : Line) → is_line end_problem l ≡ true → judge (end_due P) l ≡ good (nothing_due P)
unfolding judge
judge_end P l e = simp e

module _ (P : Instance) where
  ends : EndDue judge end end_problem (end_due P) P
  unfolding judge
  ends = record {
    then = nothing_due P;
    not_there = refl;
    wrong_word = λ l e. simp e;
    right_word = judge_end P;
    may_end = refl;
    unended_after = λ b. refl;
    ended_after = λ b. refl;
  }

  -- what reading gives from the end line on, by what stands there
  pub end_read : (text : List ℕ) (at l : ℕ) (e : End) → e ≡ end_of end_problem (lines_of (drop at text)) → read_as (ended_by l P e) ≡ read_from text at l (end_due P)
  unfolding read_from
  end_read text at l e q = ap read_as (ap (ended_by l P) q ∙ sym (end_judged judge end end_problem (end_due P) P ends l (drop at text)))
