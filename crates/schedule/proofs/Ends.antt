-- The end line of a schedule's text: it is missing, the text goes on past it, or the text ends and the rules decide.
use Prim.Native.Nat.{ℕ}
use mathlib.Core.Path.{◌≡◌, refl, sym, ap, ◌∙◌}
use mathlib.Core.List.{List}
use lib.ListN.{drop}
use Rattle.model.specs.Instance.{Instance}
use Rattle.text.specs.Lines.{lines_of, end_schedule}
use Rattle.text.specs.Ends.{end_of, ended_by, EndDue}
use Rattle.text.specs.declared.End.{End}
use Rattle.text.proofs.Ends.{end_judged}
use Rattle.schedule.specs.Course.{end_due, nothing_due, judge, end}
use Rattle.schedule.specs.Refusals.{Written}
use Rattle.schedule.specs.ReadAnswers.{by_lines, in_arrays}
use Rattle.schedule.specs.Storing.{read_from}

module _ (P : Instance) (v : Written) where
  ends : EndDue (judge P) end end_schedule (end_due v) v
  unfolding judge
  ends = record {
    then = nothing_due v;
    not_there = refl;
    wrong_word = λ l e. simp e;
    right_word = λ l e. simp e;
    may_end = refl;
    unended_after = λ b. refl;
    ended_after = λ b. refl;
  }

  -- what reading gives from the end line on, by what stands there
  pub end_read : (text : List ℕ) (at l : ℕ) (e : End) → e ≡ end_of end_schedule (lines_of (drop at text)) → in_arrays (by_lines P (ended_by l v e)) ≡ read_from P text at l (end_due v)
  unfolding read_from
  end_read text at l e q = ap (λ j. in_arrays (by_lines P j)) (ap (ended_by l v) q ∙ sym (end_judged (judge P) end end_schedule (end_due v) v ends l (drop at text)))
