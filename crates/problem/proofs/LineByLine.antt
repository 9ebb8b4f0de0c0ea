-- Reading on from a place of the text: a refused line ends it, a good line hands over to the line after it.
use Prim.Native.Nat.{ℕ, suc}
use mathlib.Core.Path.{◌≡◌, sym, ap, ◌∙◌}
use mathlib.Core.List.{List, []}
use mathlib.Core.Option.{none}
use lib.ListN.{drop}
use Rattle.text.specs.Lines.{later, lines_of, line_at}
use Rattle.text.specs.Forms.{Form, fault_number, row_of, form_tests}
use Rattle.text.specs.Course.{refused, good, refused_at}
use Rattle.text.specs.Tests.{Test, found}
use Rattle.text.specs.declared.Row.{Row}
use Rattle.text.specs.declared.Fault.{Fault}
use Rattle.std.specs.Prelude.{Result, Ok, Err}
use Rattle.model.specs.declared.arrays.Problem.{Problem}
use Rattle.refusal.specs.declared.Refusal.{Refusal}
use Rattle.text.proofs.Verdicts.{fault_read, good_read, good_next, form_refused, form_found}
use Rattle.text.proofs.LineByLine.{step_refused, step_good}
use Rattle.problem.specs.Course.{Due, next_due, tests, judge, end}
use Rattle.problem.specs.ReadAnswers.{read_as}
use Rattle.problem.specs.Storing.{read_from}
use Rattle.problem.proofs.Refusals.{judge_missing}

module _ (text : List ℕ) (at l : ℕ) (s : Due) where
  -- a line is refused
  pub read_refused : (n : ℕ) → end s ≡ none → judge s (line_at text at) ≡ refused n → read_as (refused_at n l) ≡ read_from text at l s
  unfolding read_from
  read_refused n e j = sym (ap read_as (step_refused judge end judge_missing text at l s e n j))

  -- a line is good
  pub read_on : (next : ℕ) (s' : Due) → judge s (line_at text at) ≡ good s' → lines_of (drop next text) ≡ later (lines_of (drop at text))
      → read_from text next (suc l) s' ≡ read_from text at l s
  unfolding read_from
  read_on next s' j k = sym (ap read_as (step_good judge end judge_missing text at l s s' next j k))

  -- ---- a line of numbers that has no tests but those of its form, from the row that is read

  module _ (f : Form) (w : tests s (line_at text at) ≡ form_tests f (line_at text at) []) (read : Result Row Fault) (is : read ≡ row_of f (line_at text at) at) where
    by_form : judge s (line_at text at) ≡ found (form_tests f (line_at text at) []) (next_due s (line_at text at))
    unfolding judge
    by_form = ap (λ (ts : List Test). found ts (next_due s (line_at text at))) w

    -- the answer where it is refused
    pub line_refused : (r : Result Problem Refusal) (w : Fault) → end s ≡ none → read ≡ Err w → r ≡ read_as (refused_at (fault_number w) l) → r ≡ read_from text at l s
    line_refused r w e v a =
        let p = fault_read f (line_at text at) at read is w v in
        a ∙ read_refused (fault_number w) e (by_form ∙ form_refused f (line_at text at) [] (next_due s (line_at text at)) p.0 ∙ ap refused p.1)

    -- the answer where it is good, from the answer of the lines after it
    pub line_good : (r : Result Problem Refusal) (row : Row) (s' : Due) → read ≡ Ok row → next_due s (line_at text at) ≡ s'
        → r ≡ read_from text row.next (suc l) s' → r ≡ read_from text at l s
    line_good r row s' v d a =
        let p = good_read f (line_at text at) at read is row v in
        a
        ∙ read_on row.next s' (by_form ∙ form_found f (line_at text at) [] (next_due s (line_at text at)) p.0 ∙ ap good d)
        (ap (λ (x : Row). lines_of (drop x.next text)) p.1 ∙ good_next f text at p.0)
