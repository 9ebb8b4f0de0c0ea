-- A schedule's text judged line by line, as the code follows it: what is due after the first line, and what each line is found to be at its place.
use Rattle.std.specs.Prelude.{ℕ, zero, suc, List, [], ◌∷◌, ◌++◌, length}
use Rattle.std.proofs.Math.Option.{Option, none, some}
use Rattle.model.specs.Instance.{Instance, ◌at◌}
use Rattle.text.specs.Lines.{Line, later, lines_of, end_schedule}
use Rattle.text.specs.Forms.{numbers_of, form_tests, word_tests, nothing_tests}
use Rattle.text.specs.Writer.{writer_form}
use Rattle.text.specs.Course.{Found, Judged, judged_from}
use Rattle.text.specs.Tests.{Test, found}
use Rattle.schedule.specs.Refusals.{run_form, Written, written}

-- ---- what is due

-- the line that is due, with what the lines above it said; of a run line also how many run lines follow it
pub data Due : Type 0 where
  writer_due : Due
  run_due : ℕ → Written → Due
  end_due : Written → Due
  nothing_due : Written → Due

-- n run lines, and then the end line
abbrev pub runs_due : ℕ → Written → Due
runs_due zero v = end_due v
runs_due (suc n) v = run_due n v

-- one row more
abbrev pub with_row : Written → List ℕ → Written
with_row v r = written v.writer (v.rows ++ (r ∷ []))

module _ (P : Instance) where
  -- what is due after a good line: a writer, I rows of T outputs, the end line, and nothing after it
  abbrev pub next_due : Due → Line → Due
  next_due writer_due l = runs_due (length P.units) (written (numbers_of writer_form l at 0) [])
  next_due (run_due n v) l = runs_due n (with_row v (numbers_of (run_form P.periods) l))
  next_due (end_due v) l = nothing_due v
  next_due (nothing_due v) l = nothing_due v

  -- document 01, Numbers that come from the text: the tests of a line at its place
  abbrev pub tests : Due → Line → List Test
  tests writer_due l = form_tests writer_form l []
  tests (run_due n v) l = form_tests (run_form P.periods) l []
  tests (end_due v) l = word_tests end_schedule l
  tests (nothing_due v) l = nothing_tests

  -- refused by the first of them that holds, or good, with what is due then
  unfoldable pub judge : Due → Line → Found Due
  judge s l = found (tests s l) (next_due s l)

-- the text may end where nothing is due
abbrev pub end : Due → Option Written
end writer_due = none
end (run_due n v) = none
end (end_due v) = none
end (nothing_due v) = some v

-- the lines of a text after its first, kind=schedule
unfoldable pub schedule_judged : Instance → List ℕ → Judged Written
schedule_judged P text = judged_from (judge P) end 2 writer_due (later (lines_of text))
