-- The lines after kind=schedule are those of the text from byte 14 on, and the first of them is the writer's.
use Prim.Native.Nat.{ℕ}
use mathlib.Core.Path.{◌≡◌, refl, ap, ◌∙◌}
use mathlib.Core.Bool.{false}
use mathlib.Core.List.{List, []}
use lib.ListN.{length}
use Rattle.model.specs.declared.arrays.Problem.{Problem}
use Rattle.model.specs.Instance.{Instance}
use Rattle.model.specs.Held.{view, Valid}
use Rattle.text.specs.Lines.{line_at, kind_schedule}
use Rattle.text.specs.Forms as forms
use Rattle.text.specs.Forms.{form_refusal}
use Rattle.text.specs.Writer.{writer_form}
use Rattle.text.proofs.Cuts.{next_lines}
use Rattle.text.proofs.FirstLine.{schedule_is}
use Rattle.reader.proofs.WriterLines.{Passed}
use Rattle.schedule.specs.Course.{writer_due, runs_due, schedule_judged}
use Rattle.schedule.specs.Refusals.{written}
use Rattle.schedule.specs.ReadAnswers.{IsSchedule, schedule_outcome, schedule_read}
use Rattle.schedule.specs.Storing.{refused_read, read_from}
use Rattle.schedule.proofs.LineByLine.{row_passed, row_stopped}
use Rattle.schedule.proofs.Runs.{units_viewed}

module _ (P : Instance) (text : List ℕ) (is : IsSchedule text) where
  opened : schedule_read P text ≡ read_from P text 14 2 writer_due
  unfolding schedule_read schedule_outcome schedule_judged read_from
  opened = rw (next_lines text kind_schedule 0 ((schedule_is (line_at text 0)).0 is)) refl

  pub opening_stopped : {number : ℕ} → (forms.good_line writer_form (line_at text 14) ≡ false) × (form_refusal writer_form (line_at text 14) ≡ number) → schedule_read P text ≡ refused_read number 2
  opening_stopped g =
      opened ∙ row_stopped P text 14 2 writer_due refl writer_form refl g.0 ∙ ap (λ (n : ℕ). refused_read n 2) g.1

module _ (p : Problem) (valid : Valid p) (whole : length p.generators ≡ 32) (text : List ℕ) (is : IsSchedule text) where
  pub opening_passed : {w next : ℕ} → Passed (line_at text 14) 14 w next → schedule_read (view p) text ≡ read_from (view p) text next 3 (runs_due p.units (written w []))
  opening_passed g =
      opened (view p) text is
      ∙ row_passed (view p) text 14 2 writer_due refl writer_form refl g.line_good
      ∙ rw (g.writer_is, g.next_is, units_viewed p valid whole) refl
