-- A schedule's text is well-formed exactly where it renders a writer and rows in range, in at most 1,048,576 bytes: 12, 14 and 13 are all the numbers of its
-- lines, so every line passes.
use Prim.Native.Nat.{ℕ, ◌≤◌}
use mathlib.Core.Path.{◌≡◌, refl, sym, subst}
use mathlib.Core.Bool.{true}
use mathlib.Core.Logic.{◌↔◌}
use mathlib.Core.List.{List}
use lib.ListN.{length}
use Rattle.model.specs.Instance.{Instance, Schedule}
use Rattle.model.specs.Ranges as ranges
use Rattle.model.specs.Ranges.{GoodWriter, GoodRows}
use Rattle.text.specs.Lines.{Line, later, lines_of, line_at}
use Rattle.text.specs.Tests.{StopsAt}
use Rattle.text.specs.WellFormed.{of_form}
use Rattle.text.proofs.Tests.{Every}
use Rattle.text.proofs.Courses.{number_every}
use Rattle.text.proofs.FirstLine.{schedule_is}
use Rattle.text.proofs.WellFormed.{unrefused_passed, passed_unrefused}
use Rattle.schedule.specs.Rendering.{render}
use Rattle.schedule.specs.Course.{Due, writer_due, run_due, end_due, nothing_due, tests, next_due, end}
use Rattle.schedule.specs.Refusals.{BrokenAt, written}
use Rattle.schedule.specs.ReadAnswers.{IsSchedule}
use Rattle.schedule.specs.WellFormed.{WellFormed}
use Rattle.schedule.proofs.Rendered.{lines_good_is}
use Rattle.schedule.proofs.WhichLine.{line_refused_is}
use Rattle.schedule.proofs.Wholes.{render_is_schedule, rendered_is}

module _ (P : Instance) where
  all_of_form : (s : Due) (l : Line) → Every (λ n. of_form n ≡ true) (tests P s l)
  all_of_form writer_due l = (refl, (refl, (refl, tt)))
  all_of_form (run_due n v) l = (refl, (refl, (refl, tt)))
  all_of_form (end_due v) l = (refl, tt)
  all_of_form (nothing_due v) l = (refl, tt)

  pub well_formed_is : ranges.WellFormed P → (text : List ℕ)
      → WellFormed P text ↔ ((length text ≤ 1048576) × ((w : ℕ) × (s : Schedule) × ((text ≡ render w s) × GoodWriter w × GoodRows P s)))
  well_formed_is W text = (forth, back)
    where
      which : (n m : ℕ) → StopsAt (tests P) (next_due P) end n m 2 writer_due (later (lines_of text)) ↔ BrokenAt P n m (later (lines_of text))
      which n m = line_refused_is P W.periods_in.0 n m (later (lines_of text))

      forth : WellFormed P text → (length text ≤ 1048576) × ((w : ℕ) × (s : Schedule) × ((text ≡ render w s) × GoodWriter w × GoodRows P s))
      forth f =
          let p = unrefused_passed (tests P) (next_due P) end 2 writer_due (later (lines_of text))
          (λ n m r. f.unbroken n m (number_every (tests P) (next_due P) end (λ k. of_form k ≡ true) refl all_of_form n m 2 writer_due (later (lines_of text)) r) ((which n m).0 r)) in
          let v = p.0 in
          let g = (lines_good_is P W.periods_in.0 v.writer v.rows (later (lines_of text))).0 p.1 in
          (f.short, (v.writer, v.rows, ((rendered_is text ((schedule_is (line_at text 0)).1 f.first) v.writer v.rows).0 g.0, g.1.0, g.1.1)))

      back : (length text ≤ 1048576) × ((w : ℕ) × (s : Schedule) × ((text ≡ render w s) × GoodWriter w × GoodRows P s)) → WellFormed P text
      back (short, (w, s, (e, ok, rows))) =
          let is = subst IsSchedule (sym e) (render_is_schedule w s) in
          let a = (lines_good_is P W.periods_in.0 w s (later (lines_of text))).1 ((rendered_is text is w s).1 e, (ok, rows)) in
          record {
            short = short;
            first = (schedule_is (line_at text 0)).0 is;
            unbroken = λ n m k r. passed_unrefused (tests P) (next_due P) end 2 writer_due (later (lines_of text)) (written w s) a n m ((which n m).1 r);
          }
