-- A text is accepted line by line exactly where it renders a writer and rows in range; so a rendering in range says whose rows it renders.
use Prim.Native.Nat.{ℕ}
use mathlib.Core.Path.{◌≡◌, refl, sym, ap, ◌∙◌}
use mathlib.Core.Bool.{false}
use mathlib.Core.Logic.{◌↔◌}
use mathlib.Core.List.{List, [], ◌∷◌, map}
use Rattle.model.specs.Instance.{Instance, Schedule}
use Rattle.model.specs.Ranges.{GoodWriter, GoodRows, WellFormed}
use Rattle.text.specs.Lines.{ended, due, later, lines_of, line_at, kind_schedule}
use Rattle.text.specs.Writer.{writer_key}
use Rattle.text.specs.Course.{accepted}
use Rattle.text.proofs.FirstLine.{schedule_is}
use Rattle.text.proofs.Bytes.{rendered_one_line}
use Rattle.text.proofs.Texts.{OneLines, lines_text, whole_is}
use Rattle.text.proofs.Courses as courses
use Rattle.schedule.specs.Rendering.{run_key, lines_of_rows, lines_after, render}
use Rattle.schedule.specs.Course.{writer_due, tests, next_due, judge, end, schedule_judged}
use Rattle.schedule.specs.Refusals.{Written, written}
use Rattle.schedule.specs.ReadAnswers.{IsSchedule}
use Rattle.schedule.proofs.Rendered.{lines_good_is}

-- ---- the lines of a rendering

rows_one : (s : Schedule) → OneLines (lines_of_rows s)
rows_one [] = (refl, tt)
rows_one (r ∷ s) = (rendered_one_line run_key 0 false r refl, rows_one s)

lines_one : (w : ℕ) (s : Schedule) → OneLines (kind_schedule ∷ lines_after w s)
lines_one w s = (refl, (rendered_one_line writer_key 0 false (w ∷ []) refl, rows_one s))

-- its first line says the kind
pub render_is_schedule : (w : ℕ) (s : Schedule) → IsSchedule (render w s)
unfolding render
render_is_schedule w s = (schedule_is (line_at (render w s) 0)).1 (ap due (lines_text (kind_schedule ∷ lines_after w s) (lines_one w s)))

-- a text with these lines after its first is the rendering
pub rendered_is : (text : List ℕ) → IsSchedule text → (w : ℕ) (s : Schedule) → (later (lines_of text) ≡ map ended (lines_after w s)) ↔ (text ≡ render w s)
unfolding render
rendered_is text is w s = whole_is text kind_schedule (lines_after w s) ((schedule_is (line_at text 0)).0 is) (lines_one w s)

-- ---- accepted line by line

module _ (P : Instance) (W : WellFormed P) where
  pub judged_is : (text : List ℕ) → IsSchedule text → (w : ℕ) (s : Schedule)
      → (schedule_judged P text ≡ accepted (written w s)) ↔ ((text ≡ render w s) × (GoodWriter w × GoodRows P s))
  unfolding schedule_judged judge
  judged_is text is w s =
      let a = courses.accepted_is (tests P) (next_due P) end (written w s) 2 writer_due (later (lines_of text)) in
      let g = lines_good_is P W.periods_in.0 w s (later (lines_of text)) in
      let r = rendered_is text is w s in (
        (λ e. let p = g.0 (a.0 e) in (r.0 p.0, p.1)),
        (λ p. a.1 (g.1 (r.1 p.0, p.1))),
      )

  -- a rendering in range renders one writer and one schedule
  pub render_injective : (w w' : ℕ) (s s' : Schedule) → GoodWriter w → GoodRows P s → GoodWriter w' → GoodRows P s' → render w s ≡ render w' s'
      → (w ≡ w') × (s ≡ s')
  render_injective w w' s s' ok rows ok' rows' e =
      let is = render_is_schedule w s in
      let p = (judged_is (render w s) is w s).1 (refl, (ok, rows)) in
      let q = (judged_is (render w s) is w' s').1 (e, (ok', rows')) in
      let same : written w s ≡ written w' s' = let z = sym p ∙ q in cc in
      (ap (λ (v : Written). v.writer) same, ap (λ (v : Written). v.rows) same)
