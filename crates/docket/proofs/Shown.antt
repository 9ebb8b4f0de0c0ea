-- What a report shows after a list is what is due and nothing else: its bytes are read back as figures, and where there is room the figures due are shown.
use mathlib.Core.Path.{◌≡◌, refl, sym, ap, ◌∙◌}
use mathlib.Core.List.{List, ◌++◌}
use mathlib.Core.Logic.{inl, inr}
use mathlib.Core.Option.{none}
use Prim.Native.Nat.{ℕ, ◌+◌}
use native.Mathlib.Omega.{arith}
use lib.ListN.{length, take, drop, replicate, length-replicate}
use lib.Seq.{drop-append_seam}
use Rattle.model.proofs.Lists.{held_least, held_highest}
use Rattle.report.specs.Report.{report_lines}
use Rattle.report.specs.declared.Figures as shown
use Rattle.tree.specs.Acceptance.{Bounded}
use Rattle.report.specs.StatedReports.{refused, its_length}
use Rattle.docket.specs.Verdicts.{Costed, Verdict, schedules, trees}
use Rattle.docket.specs.Texts.{Are}
use Rattle.docket.specs.ReportDue.{figures_due, ReportDue, WrittenOr43, Reports}
use Rattle.docket.specs.Demand3.{reached, Lodging, Reporting, Writing, Demand3}
use Rattle.docket.specs.Shown.{reported, left, Shows}
use Rattle.docket.proofs.Reached.{least, highest}
use Rattle.docket.proofs.OneReport.{same_figures, one_report, reports_then}
use Rattle.docket.proofs.ReportLines.{lines_one}

-- a refusal is no length
pub not_stated : {A : Type 0} {n l u t m : ℕ} → refused n l u t ≡ its_length m → A
not_stated e = absurd (let z : ◌≡◌ {A = ℕ} 0 1 = cc in omega arith)

-- what follows the same front is the same
pub same_rest : (a x y : List ℕ) → a ++ x ≡ a ++ y → x ≡ y
same_rest a x y e = sym (drop-append_seam a x) ∙ ap (drop (length a)) e ∙ drop-append_seam a y

-- the lines due after a list, by its verdicts
abbrev pub due_after : (vs : List Verdict) → ReportDue vs (report_lines (figures_due (least vs) (highest vs)))
due_after vs = record {
  cheapest = least vs;
  is_cheapest = held_least (λ (s : Costed). s.cost) (schedules vs);
  highest = highest vs;
  is_highest = held_highest (λ (F : Bounded). F.figures.bound) (trees vs);
  lines_are = refl;
}

module _ (lodge : Lodging) (report : Reporting) (buffer : Writing) where
  -- what becomes of the lines, where they are those due
  abbrev pub There : List (List ℕ) → (lines b : List ℕ) → ℕ → Type 0
  There texts lines b k = WrittenOr43 lines b k (reported lodge report texts b k) (left lodge buffer texts b k)

module _ (lodge : Lodging) (report : Reporting) (buffer : Writing) (D : Demand3 lodge report buffer) where
  -- ---- the figures that a report shows are those due

  module _ (texts : List (List ℕ)) (vs : List Verdict) (are : Are none texts vs) (lines : List ℕ) (R : ReportDue vs lines) where
    pub shown_is : (f : shown.Figures) → Shows lodge report buffer texts f → f ≡ figures_due R.cheapest R.highest
    shown_is f s = go S.outcome
      where
        S : Reports vs (reached lodge texts) s.b s.k (report (reached lodge texts) s.b s.k) (buffer (reached lodge texts) s.b s.k)
        S = reports_then lodge D texts vs are s.b s.k

        go : There lodge report buffer texts S.lines s.b s.k → f ≡ figures_due R.cheapest R.highest
        go (inl w) =
            let e = same_rest (take s.k s.b) (report_lines f ++ drop (s.k + length (report_lines f)) s.b) (S.lines ++ drop (s.k + length S.lines) s.b) (sym s.buffer_is ∙ w.buffer_is) in
            lines_one f (figures_due S.lines_due.cheapest S.lines_due.highest) (drop (s.k + length (report_lines f)) s.b) (drop (s.k + length S.lines) s.b)
            (e ∙ ap (λ (l : List ℕ). l ++ drop (s.k + length S.lines) s.b) S.lines_due.lines_are)
            ∙ same_figures vs S.lines lines S.lines_due R
        go (inr w) = not_stated (sym w.answer_is ∙ s.answer_is)

    -- and one is shown, wherever there is room
    pub shows_due : Shows lodge report buffer texts (figures_due R.cheapest R.highest)
    shows_due = go S.outcome
      where
        b : List ℕ
        b = replicate (length lines) 0

        S : Reports vs (reached lodge texts) b 0 (report (reached lodge texts) b 0) (buffer (reached lodge texts) b 0)
        S = reports_then lodge D texts vs are b 0

        same : S.lines ≡ report_lines (figures_due R.cheapest R.highest)
        same = one_report vs S.lines lines S.lines_due R ∙ R.lines_are

        go : There lodge report buffer texts S.lines b 0 → Shows lodge report buffer texts (figures_due R.cheapest R.highest)
        go (inl w) = record {
          b = b;
          k = 0;
          answer_is = w.answer_is ∙ ap (λ (l : List ℕ). its_length (length l)) same;
          buffer_is = w.buffer_is ∙ ap (λ (l : List ℕ). take 0 b ++ (l ++ drop (0 + length l) b)) same;
        }
        go (inr w) = absurd (omega (arith, w.no_room, length-replicate {A = ℕ} (length lines) 0, ap length (one_report vs S.lines lines S.lines_due R)))
