-- A report after a list shows figures: its lines are those of the figures, written from some place on into some buffer.
use Rattle.std.specs.Prelude.{◌≡◌, List, ◌++◌, ℕ, ◌+◌, length, take, drop}
use Rattle.report.specs.Report.{report_lines}
use Rattle.report.specs.declared.Figures as shown
use Rattle.report.specs.StatedReports.{ReportStated, its_length, report_stated}
use Rattle.docket.specs.Demand3.{Lodging, Reporting, Writing, reached}

-- the answer to a report after a list
abbrev pub reported : Lodging → Reporting → List (List ℕ) → List ℕ → ℕ → ReportStated
reported lodge report texts b k = report_stated (report (reached lodge texts) b k).answer

-- and the buffer then
abbrev pub left : Lodging → Writing → List (List ℕ) → List ℕ → ℕ → List ℕ
left lodge buffer texts b k = buffer (reached lodge texts) b k

pub record Shows (lodge : Lodging) (report : Reporting) (buffer : Writing) (texts : List (List ℕ)) (f : shown.Figures) : Type 0 where
  pub b : List ℕ
  pub k : ℕ
  pub answer_is : reported lodge report texts b k ≡ its_length (length (report_lines f))
  pub buffer_is : left lodge buffer texts b k ≡ take k b ++ (report_lines f ++ drop (k + length (report_lines f)) b)
