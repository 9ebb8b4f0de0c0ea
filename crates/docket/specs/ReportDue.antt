-- Document 01, The docket and its report: the report that the accepted texts of a list make due, and what asking for one does. Nothing here looks at
-- what a docket records.
use Rattle.std.specs.Prelude.{◌≡◌, List, [], ◌++◌, ◌⊎◌, ℕ, ◌+◌, ◌≤◌, ◌<◌, pos, ◌-ℤ◌, length, take, drop}
use Rattle.std.proofs.Math.Option.{Option, none, some}
use Rattle.model.specs.Figures.{Bound}
use Rattle.std.specs.Prelude.{None as never, Some as number}
use Rattle.model.specs.Best.{FirstLeast, FirstHighest}
use Rattle.writer.specs.Written.{figure_of}
use Rattle.writer.specs.declared.Figure.{Figure}
use Rattle.writer.specs.declared.Figure.TheVariants.{Missing, Number}
use Rattle.answer.specs.AnswerLines.{bound_figure}
use Rattle.report.specs.Report.{report_lines}
use Rattle.report.specs.declared.Figures as shown
use Rattle.report.specs.StatedReports.{ReportStated, report_stated, refused, its_length}
use Rattle.tree.specs.Acceptance.{Bounded}
use Rattle.docket.specs.declared.Docket.{Docket}
use Rattle.docket.specs.declared.Reported.{Reported}
use Rattle.docket.specs.Verdicts.{Costed, Verdict, schedules, trees}

-- ---- the five figures, by the best accepted schedule and the best accepted tree, where there are any

abbrev pub cost_due : Option Costed → Figure
cost_due none = Missing
cost_due (some s) = Number s.cost

abbrev pub cost_writer_due : Option Costed → Figure
cost_writer_due none = Missing
cost_writer_due (some s) = Number s.writer

abbrev pub bound_due : Option Bounded → Figure
bound_due none = Missing
bound_due (some F) = bound_figure F.figures.bound

abbrev pub bound_writer_due : Option Bounded → Figure
bound_writer_due none = Missing
bound_writer_due (some F) = Number F.writer

-- the gap: what the cost is above the bound, where each is a number
abbrev pub gap_between : ℕ → Bound → Figure
gap_between c never = Missing
gap_between c (number z) = figure_of (pos c -ℤ z)

abbrev pub gap_due : Option Costed → Option Bounded → Figure
gap_due none b = Missing
gap_due (some s) none = Missing
gap_due (some s) (some F) = gap_between s.cost F.figures.bound

abbrev pub figures_due : Option Costed → Option Bounded → shown.Figures
figures_due s F = record {
  cost = cost_due s;
  costwriter = cost_writer_due s;
  bound = bound_due F;
  boundwriter = bound_writer_due F;
  gap = gap_due s F;
}

-- ---- the lines due

-- of the accepted schedules the first with the least cost, none where none was accepted
abbrev pub IsCheapest : Option Costed → List Costed → Type 0
IsCheapest none accepted = accepted ≡ []
IsCheapest (some s) accepted = FirstLeast (λ x. x.cost) s accepted

-- of the accepted trees the first with the highest bound, none where none was accepted
abbrev pub IsHighest : Option Bounded → List Bounded → Type 0
IsHighest none accepted = accepted ≡ []
IsHighest (some F) accepted = FirstHighest (λ x. x.figures.bound) F accepted

-- the seven lines that show them
pub record ReportDue (vs : List Verdict) (lines : List ℕ) : Type 0 where
  pub cheapest : Option Costed
  pub is_cheapest : IsCheapest cheapest (schedules vs)
  pub highest : Option Bounded
  pub is_highest : IsHighest highest (trees vs)
  pub lines_are : lines ≡ report_lines (figures_due cheapest highest)

-- ---- a report asked for

-- the lines are written into the buffer b from the place k on, and the bytes outside stay
pub record IsWritten (lines b : List ℕ) (k : ℕ) (answer : ReportStated) (buffer : List ℕ) : Type 0 where
  pub room : k + length lines ≤ length b
  pub answer_is : answer ≡ its_length (length lines)
  pub buffer_is : buffer ≡ take k b ++ (lines ++ drop (k + length lines) b)

-- 43: from the place on the buffer has no room for the lines. It is as it was
pub record Is43 (lines b : List ℕ) (k : ℕ) (answer : ReportStated) (buffer : List ℕ) : Type 0 where
  pub no_room : length b < k + length lines
  pub answer_is : answer ≡ refused 43 0 0 0
  pub buffer_is : buffer ≡ b

abbrev pub WrittenOr43 : (lines b : List ℕ) (k : ℕ) (answer : ReportStated) (buffer : List ℕ) → Type 0
WrittenOr43 lines b k answer buffer = IsWritten lines b k answer buffer ⊎ Is43 lines b k answer buffer

-- asked of the docket d after a list with these verdicts: the docket is as it was, and the lines due are written or refused
pub record Reports (vs : List Verdict) (d : Docket) (b : List ℕ) (k : ℕ) (reported : Reported) (buffer : List ℕ) : Type 0 where
  pub docket_stays : reported.docket ≡ d
  pub lines : List ℕ
  pub lines_due : ReportDue vs lines
  pub outcome : WrittenOr43 lines b k (report_stated reported.answer) buffer
