-- Document 01, The docket and its report: what a report shows of a docket.
use Rattle.std.specs.Prelude.{List, ℕ, pos, ◌-ℤ◌, None, Option, Some}
use Rattle.report.specs.Report.{report_lines, written_at, placed_at}
use Rattle.report.specs.declared.Figures.{Figures}
use Rattle.writer.specs.Written.{figure_of}
use Rattle.writer.specs.declared.Figure.{Figure}
use Rattle.writer.specs.declared.Figure.TheVariants.{Missing, Never, Number}
use Rattle.docket.specs.declared.Docket.{Docket}
use Rattle.docket.specs.declared.Reported.{Reported}
use Rattle.docket.specs.declared.held.Held.{Held}
use Rattle.docket.specs.declared.held.CostBy.{CostBy}
use Rattle.docket.specs.declared.held.HeldBound.{HeldBound}
use Rattle.docket.specs.declared.held.HeldBound.TheVariants as bound
use Rattle.docket.specs.Lodging.{trusted}

-- ---- what is shown of a held cost and a held bound, none where it is missing

abbrev pub cost_shown : Option CostBy → Figure
cost_shown None = Missing
cost_shown (Some n) = Number n.cost

abbrev pub cost_writer_shown : Option CostBy → Figure
cost_writer_shown None = Missing
cost_writer_shown (Some n) = Number n.writer

abbrev pub bound_shown : HeldBound → Figure
bound_shown bound.Nothing = Missing
bound_shown (bound.Number n) = figure_of n.value
bound_shown (bound.Never n) = Never

abbrev pub bound_writer_shown : HeldBound → Figure
bound_writer_shown bound.Nothing = Missing
bound_writer_shown (bound.Number n) = Number n.writer
bound_writer_shown (bound.Never n) = Number n.writer

-- the gap: what the cost is above the bound, where each is a number
abbrev pub gap_shown : Option CostBy → HeldBound → Figure
gap_shown None b = Missing
gap_shown (Some c) bound.Nothing = Missing
gap_shown (Some c) (bound.Number b) = figure_of (pos c.cost -ℤ b.value)
gap_shown (Some c) (bound.Never b) = Missing

-- the figures of the lines, each named for its key
abbrev pub figures_of : Held → Figures
figures_of h = record {
  cost = cost_shown h.cost;
  costwriter = cost_writer_shown h.cost;
  bound = bound_shown h.bound;
  boundwriter = bound_writer_shown h.bound;
  gap = gap_shown h.cost h.bound;
}

abbrev pub report_text : Held → List ℕ
report_text h = report_lines (figures_of h)

-- what is shown of a docket; a value that is not sound is taken for a fresh docket
abbrev pub text_shown : Docket → List ℕ
text_shown d = report_text (trusted d).held

-- every report: the docket stays as it is
unfoldable pub report_of : Docket → List ℕ → ℕ → Reported
report_of d b k = record { docket = d; answer = written_at b k (text_shown d) }

-- and the buffer after it
unfoldable pub buffer_of : Docket → List ℕ → ℕ → List ℕ
buffer_of d b k = placed_at b k (text_shown d)
