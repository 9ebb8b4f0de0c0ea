-- Wrong ways of reporting, written out.
use Rattle.std.specs.Prelude.{pos, ◌-ℤ◌, length, take, None, Option, Some, Err}
use Rattle.refusal.specs.Refusals.{refusal_of}
use Rattle.writer.specs.Written.{figure_of}
use Rattle.writer.specs.declared.Figure.{Figure}
use Rattle.writer.specs.declared.Figure.TheVariants.{Missing, Never}
use Rattle.report.specs.Report.{report_lines, put_at, written_at, placed_at}
use Rattle.report.specs.declared.Figures as shown
use Rattle.docket.specs.declared.Docket.{Docket}
use Rattle.docket.specs.declared.held.CostBy.{CostBy}
use Rattle.docket.specs.declared.held.HeldBound.{HeldBound}
use Rattle.docket.specs.declared.held.HeldBound.TheVariants as bound
use Rattle.docket.specs.Docket.{fresh_docket}
use Rattle.docket.specs.Report.{figures_of, text_shown, report_of}
use Rattle.docket.specs.Demand3.{Reporting, Writing}
use Rattle.wrong.specs.WrongReports.{nothing_shown}

-- ---- other figures, written as they should be

abbrev pub reporting : (Docket → shown.Figures) → Reporting
reporting f d b k = record { docket = d; answer = written_at b k (report_lines (f d)) }

abbrev pub writing : (Docket → shown.Figures) → Writing
writing f d b k = placed_at b k (report_lines (f d))

-- none, always
abbrev pub no_figures : Docket → shown.Figures
no_figures d = nothing_shown

-- never, of every bound
abbrev pub never_if : HeldBound → Figure
never_if bound.Nothing = Missing
never_if (bound.Number b) = Never
never_if (bound.Never b) = Never

abbrev pub never_shown : Docket → shown.Figures
never_shown d = record {
  cost = (figures_of d.held).cost;
  costwriter = (figures_of d.held).costwriter;
  bound = never_if d.held.bound;
  boundwriter = (figures_of d.held).boundwriter;
  gap = Missing;
}

-- bound minus cost
abbrev pub turned : Option CostBy → HeldBound → Figure
turned None b = Missing
turned (Some c) bound.Nothing = Missing
turned (Some c) (bound.Number b) = figure_of (b.value -ℤ pos c.cost)
turned (Some c) (bound.Never b) = Missing

abbrev pub gap_turned : Docket → shown.Figures
gap_turned d = record {
  cost = (figures_of d.held).cost;
  costwriter = (figures_of d.held).costwriter;
  bound = (figures_of d.held).bound;
  boundwriter = (figures_of d.held).boundwriter;
  gap = turned d.held.cost d.held.bound;
}

-- ---- the figures as they should be

-- written from the buffer's start
abbrev pub from_start : Writing
from_start d b k = placed_at b 0 (text_shown d)

-- as much of it as there is room for
abbrev pub as_far_as_room : Writing
as_far_as_room d b k = take (length b) (put_at b k (text_shown d))

-- 43 always, and the buffer as it was
abbrev pub refusing : Reporting
refusing d b k = record { docket = d; answer = Err (refusal_of 43 0 0 0) }

abbrev pub leaving : Writing
leaving d b k = b

-- the docket gone with the report
abbrev pub forgetting : Reporting
forgetting d b k = record { docket = fresh_docket; answer = (report_of d b k).answer }
