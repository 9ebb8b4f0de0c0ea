-- What a docket shows is what the accepted texts make due: the figures of what it holds are those of the first of the best, and what is written where is
-- read off the definition by whether there is room.
use mathlib.Core.Path.{◌≡◌, refl, ap}
use mathlib.Core.Bool.{Bool, true, false}
use mathlib.Core.List.{List}
use mathlib.Core.Logic.{inl, inr}
use mathlib.Core.Option.{Option, none, some}
use Prim.Native.Nat.{ℕ, ◌+◌}
use lib.ListN.{length}
use borrow.Author.Tests.{leb-true, leb-false}
use Rattle.model.specs.Instance.{Instance}
use Rattle.model.specs.Figures.{Bound}
use Rattle.std.specs.Prelude.{None as never, Some as number}
use Rattle.model.proofs.Lists.{held_least, held_highest}
use Rattle.refusal.specs.Refusals.{refusal_of, carries_line, carries_unit, carries_period}
use Rattle.report.specs.Report.{report_lines, has_room, written_at, placed_at}
use Rattle.tree.specs.Acceptance.{Bounded}
use Rattle.answer.specs.AnswerLines.{bound_figure}
use Rattle.report.specs.StatedReports.{report_stated}
use Rattle.docket.specs.declared.Docket.{Docket}
use Rattle.docket.specs.Docket.{sound}
use Rattle.docket.specs.Verdicts.{Costed, Verdict, schedules, trees}
use Rattle.docket.specs.Lodging.{bound_by, trusted}
use Rattle.docket.specs.Report.{cost_shown, cost_writer_shown, bound_shown, bound_writer_shown, gap_shown, figures_of, text_shown, report_of, buffer_of}
use Rattle.docket.specs.ReportDue.{cost_due, cost_writer_due, gap_between, bound_due, bound_writer_due, gap_due, figures_due, ReportDue, WrittenOr43, Reports}
use Rattle.docket.proofs.GoodVerdicts.{Proper}
use Rattle.docket.proofs.Reached.{least, highest, cost_kept, bound_kept, docket_under, docket_of, docket_sound}

-- ---- the figures

bound_figure_is : (b : Bound) (w : ℕ) → bound_shown (bound_by b w) ≡ bound_figure b
bound_figure_is never w = refl
bound_figure_is (number z) w = refl

bound_is : (F : Option Bounded) → bound_shown (bound_kept F) ≡ bound_due F
bound_is none = refl
bound_is (some F) = bound_figure_is F.figures.bound F.writer

writer_is : (F : Option Bounded) → bound_writer_shown (bound_kept F) ≡ bound_writer_due F
writer_is none = refl
writer_is (some F) = go F.figures.bound
  where
    go : (b : Bound) → bound_writer_shown (bound_by b F.writer) ≡ bound_writer_due (some F)
    go never = refl
    go (number z) = refl

gap_is : (s : Option Costed) (F : Option Bounded) → gap_shown (cost_kept s) (bound_kept F) ≡ gap_due s F
gap_is none F = refl
gap_is (some s) none = refl
gap_is (some s) (some F) = go F.figures.bound
  where
    go : (b : Bound) → gap_shown (cost_kept (some s)) (bound_by b F.writer) ≡ gap_between s.cost b
    go never = refl
    go (number z) = refl

cost_is : (s : Option Costed) → cost_shown (cost_kept s) ≡ cost_due s
cost_is none = refl
cost_is (some s) = refl

cost_writer_is : (s : Option Costed) → cost_writer_shown (cost_kept s) ≡ cost_writer_due s
cost_writer_is none = refl
cost_writer_is (some s) = refl

figures_are : (P : Instance) (s : Option Costed) (F : Option Bounded) → figures_of (docket_under P s F).held ≡ figures_due s F
figures_are P s F i = record { cost = cost_is s i; costwriter = cost_writer_is s i; bound = bound_is F i; boundwriter = writer_is F i; gap = gap_is s F i }

-- ---- the lines

trusted_is : (d : Docket) → sound d ≡ true → trusted d ≡ d
trusted_is d e = rw e refl

pub lines_due : (o : Option Instance) (vs : List Verdict) → Proper o vs → ReportDue vs (text_shown (docket_of o vs))
lines_due o vs p = rw (trusted_is (docket_of o vs) (docket_sound o vs p)) (go o p)
  where
    go : (o : Option Instance) → Proper o vs → ReportDue vs (report_lines (figures_of (docket_of o vs).held))
    go none p = record { cheapest = none; is_cheapest = p.0; highest = none; is_highest = p.1; lines_are = refl }
    go (some P) p = record {
      cheapest = least vs;
      is_cheapest = held_least (λ (s : Costed). s.cost) (schedules vs);
      highest = highest vs;
      is_highest = held_highest (λ (F : Bounded). F.figures.bound) (trees vs);
      lines_are = ap report_lines (figures_are P (least vs) (highest vs));
    }

-- ---- into the buffer

module _ (lines b : List ℕ) (k : ℕ) where
  pub written_or_refused : (t : Bool) → has_room b k lines ≡ t → WrittenOr43 lines b k (report_stated (written_at b k lines)) (placed_at b k lines)
  unfolding written_at placed_at refusal_of carries_line carries_unit carries_period
  written_or_refused true e = inl (record { room = leb-true (k + length lines) (length b) e; answer_is = rw e refl; buffer_is = rw e refl })
  written_or_refused false e = inr (record { no_room = leb-false (k + length lines) (length b) e; answer_is = rw e refl; buffer_is = rw e refl })

pub reports_of : (vs : List Verdict) (d : Docket) (b : List ℕ) (k : ℕ) → ReportDue vs (text_shown d) → Reports vs d b k (report_of d b k) (buffer_of d b k)
unfolding report_of buffer_of
reports_of vs d b k R = record {
  docket_stays = refl;
  lines = text_shown d;
  lines_due = R;
  outcome = written_or_refused (text_shown d) b k (has_room b k (text_shown d)) refl;
}
