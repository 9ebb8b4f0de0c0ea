-- What wrong reports do, each said of any way of lodging and reporting and of the dockets that lists reach. Demand 3 refutes each.
use Rattle.std.specs.Prelude.{◌≡◌, List, ◌⊎◌, ℕ, ◌+◌, ◌≤◌, ◌<◌, length, take, drop}
use Rattle.std.proofs.Math.Option.{none}
use Rattle.writer.specs.declared.Figure.{Figure}
use Rattle.writer.specs.declared.Figure.TheVariants.{Missing}
use Rattle.report.specs.declared.Figures as shown
use Rattle.report.specs.StatedReports.{refused, its_length}
use Rattle.docket.specs.Verdicts.{Verdict}
use Rattle.docket.specs.Texts.{Are}
use Rattle.docket.specs.ReportDue.{gap_due, figures_due, ReportDue}
use Rattle.docket.specs.Demand3.{Lodging, Reporting, Writing, reached}
use Rattle.docket.specs.Shown.{reported, left, Shows}

-- the figures of a report that shows nothing
abbrev pub nothing_shown : shown.Figures
nothing_shown = record { cost = Missing; costwriter = Missing; bound = Missing; boundwriter = Missing; gap = Missing }

-- some list, and the lines due after it
pub record SomeReport : Type 0 where
  pub texts : List (List ℕ)
  pub verdicts : List Verdict
  pub texts_are : Are none texts verdicts
  pub lines : List ℕ
  pub lines_due : ReportDue verdicts lines

module _ (lodge : Lodging) (report : Reporting) (buffer : Writing) where
  -- ---- wrong lines

  -- showing none after every list
  abbrev pub ShowsNone : Type 0
  ShowsNone = (texts : List (List ℕ)) → Shows lodge report buffer texts nothing_shown

  -- showing the bound f, or none, after every list
  abbrev pub OneBoundShown : Figure → Type 0
  OneBoundShown f = (texts : List (List ℕ)) (g : shown.Figures) → Shows lodge report buffer texts g → (g.bound ≡ Missing) ⊎ (g.bound ≡ f)

  -- showing another gap than cost minus bound
  pub record OtherGap : Type 0 where
    pub after : SomeReport
    pub f : shown.Figures
    pub shows : Shows lodge report buffer after.texts f
    pub other : f.gap ≡ gap_due after.lines_due.cheapest after.lines_due.highest → ⊥

  -- showing any other figures than those due
  pub record OtherFigures : Type 0 where
    pub after : SomeReport
    pub f : shown.Figures
    pub shows : Shows lodge report buffer after.texts f
    pub other : f ≡ figures_due after.lines_due.cheapest after.lines_due.highest → ⊥

  -- ---- wrong places

  -- where there is room: refusing, or answering with another length
  pub record NotWritten : Type 0 where
    pub after : SomeReport
    pub b : List ℕ
    pub k : ℕ
    pub room : k + length after.lines ≤ length b
    pub other : reported lodge report after.texts b k ≡ its_length (length after.lines) → ⊥

  -- where 43 is due: answering otherwise, or changing the buffer
  pub record NotRefused : Type 0 where
    pub after : SomeReport
    pub b : List ℕ
    pub k : ℕ
    pub no_room : length b < k + length after.lines
    pub other : (reported lodge report after.texts b k ≡ refused 43 0 0 0) × (left lodge buffer after.texts b k ≡ b) → ⊥

  -- changing a byte before the place, or one after the n bytes that are written
  pub record WritesOutside : Type 0 where
    pub texts : List (List ℕ)
    pub b : List ℕ
    pub k : ℕ
    pub n : ℕ
    pub answer_is : reported lodge report texts b k ≡ its_length n
    pub other : (take k (left lodge buffer texts b k) ≡ take k b) × (drop (k + n) (left lodge buffer texts b k) ≡ drop (k + n) b) → ⊥

  -- ---- a wrong docket

  -- changing what the docket holds
  pub record ChangesDocket : Type 0 where
    pub texts : List (List ℕ)
    pub b : List ℕ
    pub k : ℕ
    pub other : (report (reached lodge texts) b k).docket ≡ reached lodge texts → ⊥
