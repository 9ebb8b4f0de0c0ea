-- Demand 3 refutes each wrong report: a report's bytes are those of the figures due and of no others, written from the place on, or refused.
use mathlib.Core.Path.{◌≡◌, sym, ap, subst, ◌∙◌}
use mathlib.Core.List.{List, [], ◌∷◌, ◌++◌}
use mathlib.Core.Logic.{◌⊎◌, inl, inr}
use mathlib.Core.Option.{none, some}
use Prim.Native.Nat.{ℕ, ◌+◌, ◌≤◌}
use native.Mathlib.Omega.{arith}
use lib.IntN.{pos}
use lib.ListN.{length, take, drop}
use lib.Seq.{drop-append_seam, length-take-le, take_at, drop_at, drop-drop}
use Rattle.writer.specs.Written.{figure_of}
use Rattle.writer.specs.declared.Figure.{Figure}
use Rattle.writer.specs.declared.Figure.TheVariants.{Missing, Number}
use Rattle.report.specs.declared.Figures as shown
use Rattle.problem.proofs.Examples.{example}
use Rattle.tree.specs.Acceptance.{Bounded}
use Rattle.report.specs.StatedReports.{its_length}
use Rattle.docket.specs.Verdicts.{problem, schedule, tree}
use Rattle.docket.specs.Texts.{Are}
use Rattle.docket.specs.ReportDue.{figures_due}
use Rattle.docket.specs.Demand3.{Lodging, Reporting, Writing, Demand3}
use Rattle.docket.specs.Shown.{left, Shows}
use Rattle.docket.proofs.OneReport.{one_report, reports_then}
use Rattle.docket.proofs.Shown.{not_stated, due_after, There, shown_is, shows_due}
use Rattle.docket.proofs.Specimens.{problem_text, figures}
use Rattle.wrong.specs.WrongReports.{nothing_shown, SomeReport, ShowsNone, OneBoundShown, OtherGap, OtherFigures, NotWritten, NotRefused, WritesOutside, ChangesDocket}
use Rattle.wrong.proofs.ShortLists.{cheap, cheap_text, cheap_are, tree_text, lone_text, tree_are, lone_are}

one_length : (m n : ℕ) → its_length m ≡ its_length n → m ≡ n
one_length m n e = cc

no_number : (n : ℕ) → Missing ≡ Number n → ⊥
no_number n e = let z : ◌≡◌ {A = ℕ} 0 1 = cc in omega arith

-- ---- the bytes outside

module _ (lines b : List ℕ) (k : ℕ) (room : k + length lines ≤ length b) where
  front : length (take k b) ≡ k
  front = length-take-le k b (omega arith)

  before_stays : take k (take k b ++ (lines ++ drop (k + length lines) b)) ≡ take k b
  before_stays = take_at (take k b) (lines ++ drop (k + length lines) b) k front

  after_stays : drop (k + length lines) (take k b ++ (lines ++ drop (k + length lines) b)) ≡ drop (k + length lines) b
  after_stays =
      sym (drop-drop (length lines) k (take k b ++ (lines ++ drop (k + length lines) b)))
      ∙ ap (drop (length lines)) (drop_at (take k b) (lines ++ drop (k + length lines) b) k front)
      ∙ drop-append_seam lines (drop (k + length lines) b)

module _ (lodge : Lodging) (report : Reporting) (buffer : Writing) (D : Demand3 lodge report buffer) where
  -- ---- any other figures

  pub other_figures : OtherFigures lodge report buffer → ⊥
  other_figures r = r.other (shown_is lodge report buffer D r.after.texts r.after.verdicts r.after.texts_are r.after.lines r.after.lines_due r.f r.shows)

  pub other_gap : OtherGap lodge report buffer → ⊥
  other_gap r =
      r.other (ap (λ (f : shown.Figures). f.gap) (shown_is lodge report buffer D r.after.texts r.after.verdicts r.after.texts_are r.after.lines r.after.lines_due r.f r.shows))

  -- ---- on document 01's problem

  pub shows_none : ShowsNone lodge report buffer → ⊥
  shows_none r =
      let texts = problem_text ∷ cheap_text ∷ [] in
      let vs = problem example ∷ schedule cheap ∷ [] in
      let e = ap (λ (f : shown.Figures). f.cost) (shown_is lodge report buffer D texts vs cheap_are _ (due_after vs) nothing_shown (r texts)) in
      no_number 1980 e

  pub one_bound_shown : (f : Figure) → OneBoundShown lodge report buffer f → ⊥
  unfolding figure_of
  one_bound_shown f r =
      let x = tree_shown (problem_text ∷ tree_text ∷ []) (figures 3 1980 1 2) tree_are in
      let y = tree_shown (problem_text ∷ lone_text ∷ []) (figures 4 1940 0 1) lone_are in
      two (r (problem_text ∷ tree_text ∷ []) _ x) (r (problem_text ∷ lone_text ∷ []) _ y)
    where
      tree_shown : (texts : List (List ℕ)) (F : Bounded) → Are none texts (problem example ∷ tree F ∷ [])
          → Shows lodge report buffer texts (figures_due none (some F))
      tree_shown texts F are = shows_due lodge report buffer D texts (problem example ∷ tree F ∷ []) are _ (due_after (problem example ∷ tree F ∷ []))

      two : (figure_of (pos 1980) ≡ Missing) ⊎ (figure_of (pos 1980) ≡ f) → (figure_of (pos 1940) ≡ Missing) ⊎ (figure_of (pos 1940) ≡ f) → ⊥
      two (inl a) y = no_number 1980 (sym a)
      two (inr a) (inl b) = no_number 1940 (sym b)
      two (inr a) (inr b) = let z : ◌≡◌ {A = ℕ} 1980 1940 = cc in omega arith

  -- ---- places

  -- the outcome, with the lines due
  outcome_there : (r : SomeReport) (b : List ℕ) (k : ℕ) → There lodge report buffer r.texts r.lines b k
  outcome_there r b k =
      let S = reports_then lodge D r.texts r.verdicts r.texts_are b k in
      subst (λ (l : List ℕ). There lodge report buffer r.texts l b k) (one_report r.verdicts S.lines r.lines S.lines_due r.lines_due) S.outcome

  pub not_written : NotWritten lodge report buffer → ⊥
  not_written r = go (outcome_there r.after r.b r.k)
    where
      go : There lodge report buffer r.after.texts r.after.lines r.b r.k → ⊥
      go (inl w) = r.other w.answer_is
      go (inr w) = omega (arith, w.no_room, r.room)

  pub not_refused : NotRefused lodge report buffer → ⊥
  not_refused r = go (outcome_there r.after r.b r.k)
    where
      go : There lodge report buffer r.after.texts r.after.lines r.b r.k → ⊥
      go (inl w) = omega (arith, w.room, r.no_room)
      go (inr w) = r.other (w.answer_is, w.buffer_is)

  pub writes_outside : WritesOutside lodge report buffer → ⊥
  writes_outside r = go ((D r.texts).reports r.b r.k).lines ((D r.texts).reports r.b r.k).outcome
    where
      go : (lines : List ℕ) → There lodge report buffer r.texts lines r.b r.k → ⊥
      go lines (inl w) =
          let n : length lines ≡ r.n = one_length (length lines) r.n (sym w.answer_is ∙ r.answer_is) in
          let after = ap (drop (r.k + length lines)) w.buffer_is ∙ after_stays lines r.b r.k w.room in
          r.other (
            ap (take r.k) w.buffer_is ∙ before_stays lines r.b r.k w.room,
            subst (λ (m : ℕ). drop (r.k + m) (left lodge buffer r.texts r.b r.k) ≡ drop (r.k + m) r.b) n after,
          )
      go lines (inr w) = not_stated (sym w.answer_is ∙ r.answer_is)

  pub changes_docket : ChangesDocket lodge report buffer → ⊥
  changes_docket r = r.other ((D r.texts).reports r.b r.k).docket_stays
