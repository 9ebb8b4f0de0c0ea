-- Each wrong way of reporting that is written out breaks demand 3, however texts are lodged.
use Rattle.std.specs.Prelude.{Ok, Err}
use mathlib.Core.Path.{◌≡◌, refl, sym, ap, ◌∙◌}
use mathlib.Core.Bool.{Bool, true, false, cond}
use mathlib.Core.List.{List, [], ◌∷◌, ◌++◌, flatten}
use mathlib.Core.Logic.{◌⊎◌, inl, inr}
use mathlib.Core.Option.{none, some}
use Prim.Native.Nat.{ℕ, ◌+◌}
use native.Mathlib.Omega.{arith}
use lib.Dec.{lit<, lit≤}
use lib.IntN.{pos, ◌-ℤ◌}
use lib.ListN.{length, get_or, take, drop, replicate, length-replicate}
use borrow.Author.Tests.{le-leb}
use Rattle.refusal.specs.Refusals.{refusal_of, carries_line, carries_unit, carries_period}
use Rattle.writer.specs.Written.{figure, figure_of}
use Rattle.writer.specs.declared.Figure.{Figure}
use Rattle.writer.specs.declared.Figure.TheVariants.{Missing, Never, Number, Minus}
use Rattle.report.specs.Report.{report_lines, has_room, put_at, written_at, placed_at}
use Rattle.report.specs.declared.Figures as shown
use Rattle.problem.proofs.Examples.{example}
use Rattle.report.specs.StatedReports.{its_length, report_stated}
use Rattle.docket.specs.declared.Docket.{Docket}
use Rattle.docket.specs.declared.held.HeldBound.{HeldBound}
use Rattle.docket.specs.declared.held.HeldBound.TheVariants as bound
use Rattle.docket.specs.Docket.{fresh_docket, sound}
use Rattle.docket.specs.Verdicts.{problem, schedule, tree}
use Rattle.docket.specs.Texts.{no_more}
use Rattle.docket.specs.Report.{text_shown, report_of}
use Rattle.docket.specs.ReportDue.{figures_due}
use Rattle.docket.specs.Demand3.{reached, Lodging, Writing, Demand3}
use Rattle.docket.specs.Shown.{Shows}
use Rattle.docket.proofs.Shown.{not_stated, same_rest, due_after}
use Rattle.docket.proofs.ReportLines.{lines_one}
use Rattle.docket.proofs.AfterTexts.{reached_is}
use Rattle.docket.proofs.Specimens.{problem_text, figures}
use Rattle.wrong.specs.WrongReports.{SomeReport}
use Rattle.wrong.specs.WrongReporting as wrong
use Rattle.wrong.proofs.WrongReports as refuted
use Rattle.wrong.proofs.ShortLists.{begun_not_fresh, begun, cheap, cheap_text, lone_text, cheap_lone_are}

-- ---- other figures

-- what is written is shown
shows_of : (lodge : Lodging) (f : Docket → shown.Figures) (texts : List (List ℕ)) → Shows lodge (wrong.reporting f) (wrong.writing f) texts (f (reached lodge texts))
unfolding written_at placed_at
shows_of lodge f texts =
    let l = report_lines (f (reached lodge texts)) in
    let e : has_room (replicate (length l) 0) 0 l ≡ true = le-leb (0 + length l) (length (replicate {A = ℕ} (length l) 0)) (omega (arith, length-replicate {A = ℕ} (length l) 0)) in
    record { b = replicate (length l) 0; k = 0; answer_is = rw e refl; buffer_is = rw e refl }

-- and nothing else is
shown_by : (lodge : Lodging) (f : Docket → shown.Figures) (texts : List (List ℕ)) (g : shown.Figures) → Shows lodge (wrong.reporting f) (wrong.writing f) texts g
    → g ≡ f (reached lodge texts)
unfolding written_at placed_at
shown_by lodge f texts g s = go (has_room s.b s.k l) s.answer_is s.buffer_is
  where
    l : List ℕ
    l = report_lines (f (reached lodge texts))

    go : (t : Bool) → report_stated (cond t (Ok (length l)) (Err (refusal_of 43 0 0 0))) ≡ its_length (length (report_lines g))
        → cond t (put_at s.b s.k l) s.b ≡ take s.k s.b ++ (report_lines g ++ drop (s.k + length (report_lines g)) s.b)
        → g ≡ f (reached lodge texts)
    go true a e =
        lines_one g (f (reached lodge texts)) (drop (s.k + length (report_lines g)) s.b) (drop (s.k + length l) s.b)
        (same_rest (take s.k s.b) _ _ (sym e))
    go false a e = not_stated a

pub no_figures_fails : (lodge : Lodging) → Demand3 lodge (wrong.reporting wrong.no_figures) (wrong.writing wrong.no_figures) → ⊥
no_figures_fails lodge D =
    refuted.shows_none lodge (wrong.reporting wrong.no_figures) (wrong.writing wrong.no_figures) D (λ texts. shows_of lodge wrong.no_figures texts)

pub never_shown_fails : (lodge : Lodging) → Demand3 lodge (wrong.reporting wrong.never_shown) (wrong.writing wrong.never_shown) → ⊥
never_shown_fails lodge D =
    refuted.one_bound_shown lodge (wrong.reporting wrong.never_shown) (wrong.writing wrong.never_shown) D Never (λ texts g s.
    let e = ap (λ (f : shown.Figures). f.bound) (shown_by lodge wrong.never_shown texts g s) in
    go (reached lodge texts).held.bound g.bound e)
  where
    go : (h : HeldBound) (f : Figure) → f ≡ wrong.never_if h → (f ≡ Missing) ⊎ (f ≡ Never)
    go bound.Nothing f e = inl e
    go (bound.Number b) f e = inr e
    go (bound.Never b) f e = inr e

-- the gap of 1980 and 1940
other_gap : figure_of (pos 1940 -ℤ pos 1980) ≡ figure_of (pos 1980 -ℤ pos 1940) → ⊥
unfolding figure_of
other_gap e = minus 40 40 e
  where
    minus : (m n : ℕ) → Minus m ≡ Number n → ⊥
    minus m n e = let z : ◌≡◌ {A = ℕ} 0 1 = cc in omega arith

pub gap_turned_fails : (lodge : Lodging) → Demand3 lodge (wrong.reporting wrong.gap_turned) (wrong.writing wrong.gap_turned) → ⊥
gap_turned_fails lodge D =
    let texts = problem_text ∷ cheap_text ∷ lone_text ∷ [] in
    let vs = problem example ∷ schedule cheap ∷ tree (figures 4 1940 0 1) ∷ [] in
    refuted.other_gap lodge (wrong.reporting wrong.gap_turned) (wrong.writing wrong.gap_turned) D (record {
      after = record { texts = texts; verdicts = vs; texts_are = cheap_lone_are; lines = report_lines (figures_due (some cheap) (some (figures 4 1940 0 1))); lines_due = due_after vs };
      f = wrong.gap_turned (reached lodge texts);
      shows = shows_of lodge wrong.gap_turned texts;
      other = λ e. other_gap (sym (ap (λ (d : Docket). (wrong.gap_turned d).gap) (reached_is lodge D texts vs cheap_lone_are)) ∙ e);
    })

-- ---- places, on an empty list

nothing_lodged : SomeReport
nothing_lodged = record { texts = []; verdicts = []; texts_are = no_more; lines = report_lines (figures_due none none); lines_due = due_after [] }

not_first : ◌≡◌ {A = ℕ} 107 0 → ⊥
not_first e = omega arith

pub from_start_fails : (lodge : Lodging) → Demand3 lodge report_of wrong.from_start → ⊥
unfolding report_of written_at placed_at sound report_lines flatten figure
from_start_fails lodge D = refuted.writes_outside lodge report_of wrong.from_start D (record {
  texts = [];
  b = replicate 200 0;
  k = 1;
  n = length (text_shown fresh_docket);
  answer_is = refl;
  other = λ e. not_first (ap (λ (l : List ℕ). get_or l 0 0) e.0);
})

pub as_far_as_room_fails : (lodge : Lodging) → Demand3 lodge report_of wrong.as_far_as_room → ⊥
unfolding nothing_lodged report_of written_at placed_at sound report_lines flatten figure
as_far_as_room_fails lodge D = refuted.not_refused lodge report_of wrong.as_far_as_room D (record {
  after = nothing_lodged;
  b = replicate 10 0;
  k = 0;
  no_room = lit< tt;
  other = λ e. not_first (ap (λ (l : List ℕ). get_or l 0 0) e.1);
})

pub refusing_fails : (lodge : Lodging) → Demand3 lodge wrong.refusing wrong.leaving → ⊥
unfolding nothing_lodged report_lines flatten figure refusal_of carries_line carries_unit carries_period
refusing_fails lodge D = refuted.not_written lodge wrong.refusing wrong.leaving D (record {
  after = nothing_lodged;
  b = replicate 200 0;
  k = 0;
  room = lit≤ tt;
  other = λ e. not_stated e;
})

-- ---- the docket

pub forgetting_fails : (lodge : Lodging) (buffer : Writing) → Demand3 lodge wrong.forgetting buffer → ⊥
forgetting_fails lodge buffer D = refuted.changes_docket lodge wrong.forgetting buffer D (record {
  texts = begun;
  b = [];
  k = 0;
  other = λ e. begun_not_fresh lodge D e;
})
