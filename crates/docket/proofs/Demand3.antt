-- Demand 3 of lodging: the docket after a list is the one that its verdicts determine, so what it holds is the first of the best accepted; an accepted
-- schedule meets the rules, and an accepted tree's bound is sound. What it shows is what those make due.
use mathlib.Core.Path.{◌≡◌, refl, sym, subst, ◌∙◌}
use mathlib.Core.Bool.{Bool, true, false, cond}
use mathlib.Core.List.{List, []}
use mathlib.Core.Option.{Option, none, some}
use Prim.Native.Nat.{ℕ}
use Rattle.model.specs.Instance.{Instance}
use Rattle.model.specs.Ranges.{All}
use Rattle.model.specs.Held.{view}
use Rattle.model.specs.Figures.{Bound}
use Rattle.std.specs.Prelude.{None as never, Some as number}
use Rattle.model.proofs.Lists.{IsFirst, held_least, held_highest}
use Rattle.model.proofs.Soundness.{number_sound, never_sound}
use Rattle.tree.specs.Acceptance.{Bounded}
use Rattle.docket.specs.declared.Docket.{Docket}
use Rattle.answer.specs.declared.Answer.TheVariants.{ScheduleHeld, SchedulePassed, TreeHeld, TreePassed}
use Rattle.answer.specs.StatedAnswers.{stated}
use Rattle.docket.specs.Verdicts.{Costed, Verdict, refused, problem, schedule, tree, schedules, trees, known_at_end}
use Rattle.docket.specs.Lodging.{text_judged, lodged, with_schedule, with_bound, is_less, is_higher, bound_by, hold, trusted, lodge_of}
use Rattle.docket.specs.Report.{text_shown, report_of, buffer_of}
use Rattle.docket.specs.ReportDue.{ReportDue}
use Rattle.docket.specs.Demand3.{reached, CostHeld, BoundHeld, Holding, Unheld, Demand3}
use Rattle.docket.proofs.ListVerdicts.{verdicts_of, verdicts_are}
use Rattle.docket.proofs.BestSoFar.{first_mem}
use Rattle.docket.proofs.GoodVerdicts.{GoodSchedule, GoodTree, all_mem, Proper}
use Rattle.docket.proofs.Reached.{by_cost, by_bound, least, highest, cost_kept, rows_kept, bound_kept, docket_of}
use Rattle.docket.proofs.Lists.{lodges}
use Rattle.docket.proofs.ReportDue.{lines_due, reports_of}

-- ---- what the verdicts determine is what demand 3 asks for

module _ (P : Instance) where
  cost_held : (c : Option Costed) (l : List Costed) → IsFirst by_cost c l → All (GoodSchedule P) l → CostHeld P l (cost_kept c) (rows_kept c)
  cost_held none l e g = (e, refl)
  cost_held (some h) l f g =
      let s = all_mem (GoodSchedule P) l g h (first_mem by_cost h l f) in
      record { best = h; first = f; held_cost = refl; held_writer = refl; held_rows = refl; meets = s.meets; cost_is = s.cost_is }

  bound_held : (b : Option Bounded) (l : List Bounded) → IsFirst by_bound b l → All (GoodTree P) l → BoundHeld P l (bound_kept b)
  bound_held none l e g = e
  bound_held (some h) l f g = go h.figures.bound refl
    where
      t : GoodTree P h
      t = all_mem (GoodTree P) l g h (first_mem by_bound h l f)

      go : (b : Bound) → h.figures.bound ≡ b → BoundHeld P l (bound_by b h.writer)
      go never e = (
        record { best = h; first = f; held_bound = sym e; held_writer = refl },
        λ s M. never_sound P t.its t.holds (sym t.bound_is ∙ e) s M.printed,
      )
      go (number z) e = (
        record { best = h; first = f; held_bound = sym e; held_writer = refl },
        λ s M. number_sound P t.its t.holds z (sym t.bound_is ∙ e) s M.printed,
      )

pub holding : (o : Option Instance) (vs : List Verdict) → Proper o vs → Holding o vs (docket_of o vs)
holding none vs p = refl
holding (some P) vs p = record {
  known = refl;
  problem_is = refl;
  cost_held = cost_held P (least vs) (schedules vs) (held_least (λ (s : Costed). s.cost) (schedules vs)) p.1.0;
  bound_held = bound_held P (highest vs) (trees vs) (held_highest (λ (F : Bounded). F.figures.bound) (trees vs)) p.1.1;
}

-- ---- a refused or passed text leaves any docket as it was

hold_unheld : (d e : Docket) (v : Verdict) → Unheld (stated (hold d e v).answer) → (hold d e v).docket ≡ d
hold_unheld d e (refused r) u = refl
hold_unheld d e (problem P) u = absurd u
hold_unheld d e (schedule s) u = go (is_less s.cost e.held.cost) u
  where
    go : (t : Bool) → Unheld (stated (cond t (lodged (with_schedule e s) (ScheduleHeld s.cost)) (lodged d (SchedulePassed s.cost))).answer)
        → (cond t (lodged (with_schedule e s) (ScheduleHeld s.cost)) (lodged d (SchedulePassed s.cost))).docket ≡ d
    go true u = absurd u
    go false u = refl
hold_unheld d e (tree F) u = go (is_higher F.figures.bound e.held.bound) u
  where
    go : (t : Bool) → Unheld (stated (cond t (lodged (with_bound e F) (TreeHeld F.figures)) (lodged d (TreePassed F.figures))).answer)
        → (cond t (lodged (with_bound e F) (TreeHeld F.figures)) (lodged d (TreePassed F.figures))).docket ≡ d
    go true u = absurd u
    go false u = refl

pub unheld_unchanged : (d : Docket) (text : List ℕ) → Unheld (stated (lodge_of d text).answer) → (lodge_of d text).docket ≡ d
unfolding lodge_of
unheld_unchanged d text u = hold_unheld d (trusted d) (text_judged (trusted d).known (view (trusted d).problem) text) u

-- ---- the whole

pub demand3 : Demand3 lodge_of report_of buffer_of
demand3 texts =
    let r = lodges none [] (refl, refl) texts in
    let o = known_at_end none (verdicts_of none texts) in
    record {
      verdicts = verdicts_of none texts;
      texts_are = verdicts_are none tt texts;
      answers_are = r.answers_are;
      holds = subst (Holding o (verdicts_of none texts)) (sym r.docket_is) (holding o (verdicts_of none texts) r.proper);
      unchanged = λ text u. unheld_unchanged (reached lodge_of texts) text u;
      reports = λ b k. reports_of (verdicts_of none texts) (reached lodge_of texts) b k
          (subst (λ (d : Docket). ReportDue (verdicts_of none texts) (text_shown d)) (sym r.docket_is) (lines_due o (verdicts_of none texts) r.proper));
    }
