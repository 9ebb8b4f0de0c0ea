-- Of every value of the struct, sound or not (demand 1): what is refused gets document 01's number and place under the problem that the
-- value judges by; what is refused or passed leaves it; and a report leaves it and writes what it shows at the place, or is 43.
use Rattle.std.specs.Prelude.{None, Some}
use mathlib.Core.Path.{◌≡◌, refl, sym, ap, subst, ◌∙◌}
use mathlib.Core.Bool.{Bool, true, false, ◌&&◌, cond}
use mathlib.Core.List.{List}
use mathlib.Core.Logic.{◌↔◌}
use mathlib.Core.Option.{Option, none, some}
use Prim.Native.Nat.{ℕ, ◌<◌}
use native.Mathlib.Omega.{arith}
use lib.Dec.{T, ltb}
use lib.ListN.{length}
use borrow.Author.Tests.{ltb-true, lt-ltb}
use Rattle.model.specs.Instance.{Instance}
use Rattle.model.specs.Held.{view, blank_problem, Valid, valid_problem}
use Rattle.model.proofs.Tests.{T_true}
use Rattle.model.proofs.Valid.{valid_is}
use Rattle.refusal.specs.declared.Refusal.{Refusal}
use Rattle.report.specs.Report.{has_room}
use Rattle.report.specs.StatedReports as report_answers
use Rattle.text.specs.Lines.{line_at, kind_of}
use Rattle.text.proofs.Cuts.{and_both}
use Rattle.text.specs.declared.Kind.{Kind}
use Rattle.text.specs.declared.Kind.TheVariants as kind
use Rattle.answer.specs.declared.Answer.TheVariants.{ScheduleHeld, SchedulePassed, TreeHeld, TreePassed}
use Rattle.answer.specs.StatedAnswers as answers
use Rattle.answer.specs.StatedAnswers.{stated}
use Rattle.docket.specs.declared.Docket.{Docket}
use Rattle.docket.specs.declared.held.CostBy.{CostBy}
use Rattle.docket.specs.declared.held.BoundBy.{BoundBy}
use Rattle.docket.specs.declared.held.HeldBound.{HeldBound}
use Rattle.docket.specs.declared.held.HeldBound.TheVariants as bound
use Rattle.docket.specs.Docket.{HeldCost, fresh_docket, size_limit, small_number, small_cost, small_bound, sound}
use Rattle.docket.specs.Verdicts as verdict
use Rattle.docket.specs.Verdicts.{Verdict}
use Rattle.docket.specs.Texts.{Is}
use Rattle.docket.specs.Lodging.{lodged, hold, text_judged, admit, admit_kind, refuse_whole, verdict_by, trusted, lodge_of, is_less, is_higher, with_schedule, with_bound}
use Rattle.docket.specs.Report.{text_shown, report_of, buffer_of}
use Rattle.docket.specs.ReportDue.{WrittenOr43}
use Rattle.docket.specs.Promised.{Long, KnownSound, JudgesBy, its_own, no_problem}
use Rattle.docket.proofs.OneVerdict.{Fine, verdict_of, verdict_is, is_verdict}
use Rattle.docket.proofs.HoldingAnswers.{sound_valid}
use Rattle.docket.proofs.ReportDue.{written_or_refused}

-- ---- the problem that it judges by

abbrev if_known : Bool → Instance → Option Instance
if_known true P = some P
if_known false P = none

-- as lodging finds it
abbrev judged_under : Docket → Option Instance
judged_under d = if_known (trusted d).known (view (trusted d).problem)

small_so : (c : HeldCost) → ((by : CostBy) → c ≡ Some by → by.cost < size_limit) → small_cost c ≡ true
small_so None h = refl
small_so (Some n) h = lt-ltb n.cost size_limit (h n refl)

so_small : (c : HeldCost) → small_cost c ≡ true → (by : CostBy) → c ≡ Some by → by.cost < size_limit
so_small None s by e = absurd (let z : ◌≡◌ {A = ℕ} 0 1 = cc in omega arith)
so_small (Some n) s by e = let k : n ≡ by = cc in subst (λ (x : CostBy). x.cost < size_limit) k (ltb-true n.cost size_limit s)

bounded_so : (b : HeldBound) → ((by : BoundBy) → b ≡ bound.Number by → T (small_number by.value)) → small_bound b ≡ true
bounded_so bound.Nothing h = refl
bounded_so (bound.Number n) h = T_true (small_number n.value) (h n refl)
bounded_so (bound.Never n) h = refl

so_bounded : (b : HeldBound) → small_bound b ≡ true → (by : BoundBy) → b ≡ bound.Number by → T (small_number by.value)
so_bounded bound.Nothing s by e = absurd (let z : ◌≡◌ {A = ℕ} 0 1 = cc in omega arith)
so_bounded (bound.Number n) s by e = let k : n ≡ by = cc in subst (λ (x : BoundBy). T (small_number x.value)) k (subst T (sym s) tt)
so_bounded (bound.Never n) s by e = absurd (let z : ◌≡◌ {A = ℕ} 0 1 = cc in omega arith)

module _ (d : Docket) (long : Long d) where
  valid_here : (valid_problem d.problem ≡ true) ↔ Valid d.problem
  valid_here = valid_is d.problem long.0 long.1 long.2

  pub known_sound_is : d.known ≡ true → (sound d ≡ true) ↔ KnownSound d
  unfolding sound
  known_sound_is k = (
    λ e.
        let a = and_both (valid_problem d.problem) (small_cost d.held.cost && small_bound d.held.bound) (rw k at e) in
        let b = and_both (small_cost d.held.cost) (small_bound d.held.bound) a.1 in
        record { known = k; valid = valid_here.0 a.0; cost_small = so_small d.held.cost b.0; bound_small = so_bounded d.held.bound b.1 },
    λ s. rw (k, valid_here.1 s.valid, small_so d.held.cost s.cost_small, bounded_so d.held.bound s.bound_small) refl,
  )

  -- is its own, where it knows one and is sound, and else none
  pub judges : JudgesBy d (judged_under d)
  judges = go (sound d) d.known refl refl
    where
      go : (s k : Bool) → sound d ≡ s → d.known ≡ k → JudgesBy d (if_known (cond s d fresh_docket).known (view (cond s d fresh_docket).problem))
      go true true e k = subst (λ (c : Bool). JudgesBy d (if_known c (view d.problem))) (sym k) (its_own ((known_sound_is k).0 e))
      go true false e k = subst (λ (c : Bool). JudgesBy d (if_known c (view d.problem))) (sym k) (no_problem (λ s. let q = s.known in let z : ◌≡◌ {A = ℕ} 0 1 = cc in omega arith))
      go false k e q = no_problem (λ s. let t = (known_sound_is s.known).1 s in let z : ◌≡◌ {A = ℕ} 0 1 = cc in omega arith)

-- ---- what is refused

judged_free : (P Q : Instance) (text : List ℕ) → text_judged false P text ≡ text_judged false Q text
unfolding text_judged admit
judged_free P Q text = go (ltb 1048576 (length text)) (kind_of (line_at text 0))
  where
    go : (c : Bool) (k : Kind) → verdict_by (cond c (refuse_whole 11 0) (admit_kind k false)) P text ≡ verdict_by (cond c (refuse_whole 11 0) (admit_kind k false)) Q text
    go true k = refl
    go false kind.Unknown = refl
    go false kind.Problem = refl
    go false kind.Schedule = refl
    go false kind.Tree = refl

same_verdict : (c : Bool) (P : Instance) (text : List ℕ) → verdict_of (if_known c P) text ≡ text_judged c P text
same_verdict true P text = refl
same_verdict false P text = judged_free (view blank_problem) P text

fine_under : (d : Docket) → Long d → Fine (judged_under d)
fine_under d long = go (sound d) refl
  where
    known : (c : Bool) → d.known ≡ c → sound d ≡ true → Fine (if_known c (view d.problem))
    known true k s = ((valid_is d.problem long.0 long.1 long.2).0 (sound_valid d s k)).well_formed
    known false k s = tt

    go : (s : Bool) → sound d ≡ s → Fine (if_known (cond s d fresh_docket).known (view (cond s d fresh_docket).problem))
    go true e = known d.known refl e
    go false e = tt

module _ (d e : Docket) where
  refused_hold : (v : Verdict) (r : Refusal) → stated (hold d e v).answer ≡ answers.refused r.number r.line r.unit r.period → v ≡ verdict.refused r
  refused_hold (verdict.refused q) r h =
      let a : q.number ≡ r.number = cc in
      let b : q.line ≡ r.line = cc in
      let c : q.unit ≡ r.unit = cc in
      let f : q.period ≡ r.period = cc in
      λ i. verdict.refused (record { number = a i; line = b i; unit = c i; period = f i })
  refused_hold (verdict.problem P) r h = absurd (let z : ◌≡◌ {A = ℕ} 0 1 = cc in omega arith)
  refused_hold (verdict.schedule s) r h = absurd (go (is_less s.cost e.held.cost) h)
    where
      go : (c : Bool) → stated (cond c (lodged (with_schedule e s) (ScheduleHeld s.cost)) (lodged d (SchedulePassed s.cost))).answer ≡ answers.refused r.number r.line r.unit r.period → ⊥
      go true h = let z : ◌≡◌ {A = ℕ} 0 1 = cc in omega arith
      go false h = let z : ◌≡◌ {A = ℕ} 0 1 = cc in omega arith
  refused_hold (verdict.tree F) r h = absurd (go (is_higher F.figures.bound e.held.bound) h)
    where
      go : (c : Bool) → stated (cond c (lodged (with_bound e F) (TreeHeld F.figures)) (lodged d (TreePassed F.figures))).answer ≡ answers.refused r.number r.line r.unit r.period → ⊥
      go true h = let z : ◌≡◌ {A = ℕ} 0 1 = cc in omega arith
      go false h = let z : ◌≡◌ {A = ℕ} 0 1 = cc in omega arith

lodge_holds : (d : Docket) (text : List ℕ) → lodge_of d text ≡ hold d (trusted d) (verdict_of (judged_under d) text)
unfolding lodge_of
lodge_holds d text = ap (hold d (trusted d)) (sym (same_verdict (trusted d).known (view (trusted d).problem) text))

-- a refused text gets the number and the place that document 01 gives it
refused_under : (d : Docket) → Long d → (text : List ℕ) (r : Refusal)
    → (stated (lodge_of d text).answer ≡ answers.refused r.number r.line r.unit r.period) ↔ Is (judged_under d) text (verdict.refused r)
refused_under d long text r = (
  λ h.
      let v = refused_hold d (trusted d) (verdict_of (judged_under d) text) r (ap (λ l. stated l.answer) (sym (lodge_holds d text)) ∙ h) in
      subst (Is (judged_under d) text) v (verdict_is (judged_under d) (fine_under d long) text),
  λ i.
      ap (λ l. stated l.answer) (lodge_holds d text)
      ∙ ap (λ (v : Verdict). stated (hold d (trusted d) v).answer) (is_verdict (judged_under d) text (verdict.refused r) (fine_under d long) i),
)

judges_once : (d : Docket) (o o' : Option Instance) → JudgesBy d o → JudgesBy d o' → o ≡ o'
judges_once d o o' (its_own s) (its_own t) = refl
judges_once d o o' (its_own s) (no_problem t) = absurd (t s)
judges_once d o o' (no_problem s) (its_own t) = absurd (s t)
judges_once d o o' (no_problem s) (no_problem t) = refl

pub refused_everywhere : (d : Docket) → Long d → (o : Option Instance) × JudgesBy d o
    × ((text : List ℕ) (r : Refusal)
    → (stated (lodge_of d text).answer ≡ answers.refused r.number r.line r.unit r.period) ↔ Is o text (verdict.refused r))
refused_everywhere d long = (judged_under d, judges d long, refused_under d long)

-- the problem that it judges by is well-formed
pub fine_by : (d : Docket) → Long d → (o : Option Instance) → JudgesBy d o → Fine o
fine_by d long o j = subst Fine (judges_once d (judged_under d) o (judges d long) j) (fine_under d long)

-- ---- a report

pub reports_always : (d : Docket) → (lines : List ℕ)
    × ((b : List ℕ) (k : ℕ) → ((report_of d b k).docket ≡ d) × WrittenOr43 lines b k (report_answers.report_stated (report_of d b k).answer) (buffer_of d b k))
unfolding report_of buffer_of
reports_always d = (text_shown d, λ b k. (refl, written_or_refused (text_shown d) b k (has_room b k (text_shown d)) refl))
