-- Document 02, [3], after a list of texts: what refuses a unit line, p0 in the problem held, and the ramps of period 1 in schedules; and that a tree is the same
-- whatever p0 is.
use Rattle.std.specs.Prelude.{Ok}
use mathlib.Core.Path.{◌≡◌, refl, sym, ap, subst, ◌∙◌}
use mathlib.Core.Bool.{Bool, true, false, cond}
use mathlib.Core.List.{List, [], ◌∷◌}
use mathlib.Core.Logic.{◌↔◌}
use mathlib.Core.Option.{Option, none, some}
use Prim.Native.Nat.{ℕ, suc, ◌+◌, ◌<◌}
use native.Mathlib.Nat.{suc_inj}
use native.Mathlib.Omega.{arith}
use lib.Dec.{ltb}
use lib.ListN.{length}
use Rattle.model.specs.declared.generator.Generator.{Generator}
use Rattle.model.specs.Instance.{Instance, Schedule, ◌at◌, Each}
use Rattle.model.specs.Ranges.{All, InRange, Ordered, GoodUnit, WellFormed}
use Rattle.model.specs.Rules.{FirstRamp}
use Rattle.model.specs.Breach.{Breach}
use Rattle.model.specs.Broken.{Of, OffRamp, Broken, limits, demand, spare, updown, ramps, midnight, Lower}
use Rattle.model.specs.Unread.{AlikeButMidnight}
use Rattle.model.proofs.Lowest.{breach_is}
use Rattle.refusal.specs.Refusals.{line_refusal}
use Rattle.text.specs.Lines.{Line, ended, line_at, kind_of, kind_schedule, kind_tree}
use Rattle.text.specs.LineRefused.{Renders}
use Rattle.text.specs.declared.Kind.TheVariants as kind
use Rattle.text.proofs.FirstLine as first_line
use Rattle.problem.specs.Units.{unit_line, unit_form}
use Rattle.problem.specs.Refusals.{Breaks, RefusedAt}
use Rattle.problem.proofs.UnitRefusals.{count_refused, range_refused, order_refused, line_refused, fifteen_is}
use Rattle.schedule.specs.Acceptance.{rule_refusal, BreaksFirst, by_line, by_rule}
use Rattle.schedule.proofs.Wholes.{render_is_schedule}
use Rattle.tree.proofs.Unread.{judged_unread}
use Rattle.answer.specs.StatedAnswers.{AnswerValues, refused as answered_refused, Carries}
use Rattle.docket.specs.Verdicts.{Verdict, refused}
use Rattle.docket.specs.Texts.{Short, Begins, refused_line, Is, Are, too_long, no_kind, second_problem, schedule_early, tree_early, problem_refused, a_problem, schedule_refused, tree_refused, a_schedule, a_tree}
use Rattle.docket.specs.declared.Docket.{Docket}
use Rattle.docket.specs.declared.admission.Admission.TheVariants as admission
use Rattle.docket.specs.Lodging.{refuse_whole, admit, by_tree, verdict_by, text_judged}
use Rattle.docket.specs.Promised.{answer, given, ScheduleText, Long, JudgesBy}
use Rattle.docket.specs.Requested.{Midnight, in_period_1, UnitLineDue}
use Rattle.docket.proofs.OneVerdict.{part, Fine, verdict_of, is_verdict, verdict_is}
use Rattle.docket.proofs.AnyDocket.{fine_by}
use Rattle.docket.proofs.EachText as each

-- ---- the problem by which a docket judges

pub p0_within : (gs : List Generator) → All GoodUnit gs → All Midnight gs
p0_within [] a = tt
p0_within (g ∷ gs) a = (
  record { in_range = a.0.in_range.p0_in; on_before = a.0.ordered.midnight.0; off_before = a.0.ordered.midnight.1 },
  p0_within gs a.1,
)

pub p0_anywhere : (d : Docket) → Long d → (P : Instance) → JudgesBy d (some P) → All Midnight P.units
p0_anywhere d long P j = p0_within P.units (fine_by d long (some P) j).units_good

-- ---- the broken rule is that ramp

of_the_unit : (P : Instance) (s : Schedule) (u : ℕ) (b : Breach) → Broken P s b → b ≡ in_period_1 u
    → Of u (λ g r. OffRamp g g.on g.p0 (r at 0)) P.units s
of_the_unit P s u b (limits v t l h) e = absurd (omega (arith, ap (λ (c : Breach). c.number) e))
of_the_unit P s u b (demand t l h) e = absurd (omega (arith, ap (λ (c : Breach). c.number) e))
of_the_unit P s u b (spare t l h) e = absurd (omega (arith, ap (λ (c : Breach). c.number) e))
of_the_unit P s u b (updown v t l h) e = absurd (omega (arith, ap (λ (c : Breach). c.number) e))
of_the_unit P s u b (ramps v t l h) e = absurd (omega (arith, ap (λ (c : Breach). c.period) e))
of_the_unit P s u b (midnight v l h) e =
    subst (λ (n : ℕ). Of n (λ g r. OffRamp g g.on g.p0 (r at 0)) P.units s) (suc_inj (ap (λ (c : Breach). c.unit) e)) h

-- a schedule's text that is refused so breaks it first
breaks_first : (P : Instance) (text : List ℕ) (u : ℕ) (v : Verdict) → Is (some P) text v → v ≡ refused (rule_refusal (in_period_1 u))
    → BreaksFirst P text (in_period_1 u)
breaks_first P text u v (too_long h) e = absurd (omega (arith, ap (part (λ r. r.period)) e))
breaks_first P text u v (no_kind h p s t) e = absurd (omega (arith, ap (part (λ r. r.period)) e))
breaks_first P text u v (second_problem h b) e = absurd (omega (arith, ap (part (λ r. r.period)) e))
breaks_first P text u v (schedule_refused r h b (by_line n l x)) e = absurd (omega (arith, ap (part (λ r. r.period)) e))
breaks_first P text u v (schedule_refused r h b (by_rule c x)) e =
    subst (BreaksFirst P text) (breach_is c (ap (part (λ r. r.number)) e) (ap (part (λ r. r.unit)) e) (ap (part (λ r. r.period)) e)) x
breaks_first P text u v (a_schedule w s h e' ok rows meets) e = absurd (omega (arith, ap (part (λ r. r.period)) e))
breaks_first P text u v (tree_refused n l h b r) e = absurd (omega (arith, ap (part (λ r. r.period)) e))
breaks_first P text u v (a_tree w t h e' ok within holds) e = absurd (omega (arith, ap (part (λ r. r.period)) e))

-- a text that 15 refuses where no problem is held is a problem's, refused so at that line
refused_fifteen : (text : List ℕ) (m : ℕ) (v : Verdict) → Is none text v → v ≡ refused_line 15 m → RefusedAt text 15 m
refused_fifteen text m v (too_long h) e = absurd (omega (arith, ap (part (λ r. r.number)) e))
refused_fifteen text m v (no_kind h p s t) e = absurd (omega (arith, ap (part (λ r. r.number)) e))
refused_fifteen text m v (schedule_early h b) e = absurd (omega (arith, ap (part (λ r. r.number)) e))
refused_fifteen text m v (tree_early h b) e = absurd (omega (arith, ap (part (λ r. r.number)) e))
refused_fifteen text m v (problem_refused n l h b r) e =
    let p : n ≡ 15 = ap (part (λ r. r.number)) e in
    let q : l ≡ m = ap (part (λ r. r.line)) e in
    subst (λ (k : ℕ). RefusedAt text 15 k) q (subst (λ (k : ℕ). RefusedAt text k l) p r)
refused_fifteen text m v (a_problem P h x W) e = absurd (omega (arith, ap (part (λ r. r.number)) e))

module _ (texts : List (List ℕ)) (vs : List Verdict) (are : Are none texts vs) where
  -- ---- a unit line that is refused

  module _ (unknown : given vs ≡ none) (text : List ℕ) (before : List Line) where
    breaks_there : (n : ℕ) (x : Line) (d : UnitLineDue text before x) → Breaks d.some_problem (length before) x n
        → answer texts text ≡ answered_refused n (2 + length before) 0 0
    breaks_there n x d h =
        each.due texts vs are text (refused_line n (2 + length before)) (subst (λ (o : Option Instance). Is o text (refused_line n (2 + length before))) (sym unknown)
        (problem_refused n (2 + length before) d.short d.begins (line_refused text before d.rest x d.lines d.some_problem d.beginning n h)))

    pub count_gets_14 : (x : Line) (neg : Bool) (ns : List ℕ) → UnitLineDue text before x → Renders unit_form x neg ns → (length ns ≡ 15 → ⊥)
        → answer texts text ≡ answered_refused 14 (2 + length before) 0 0
    count_gets_14 x neg ns d r n = breaks_there 14 x d (count_refused d.some_problem (length before) d.place x neg ns r n)

    pub p0_gets_13 : (x : Line) (neg : Bool) (ns : List ℕ) → UnitLineDue text before x → Renders unit_form x neg ns → length ns ≡ 15
        → 10000 < ns at 14 → answer texts text ≡ answered_refused 13 (2 + length before) 0 0
    p0_gets_13 x neg ns d r c h = breaks_there 13 x d (range_refused d.some_problem (length before) d.place x neg ns r c (λ R. omega (arith, h, R.p0_in.1)))

    -- 15 exactly where the numbers are not ordered
    pub disorder_gets_15 : (g : Generator) → UnitLineDue text before (ended (unit_line g)) → InRange g
        → (answer texts text ≡ answered_refused 15 (2 + length before) 0 0) ↔ (Ordered g → ⊥)
    disorder_gets_15 g d R = (
      λ e. fifteen.0 (refused_fifteen text (2 + length before) _ (subst (λ (o : Option Instance). Is o text (refused_line 15 (2 + length before))) unknown
          ((each.refused_as texts vs are text (line_refusal 15 (2 + length before))).0 e)) refl),
      λ n. breaks_there 15 (ended (unit_line g)) d ((order_refused d.some_problem (length before) d.place g R).1 n),
    )
      where
        fifteen : RefusedAt text 15 (2 + length before) ↔ (Ordered g → ⊥)
        fifteen = fifteen_is text before d.rest (ended (unit_line g)) d.lines d.some_problem d.beginning g refl R d.place

    pub p0_gets_15 : (g : Generator) → UnitLineDue text before (ended (unit_line g)) → InRange g → (Midnight g → ⊥)
        → answer texts text ≡ answered_refused 15 (2 + length before) 0 0
    p0_gets_15 g d R n =
        (disorder_gets_15 g d R).1 (λ O. n (record { in_range = R.p0_in; on_before = O.midnight.0; off_before = O.midnight.1 }))

  module _ (P : Instance) (known : given vs ≡ some P) where
    pub formed : WellFormed P
    formed = subst Fine known (each.fine texts vs are)

    module _ (text : List ℕ) (short : Short text) (w : ℕ) (s : Schedule) (is : ScheduleText P text w s) where
      pub ramps_from_midnight : (x : AnswerValues) → Carries (answer texts text) x → Each FirstRamp P.units s
      ramps_from_midnight x c =
          ((each.schedule_as texts vs are P known w s (rw is.0 at short) is.1 is.2 x).0 (rw is.0 at c)).0.midnight

      pub period_1_named : (u : ℕ)
          → (answer texts text ≡ answered_refused 25 0 (suc u) 1)
          ↔ (Of u (λ g r. OffRamp g g.on g.p0 (r at 0)) P.units s × ((c : Breach) → Lower c (in_period_1 u) → Broken P s c → ⊥))
      period_1_named u = (
        λ e.
            let v = refused (rule_refusal (in_period_1 u)) in
            let i = (each.refused_as texts vs are text (rule_refusal (in_period_1 u))).0 e in
            let b = breaks_first P text u v (subst (λ (o : Option Instance). Is o text v) known i) refl in
            let same : b.rows ≡ s = (each.one_schedule texts vs are P known text b.writer w b.rows s (b.renders, b.writer_in, b.rows_in) is).1 in (
              of_the_unit P s u (in_period_1 u) (subst (λ (x : Schedule). Broken P x (in_period_1 u)) same b.broken) refl,
              subst (λ (x : Schedule). (c : Breach) → Lower c (in_period_1 u) → Broken P x c → ⊥) same b.first,
            ),
        λ h. (each.refused_as texts vs are text (rule_refusal (in_period_1 u))).1 (subst (λ (o : Option Instance). Is o text (refused (rule_refusal (in_period_1 u)))) (sym known)
            (schedule_refused (rule_refusal (in_period_1 u)) short begins (by_rule (in_period_1 u) (record {
              writer = w;
              rows = s;
              renders = is.0;
              writer_in = is.1;
              rows_in = is.2;
              broken = midnight u (omega (arith, formed.periods_in.0)) h.0;
              first = h.1;
            })))),
      )
        where
          begins : Begins text kind_schedule
          begins = (first_line.schedule_is (line_at text 0)).0 (rw is.0 (render_is_schedule w s))

-- ---- trees, whatever p0 is

module _ (P P' : Instance) (alike : AlikeButMidnight P P') where
  -- too long for both problems, or judged line by line by both
  judged_same : (text : List ℕ) → kind_of (line_at text 0) ≡ kind.Tree → text_judged true P text ≡ text_judged true P' text
  unfolding text_judged admit
  judged_same text k = rw k (go (ltb 1048576 (length text)))
    where
      go : (c : Bool) → verdict_by (cond c (refuse_whole 11 0) (Ok admission.Tree)) P text ≡ verdict_by (cond c (refuse_whole 11 0) (Ok admission.Tree)) P' text
      go true = refl
      go false = ap by_tree (judged_unread P P' alike text)

  pub tree_unread : WellFormed P → WellFormed P' → (text : List ℕ) → Begins text kind_tree → (v : Verdict) → Is (some P) text v ↔ Is (some P') text v
  tree_unread W W' text b v = (
    λ i. subst (Is (some P') text) (sym same ∙ is_verdict (some P) text v W i) (verdict_is (some P') W' text),
    λ i. subst (Is (some P) text) (same ∙ is_verdict (some P') text v W' i) (verdict_is (some P) W text),
  )
    where
      same : verdict_of (some P) text ≡ verdict_of (some P') text
      same = judged_same text ((first_line.tree_is (line_at text 0)).1 b)
