-- After any list, one text more (demands 1 and 2): refused exactly with the number and place that meet it, and accepted exactly when it is the text of a
-- well-formed problem, of a schedule that meets the rules, or of a tree whose leaves meet theirs.
use mathlib.Core.Path.{◌≡◌, refl, sym, ap, subst, ◌∙◌}
use mathlib.Core.Bool.{Bool, true, false}
use mathlib.Core.List.{List, [], ◌∷◌, ◌++◌}
use mathlib.Core.Option.{Option, none, some}
use mathlib.Core.Logic.{◌↔◌, ◌⊎◌, inl, inr}
use Prim.Native.Nat.{ℕ}
use native.Mathlib.Omega.{arith}
use lib.Dec.{ltb}
use Rattle.model.specs.Instance.{Instance, Schedule}
use Rattle.model.specs.Ranges.{WellFormed, GoodWriter, GoodRows, every}
use Rattle.model.specs.Rules.{Meets}
use Rattle.model.specs.Cost.{cost}
use Rattle.model.specs.Above.{root}
use Rattle.model.specs.Held as arrays
use Rattle.model.specs.Figures.{Bound}
use Rattle.model.specs.Tree.{Tree, Limits, Holds, bound, tree_figures}
use Rattle.model.specs.Best.{higher}
use Rattle.model.proofs.Held.{view_held}
use Rattle.refusal.specs.declared.Refusal.{Refusal}
use Rattle.text.specs.Lines.{ended, line_at, kind_of, kind_tree}
use Rattle.text.specs.declared.Kind.TheVariants as kind
use Rattle.text.proofs.FirstLine as first_line
use Rattle.schedule.specs.Rendering as schedule_text
use Rattle.schedule.specs.WellFormed as schedule_lines
use Rattle.schedule.proofs.Wholes.{render_is_schedule, render_injective}
use Rattle.schedule.proofs.WellFormed as schedule_formed
use Rattle.tree.specs.Rendering as tree_text
use Rattle.tree.specs.WellFormed as tree_lines
use Rattle.tree.proofs.Unique.{tree_once}
use Rattle.tree.proofs.WellFormed as tree_formed
use Rattle.answer.specs.StatedAnswers as answers
use Rattle.answer.specs.StatedAnswers.{AnswerValues, no_values, its_cost, its_bound, Stated, Carries}
use Rattle.docket.specs.Verdicts.{Verdict, refused, problem, schedule, tree, schedules, trees, known_after, known_at_end}
use Rattle.docket.specs.Texts.{Short, Is, Are, too_long, no_kind, second_problem, schedule_early, tree_early, problem_refused, a_problem, schedule_refused, a_schedule, tree_refused, a_tree}
use Rattle.docket.specs.Lodging.{lodge_of}
use Rattle.docket.specs.Promised.{after, answer, given, ProblemText, ScheduleText, TreeText, OfSchedule, OfTree}
use Rattle.docket.specs.Demand3.{answer_due, held_if, Holding}
use Rattle.docket.proofs.OneVerdict.{Fine, verdict_of, verdict_is, tree_begins}
use Rattle.docket.proofs.Lists.{proper_fine}
use Rattle.docket.proofs.AfterTexts.{proper_then}
use Rattle.docket.proofs.Demand3.{demand3}
use Rattle.docket.proofs.Determined.{holds_then}
use Rattle.docket.proofs.NextText.{answered, holds_next}

-- ---- answers that are due carry what the verdict gives

carries_if : (c : Bool) (v x : AnswerValues) → Carries (held_if c v) x → v ≡ x
carries_if true v x h = h
carries_if false v x h = h

if_carries : (c : Bool) (v : AnswerValues) → Carries (held_if c v) v
if_carries true v = refl
if_carries false v = refl

not_refused : (c : Bool) (v : AnswerValues) (n l u t : ℕ) → held_if c v ≡ answers.refused n l u t → ⊥
not_refused true v n l u t e = absurd (let z : ◌≡◌ {A = ℕ} 0 1 = cc in omega arith)
not_refused false v n l u t e = absurd (let z : ◌≡◌ {A = ℕ} 0 1 = cc in omega arith)

-- whether a schedule costs less than all before it, and whether a tree's bound is higher
abbrev less_than : List Verdict → ℕ → Bool
less_than past c = every (λ x. ltb c x.cost) (schedules past)

abbrev higher_than : List Verdict → Bound → Bool
higher_than past b = every (λ G. higher b G.figures.bound) (trees past)

-- a verdict to which a refusal is due is that refusal
due_refused : (past : List Verdict) (v : Verdict) (r : Refusal) → answer_due past v ≡ answers.refused r.number r.line r.unit r.period
    → v ≡ refused r
due_refused past (refused q) r e =
    let a : q.number ≡ r.number = cc in
    let b : q.line ≡ r.line = cc in
    let c : q.unit ≡ r.unit = cc in
    let d : q.period ≡ r.period = cc in
    λ i. refused (record { number = a i; line = b i; unit = c i; period = d i })
due_refused past (problem P) r e = absurd (not_refused true no_values r.number r.line r.unit r.period e)
due_refused past (schedule s) r e = absurd (not_refused (less_than past s.cost) (its_cost s.cost) r.number r.line r.unit r.period e)
due_refused past (tree F) r e = absurd (not_refused (higher_than past F.figures.bound) (its_bound F.figures) r.number r.line r.unit r.period e)

-- ---- what a rendering can be

two_kinds : (text : List ℕ) → kind_of (line_at text 0) ≡ kind.Schedule → (w : ℕ) (t : Tree) → text ≡ tree_text.render w t → ⊥
two_kinds text k w t e =
    let b = (first_line.tree_is (line_at text 0)).1 (subst (λ (x : List ℕ). line_at x 0 ≡ ended kind_tree) (sym e) (tree_begins w t)) in
    absurd (let z : ◌≡◌ {A = ℕ} 0 1 = cc in omega arith)

module _ (P : Instance) (W : WellFormed P) (past : List Verdict) (text : List ℕ) (x : AnswerValues) where
  -- a text of rows in range that is accepted meets the rules, and its cost is given
  of_rows : (w : ℕ) (s : Schedule) → GoodWriter w → GoodRows P s → text ≡ schedule_text.render w s → (v : Verdict) → Is (some P) text v
      → Carries (answer_due past v) x
      → Meets P s × (x ≡ its_cost (cost P s))
  of_rows w s ok rows e v (too_long h) c = absurd c
  of_rows w s ok rows e v (no_kind h p q t) c = absurd c
  of_rows w s ok rows e v (second_problem h b) c = absurd c
  of_rows w s ok rows e v (schedule_refused r h b q) c = absurd c
  of_rows w s ok rows e v (a_schedule w' s' h e' ok' rows' meets) c =
      let same = (render_injective P W w w' s s' ok rows ok' rows' (sym e ∙ e')).1 in (
        subst (Meets P) (sym same) meets,
        sym (carries_if (less_than past (cost P s')) (its_cost (cost P s')) x c) ∙ ap (λ (z : Schedule). its_cost (cost P z)) (sym same),
      )
  of_rows w s ok rows e v (tree_refused n l h b r) c = absurd c
  of_rows w s ok rows e v (a_tree w' t h e' ok' within holds) c =
      absurd (two_kinds text (subst (λ (z : List ℕ). kind_of (line_at z 0) ≡ kind.Schedule) (sym e) (render_is_schedule w s)) w' t e')

  -- a text of a tree within the limits that is accepted has leaves that hold, and its figures are given
  of_tree : (w : ℕ) (t : Tree) → Limits P root 0 t → text ≡ tree_text.render w t → (v : Verdict) → Is (some P) text v → Carries (answer_due past v) x
      → Holds P root t × (x ≡ its_bound (tree_figures P t))
  of_tree w t within e v (too_long h) c = absurd c
  of_tree w t within e v (no_kind h p q r) c = absurd c
  of_tree w t within e v (second_problem h b) c = absurd c
  of_tree w t within e v (schedule_refused r h b q) c = absurd c
  of_tree w t within e v (a_schedule w' s h e' ok rows meets) c =
      absurd (two_kinds text (subst (λ (z : List ℕ). kind_of (line_at z 0) ≡ kind.Schedule) (sym e') (render_is_schedule w' s)) w t e)
  of_tree w t within e v (tree_refused n l h b r) c = absurd c
  of_tree w t within e v (a_tree w' t' h e' ok within' holds) c =
      let same = (tree_once P W.periods_in.0 w w' t t' within within' (sym e ∙ e')).1 in (
        subst (Holds P root) (sym same) holds,
        sym (carries_if (higher_than past (bound P root t')) (its_bound (tree_figures P t')) x c)
            ∙ ap (λ (z : Tree). its_bound (tree_figures P z)) (sym same),
      )

-- where no problem is held, an accepted text is a problem's
of_none : (past : List Verdict) (text : List ℕ) (x : AnswerValues) (v : Verdict) → Is none text v → Carries (answer_due past v) x
    → ((P : Instance) × ProblemText text P) × (x ≡ no_values)
of_none past text x v (too_long h) c = absurd c
of_none past text x v (no_kind h p q t) c = absurd c
of_none past text x v (schedule_early h b) c = absurd c
of_none past text x v (tree_early h b) c = absurd c
of_none past text x v (problem_refused n l h b r) c = absurd c
of_none past text x v (a_problem P h e W) c = ((P, (h, (e, W))), sym c)

known_more : (o : Option Instance) (vs : List Verdict) (v : Verdict) → known_at_end o (vs ++ (v ∷ [])) ≡ known_after (known_at_end o vs) v
known_more o [] v = refl
known_more o (u ∷ vs) v = known_more (known_after o u) vs v

-- under the problem P an accepted text is a schedule's or a tree's
of_some : (P : Instance) (past : List Verdict) (text : List ℕ) (x : AnswerValues) (v : Verdict) → Is (some P) text v → Carries (answer_due past v) x
    → OfSchedule P text x ⊎ OfTree P text x
of_some P past text x v (too_long h) c = absurd c
of_some P past text x v (no_kind h p q t) c = absurd c
of_some P past text x v (second_problem h b) c = absurd c
of_some P past text x v (schedule_refused r h b q) c = absurd c
of_some P past text x v (a_schedule w s h e ok rows meets) c =
    inl (h, (w, s, (e, ok, rows), meets, sym (carries_if (less_than past (cost P s)) (its_cost (cost P s)) x c)))
of_some P past text x v (tree_refused n l h b r) c = absurd c
of_some P past text x v (a_tree w t h e ok within holds) c =
    inr (h, (w, t, (e, ok, within), holds, sym (carries_if (higher_than past (bound P root t)) (its_bound (tree_figures P t)) x c)))

-- ---- after a list with these verdicts

module _ (texts : List (List ℕ)) (vs : List Verdict) (are : Are none texts vs) where
  pub fine : Fine (given vs)
  fine = proper_fine (given vs) vs (proper_then texts vs are)

  pub due : (text : List ℕ) (v : Verdict) → Is (given vs) text v → answer texts text ≡ answer_due vs v
  due text v i = answered lodge_of demand3 texts vs are text v i

  pub refused_as : (text : List ℕ) (r : Refusal)
      → (answer texts text ≡ answers.refused r.number r.line r.unit r.period) ↔ Is (given vs) text (refused r)
  refused_as text r = (
    λ e.
        let i = verdict_is (given vs) fine text in
        subst (Is (given vs) text) (due_refused vs (verdict_of (given vs) text) r (sym (due text (verdict_of (given vs) text) i) ∙ e)) i,
    λ i. due text (refused r) i,
  )

  -- a problem, where none is held
  module _ (unknown : given vs ≡ none) where
    pub problem_as : (text : List ℕ) (x : AnswerValues) → Carries (answer texts text) x ↔ (((P : Instance) × ProblemText text P) × (x ≡ no_values))
    problem_as text x = (
      λ c.
          let i = verdict_is (given vs) fine text in
          of_none vs text x (verdict_of (given vs) text) (subst (λ (o : Option Instance). Is o text (verdict_of (given vs) text)) unknown i)
          (subst (λ (a : Stated). Carries a x) (due text (verdict_of (given vs) text) i) c),
      λ p.
          let i = subst (λ (o : Option Instance). Is o text (problem p.0.0)) (sym unknown) (a_problem p.0.0 p.0.1.0 p.0.1.1.0 p.0.1.1.1) in
          subst (λ (a : Stated). Carries a x) (sym (due text (problem p.0.0) i)) (sym p.1),
    )

    -- it is held as its text gives it
    pub problem_held : (text : List ℕ) (P : Instance) → ProblemText text P
        → ((lodge_of (after texts) text).docket.known ≡ true) × (arrays.view (lodge_of (after texts) text).docket.problem ≡ P)
    problem_held text P p =
        let i = subst (λ (o : Option Instance). Is o text (problem P)) (sym unknown) (a_problem P p.0 p.1.0 p.1.1) in
        let h = subst (λ (o : Option Instance). Holding o (vs ++ (problem P ∷ [])) (lodge_of (after texts) text).docket)
        (known_more none vs (problem P) ∙ ap (λ (o : Option Instance). known_after o (problem P)) unknown)
        (holds_next lodge_of demand3 texts vs are text (problem P) i) in
        (h.known, ap arrays.view h.problem_is ∙ view_held P p.1.1)

  -- a schedule and a tree, under the problem P
  module _ (P : Instance) (known : given vs ≡ some P) where
    formed : WellFormed P
    formed = subst Fine known fine

    -- which is held
    pub is_held : ((after texts).known ≡ true) × (arrays.view (after texts).problem ≡ P)
    is_held =
        let h = subst (λ (o : Option Instance). Holding o vs (after texts)) known (holds_then lodge_of demand3 texts vs are) in
        (h.known, ap arrays.view h.problem_is ∙ view_held P formed)

    under : (text : List ℕ) (v : Verdict) → Is (given vs) text v → Is (some P) text v
    under text v i = subst (λ (o : Option Instance). Is o text v) known i

    over : (text : List ℕ) (v : Verdict) → Is (some P) text v → Is (given vs) text v
    over text v i = subst (λ (o : Option Instance). Is o text v) (sym known) i

    pub schedule_as : (w : ℕ) (s : Schedule) → Short (schedule_text.render w s) → GoodWriter w → GoodRows P s → (x : AnswerValues)
        → Carries (answer texts (schedule_text.render w s)) x ↔ (Meets P s × (x ≡ its_cost (cost P s)))
    schedule_as w s h ok rows x =
        let text = schedule_text.render w s in
        let i = verdict_is (given vs) fine text in (
          (λ c. of_rows P formed vs text x w s ok rows refl (verdict_of (given vs) text) (under text (verdict_of (given vs) text) i)
              (subst (λ (a : Stated). Carries a x) (due text (verdict_of (given vs) text) i) c)),
          (λ m. subst (λ (a : Stated). Carries a x) (sym (due text _ (over text _ (a_schedule w s h refl ok rows m.0))))
              (subst (λ (y : AnswerValues). Carries (held_if (less_than vs (cost P s)) (its_cost (cost P s))) y) (sym m.1) (if_carries (less_than vs (cost P s)) (its_cost (cost P s))))),
        )

    pub tree_as : (w : ℕ) (t : Tree) → Short (tree_text.render w t) → GoodWriter w → Limits P root 0 t → (x : AnswerValues)
        → Carries (answer texts (tree_text.render w t)) x ↔ (Holds P root t × (x ≡ its_bound (tree_figures P t)))
    tree_as w t h ok within x =
        let text = tree_text.render w t in
        let i = verdict_is (given vs) fine text in (
          (λ c. of_tree P formed vs text x w t within refl (verdict_of (given vs) text) (under text (verdict_of (given vs) text) i)
              (subst (λ (a : Stated). Carries a x) (due text (verdict_of (given vs) text) i) c)),
          (λ m. subst (λ (a : Stated). Carries a x) (sym (due text _ (over text _ (a_tree w t h refl ok within m.0))))
              (subst (λ (y : AnswerValues). Carries (held_if (higher_than vs (bound P root t)) (its_bound (tree_figures P t))) y) (sym m.1)
              (if_carries (higher_than vs (bound P root t)) (its_bound (tree_figures P t))))),
        )

    -- the same of well-formed texts, which are the short ones of a writer and rows in range, or of a writer and a tree within the limits
    pub schedule_formed_is : (text : List ℕ) → schedule_lines.WellFormed P text ↔ (Short text × ((w : ℕ) × (s : Schedule) × ScheduleText P text w s))
    schedule_formed_is = schedule_formed.well_formed_is P formed

    pub tree_formed_is : (text : List ℕ) → tree_lines.WellFormed P text ↔ (Short text × ((w : ℕ) × (t : Tree) × TreeText P text w t))
    tree_formed_is = tree_formed.well_formed_is P formed.periods_in.0

    pub one_schedule : (text : List ℕ) (w w' : ℕ) (s s' : Schedule) → ScheduleText P text w s → ScheduleText P text w' s' → (w ≡ w') × (s ≡ s')
    one_schedule text w w' s s' a b = render_injective P formed w w' s s' a.1 a.2 b.1 b.2 (sym a.0 ∙ b.0)

    pub one_tree : (text : List ℕ) (w w' : ℕ) (t t' : Tree) → TreeText P text w t → TreeText P text w' t' → (w ≡ w') × (t ≡ t')
    one_tree text w w' t t' a b = tree_once P formed.periods_in.0 w w' t t' a.2 b.2 (sym a.0 ∙ b.0)

    pub schedule_by_lines : (text : List ℕ) → schedule_lines.WellFormed P text
        → (w : ℕ) × (s : Schedule) × ScheduleText P text w s × ((x : AnswerValues) → Carries (answer texts text) x ↔ (Meets P s × (x ≡ its_cost (cost P s))))
    schedule_by_lines text f = go ((schedule_formed_is text).0 f)
      where
        go : Short text × ((w : ℕ) × (s : Schedule) × ScheduleText P text w s)
            → (w : ℕ) × (s : Schedule) × ScheduleText P text w s × ((x : AnswerValues) → Carries (answer texts text) x ↔ (Meets P s × (x ≡ its_cost (cost P s))))
        go (h, (w, s, (e, ok, rows))) = (w, s, (e, ok, rows), λ x. rw e (schedule_as w s (rw e at h) ok rows x))

    pub tree_by_lines : (text : List ℕ) → tree_lines.WellFormed P text
        → (w : ℕ) × (t : Tree) × TreeText P text w t
        × ((x : AnswerValues) → Carries (answer texts text) x ↔ (Holds P root t × (x ≡ its_bound (tree_figures P t))))
    tree_by_lines text f = go ((tree_formed_is text).0 f)
      where
        go : Short text × ((w : ℕ) × (t : Tree) × TreeText P text w t)
            → (w : ℕ) × (t : Tree) × TreeText P text w t
            × ((x : AnswerValues) → Carries (answer texts text) x ↔ (Holds P root t × (x ≡ its_bound (tree_figures P t))))
        go (h, (w, t, (e, ok, within))) = (w, t, (e, ok, within), λ x. rw e (tree_as w t (rw e at h) ok within x))

    pub nothing_else : (text : List ℕ) (x : AnswerValues) → Carries (answer texts text) x → OfSchedule P text x ⊎ OfTree P text x
    nothing_else text x c =
        let i = verdict_is (given vs) fine text in
        of_some P vs text x (verdict_of (given vs) text) (under text (verdict_of (given vs) text) i)
        (subst (λ (a : Stated). Carries a x) (due text (verdict_of (given vs) text) i) c)

    pub only_formed : (text : List ℕ) (x : AnswerValues) → Carries (answer texts text) x → schedule_lines.WellFormed P text ⊎ tree_lines.WellFormed P text
    only_formed text x c = go (nothing_else text x c)
      where
        go : OfSchedule P text x ⊎ OfTree P text x → schedule_lines.WellFormed P text ⊎ tree_lines.WellFormed P text
        go (inl (h, (w, s, of, m, v))) = inl ((schedule_formed_is text).1 (h, (w, s, of)))
        go (inr (h, (w, t, of, m, v))) = inr ((tree_formed_is text).1 (h, (w, t, of)))
