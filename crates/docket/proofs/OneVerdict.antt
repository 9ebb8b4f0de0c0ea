-- What a text is at its place is one thing and always something: the relation of specs/Texts holds of what lodging judges, and of nothing
-- else. Each way goes by 11, the first line, 41 and 42, and then cites the law of the kind.
use mathlib.Core.Path.{◌≡◌, refl, sym, ap, subst, ◌∙◌}
use mathlib.Core.Bool.{Bool, true, false}
use mathlib.Core.List.{List}
use mathlib.Core.Option.{Option, none, some}
use mathlib.Core.Logic.{◌↔◌}
use Prim.Native.Nat.{ℕ, ◌<◌}
use native.Mathlib.Omega.{arith}
use lib.Dec.{ltb}
use lib.ListN.{length}
use borrow.Author.Tests.{lt-ltb, le-ltb, ltb-true, ltb-false}
use Rattle.model.specs.Instance.{Instance}
use Rattle.model.specs.Ranges.{WellFormed}
use Rattle.model.specs.Held.{view, blank_problem}
use Rattle.model.specs.declared.figures.TreeFigures.{TreeFigures}
use Rattle.model.specs.Tree.{Tree, tree_figures}
use Rattle.refusal.specs.declared.Refusal.{Refusal}
use Rattle.refusal.specs.Refusals.{refusal_of, carries_line, carries_unit, carries_period}
use Rattle.text.specs.Lines.{Line, ended, due, line_at, kind_of, kind_problem, kind_schedule, kind_tree}
use Rattle.text.specs.Course.{Judged, refused_at, accepted}
use Rattle.text.specs.declared.Kind.{Kind}
use Rattle.text.specs.declared.Kind.TheVariants as kind
use Rattle.text.proofs.FirstLine as first_line
use Rattle.problem.specs.Course.{problem_judged}
use Rattle.problem.proofs.Acceptance as problems_rendered
use Rattle.problem.proofs.Refusals as problems
use Rattle.schedule.specs.ReadAnswers.{Outcome, refused_by, accepted_as, schedule_outcome}
use Rattle.schedule.proofs.Wholes.{render_is_schedule}
use Rattle.schedule.proofs.Outcomes as schedules
use Rattle.tree.specs.Course as trees
use Rattle.tree.specs.Acceptance.{Bounded, bounded}
use Rattle.tree.specs.Rendering as trees_rendered
use Rattle.tree.proofs.Written.{render_cut}
use Rattle.tree.proofs.Acceptance as trees_answered
use Rattle.tree.proofs.ReadAnswers as trees_read
use Rattle.docket.specs.Verdicts.{Verdict, refused, problem, schedule, tree}
use Rattle.docket.specs.Texts.{Short, Begins, refused_line, Is, Accepted, too_long, no_kind, second_problem, schedule_early, tree_early, problem_refused, a_problem, schedule_refused, a_schedule, tree_refused, a_tree}
use Rattle.docket.specs.Lodging.{admit_kind, admit, by_problem, by_schedule, by_tree, verdict_by, text_judged}

-- a number of a refusal, 0 where nothing is refused
abbrev pub part : (Refusal → ℕ) → Verdict → ℕ
part f (refused r) = f r
part f (problem P) = 0
part f (schedule c) = 0
part f (tree F) = 0

-- a problem that an accepted text gave is well-formed
abbrev pub Fine : Option Instance → Type 0
Fine none = Unit {0}
Fine (some P) = WellFormed P

-- what lodging judges, where that problem is held
abbrev pub verdict_of : Option Instance → List ℕ → Verdict
verdict_of none text = text_judged false (view blank_problem) text
verdict_of (some P) text = text_judged true P text

-- ---- what is judged, by the text's size and first line

module _ (known : Bool) (P : Instance) (text : List ℕ) where
  judged_long : 1048576 < length text → text_judged known P text ≡ refused_line 11 0
  unfolding text_judged admit refusal_of carries_line carries_unit carries_period
  judged_long h = rw (lt-ltb 1048576 (length text) h) refl

  judged_kind : (k : Kind) → Short text → kind_of (line_at text 0) ≡ k → text_judged known P text ≡ verdict_by (admit_kind k known) P text
  unfolding text_judged admit
  judged_kind k h e = rw (le-ltb 1048576 (length text) h, e) refl

  unknown_12 : Short text → kind_of (line_at text 0) ≡ kind.Unknown → text_judged known P text ≡ refused_line 12 1
  unfolding refusal_of carries_line carries_unit carries_period
  unknown_12 h e = judged_kind kind.Unknown h e

module _ (P : Instance) (text : List ℕ) (h : Short text) where
  problem_41 : kind_of (line_at text 0) ≡ kind.Problem → text_judged true P text ≡ refused_line 41 0
  unfolding refusal_of carries_line carries_unit carries_period
  problem_41 e = judged_kind true P text kind.Problem h e

  schedule_42 : kind_of (line_at text 0) ≡ kind.Schedule → text_judged false P text ≡ refused_line 42 0
  unfolding refusal_of carries_line carries_unit carries_period
  schedule_42 e = judged_kind false P text kind.Schedule h e

  tree_42 : kind_of (line_at text 0) ≡ kind.Tree → text_judged false P text ≡ refused_line 42 0
  unfolding refusal_of carries_line carries_unit carries_period
  tree_42 e = judged_kind false P text kind.Tree h e

-- the first line is none of the three
unknown : (l : Line) → (l ≡ ended kind_problem → ⊥) → (l ≡ ended kind_schedule → ⊥) → (l ≡ ended kind_tree → ⊥) → kind_of l ≡ kind.Unknown
unknown l p s t = go (kind_of l) refl
  where
    go : (k : Kind) → kind_of l ≡ k → kind_of l ≡ kind.Unknown
    go kind.Unknown e = e
    go kind.Problem e = absurd (p ((first_line.problem_is l).0 e))
    go kind.Schedule e = absurd (s ((first_line.schedule_is l).0 e))
    go kind.Tree e = absurd (t ((first_line.tree_is l).0 e))

-- a tree's rendering begins with its kind
pub tree_begins : (w : ℕ) (t : Tree) → Begins (trees_rendered.render w t) kind_tree
tree_begins w t = ap due (render_cut w t)

-- ---- nothing else

pub is_verdict : (o : Option Instance) (text : List ℕ) (v : Verdict) → Fine o → Is o text v → verdict_of o text ≡ v
is_verdict none text v W (too_long h) = judged_long false (view blank_problem) text h
is_verdict (some P) text v W (too_long h) = judged_long true P text h
is_verdict none text v W (no_kind h p s t) = unknown_12 false (view blank_problem) text h (unknown (line_at text 0) p s t)
is_verdict (some P) text v W (no_kind h p s t) = unknown_12 true P text h (unknown (line_at text 0) p s t)
is_verdict (some P) text v W (second_problem h b) = problem_41 P text h ((first_line.problem_is (line_at text 0)).1 b)
is_verdict none text v W (schedule_early h b) = schedule_42 (view blank_problem) text h ((first_line.schedule_is (line_at text 0)).1 b)
is_verdict none text v W (tree_early h b) = tree_42 (view blank_problem) text h ((first_line.tree_is (line_at text 0)).1 b)
is_verdict none text v W (problem_refused n l h b r) =
    judged_kind false (view blank_problem) text kind.Problem h ((first_line.problem_is (line_at text 0)).1 b)
    ∙ ap by_problem ((problems.refused_is n l text).1 r)
    ∙ ap refused (problems.refused_carries n l text r)
is_verdict none text v W (a_problem P h e G) =
    let p = (problems_rendered.accepted_is P text).1 (e, G) in
    judged_kind false (view blank_problem) text kind.Problem h p.0 ∙ ap by_problem p.1
is_verdict (some P) text v W (schedule_refused r h b s) =
    let k = (first_line.schedule_is (line_at text 0)).1 b in
    judged_kind true P text kind.Schedule h k ∙ ap by_schedule ((schedules.refused_is P W text k r).1 s)
is_verdict (some P) text v W (a_schedule w s h e ok rows meets) =
    let k : kind_of (line_at text 0) ≡ kind.Schedule = rw e (render_is_schedule w s) in
    judged_kind true P text kind.Schedule h k
    ∙ ap by_schedule ((schedules.accepted_is P W text k w _ s).1 (record { renders = e; writer_in = ok; rows_in = rows; meets = meets; cost_is = refl }))
is_verdict (some P) text v W (tree_refused n l h b r) =
    judged_kind true P text kind.Tree h ((first_line.tree_is (line_at text 0)).1 b)
    ∙ ap by_tree ((trees_answered.refused_is P W.periods_in.0 text n l).1 r)
    ∙ ap refused (trees_read.refused_carries P text n l r)
is_verdict (some P) text v W (a_tree w t h e ok within holds) =
    let b : Begins text kind_tree = rw e (tree_begins w t) in
    let k = (first_line.tree_is (line_at text 0)).1 b in
    judged_kind true P text kind.Tree h k
    ∙ ap by_tree ((trees_answered.accepted_is P text k (bounded w (tree_figures P t)) W).1
    (record { tree = t; written = e; writer_in = ok; within = within; holds = holds; figures = refl }))

-- what a text is, is one thing
pub one_verdict : (o : Option Instance) (text : List ℕ) (v v' : Verdict) → Fine o → Is o text v → Is o text v' → v ≡ v'
one_verdict o text v v' W p q = sym (is_verdict o text v W p) ∙ is_verdict o text v' W q

-- ---- and always something

-- a text whose first line is none of the three begins with none of them
none_begins : (l : Line) → kind_of l ≡ kind.Unknown → (l ≡ ended kind_problem → ⊥) × ((l ≡ ended kind_schedule → ⊥) × (l ≡ ended kind_tree → ⊥))
none_begins l e = (
  λ b. let p = (first_line.problem_is l).1 b in let z : ◌≡◌ {A = ℕ} 0 1 = cc in omega arith,
  (
    λ b. let p = (first_line.schedule_is l).1 b in let z : ◌≡◌ {A = ℕ} 0 1 = cc in omega arith,
    λ b. let p = (first_line.tree_is l).1 b in let z : ◌≡◌ {A = ℕ} 0 1 = cc in omega arith,
  ),
)

module _ (text : List ℕ) (h : Short text) where
  -- what is judged is what the text is
  shown : (o : Option Instance) (v : Verdict) → verdict_of o text ≡ v → Is o text v → Is o text (verdict_of o text)
  shown o v e i = subst (Is o text) (sym e) i

  of_no_kind : (o : Option Instance) → kind_of (line_at text 0) ≡ kind.Unknown → Is o text (refused_line 12 1)
  of_no_kind o e = let n = none_begins (line_at text 0) e in no_kind h n.0 n.1.0 n.1.1

  of_problem : (j : Judged Instance) → kind_of (line_at text 0) ≡ kind.Problem → problem_judged text ≡ j → Is none text (by_problem j)
  of_problem (refused_at n l) k e =
      let r = (problems.refused_is n l text).0 e in
      subst (Is none text) (ap refused (sym (problems.refused_carries n l text r))) (problem_refused n l h ((first_line.problem_is (line_at text 0)).0 k) r)
  of_problem (accepted P) k e = let a = (problems_rendered.accepted_is P text).0 (k, e) in a_problem P h a.0 a.1

  module _ (P : Instance) (W : WellFormed P) where
    of_schedule : (j : Outcome) → kind_of (line_at text 0) ≡ kind.Schedule → schedule_outcome P text ≡ j → Is (some P) text (by_schedule j)
    of_schedule (refused_by r) k e = schedule_refused r h ((first_line.schedule_is (line_at text 0)).0 k) ((schedules.refused_is P W text k r).0 e)
    of_schedule (accepted_as w c s) k e =
        let a = (schedules.accepted_is P W text k w c s).0 e in
        subst (λ (x : ℕ). Is (some P) text (schedule (record { writer = w; cost = x; rows = s }))) (sym a.cost_is)
        (a_schedule w s h a.renders a.writer_in a.rows_in a.meets)

    of_tree : (j : Judged Bounded) → kind_of (line_at text 0) ≡ kind.Tree → trees.tree_judged P text ≡ j → Is (some P) text (by_tree j)
    of_tree (refused_at n l) k e =
        let r = (trees_answered.refused_is P W.periods_in.0 text n l).0 e in
        subst (Is (some P) text) (ap refused (sym (trees_read.refused_carries P text n l r))) (tree_refused n l h ((first_line.tree_is (line_at text 0)).0 k) r)
    of_tree (accepted F) k e =
        let a = (trees_answered.accepted_is P text k F W).0 e in
        subst (λ (S : TreeFigures). Is (some P) text (tree (bounded F.writer S))) (sym a.figures)
        (a_tree F.writer a.tree h a.written a.writer_in a.within a.holds)

  short_is : (o : Option Instance) → Fine o → (k : Kind) → kind_of (line_at text 0) ≡ k → Is o text (verdict_of o text)
  short_is none W kind.Unknown e = shown none _ (unknown_12 false (view blank_problem) text h e) (of_no_kind none e)
  short_is none W kind.Problem e =
      shown none _ (judged_kind false (view blank_problem) text kind.Problem h e) (of_problem (problem_judged text) e refl)
  short_is none W kind.Schedule e =
      shown none _ (schedule_42 (view blank_problem) text h e) (schedule_early h ((first_line.schedule_is (line_at text 0)).0 e))
  short_is none W kind.Tree e = shown none _ (tree_42 (view blank_problem) text h e) (tree_early h ((first_line.tree_is (line_at text 0)).0 e))
  short_is (some P) W kind.Unknown e = shown (some P) _ (unknown_12 true P text h e) (of_no_kind (some P) e)
  short_is (some P) W kind.Problem e = shown (some P) _ (problem_41 P text h e) (second_problem h ((first_line.problem_is (line_at text 0)).0 e))
  short_is (some P) W kind.Schedule e =
      shown (some P) _ (judged_kind true P text kind.Schedule h e) (of_schedule P W (schedule_outcome P text) e refl)
  short_is (some P) W kind.Tree e = shown (some P) _ (judged_kind true P text kind.Tree h e) (of_tree P W (trees.tree_judged P text) e refl)

long_is : (o : Option Instance) (text : List ℕ) → 1048576 < length text → Is o text (verdict_of o text)
long_is none text h = subst (Is none text) (sym (judged_long false (view blank_problem) text h)) (too_long h)
long_is (some P) text h = subst (Is (some P) text) (sym (judged_long true P text h)) (too_long h)

-- what a text is, is what lodging judges
pub verdict_is : (o : Option Instance) → Fine o → (text : List ℕ) → Is o text (verdict_of o text)
verdict_is o W text = go (ltb 1048576 (length text)) refl
  where
    go : (c : Bool) → ltb 1048576 (length text) ≡ c → Is o text (verdict_of o text)
    go true e = long_is o text (ltb-true 1048576 (length text) e)
    go false e = short_is text (ltb-false 1048576 (length text) e) o W (kind_of (line_at text 0)) refl

-- document 01, The list of demand 3: to be accepted is to be met by no refusal number, under the problem that the texts before gave
pub accepted_is : (o : Option Instance) → Fine o → (text : List ℕ) → Accepted o text ↔ ((r : Refusal) → Is o text (refused r) → ⊥)
accepted_is o W text = (
  λ a r i. a.unrefused r (one_verdict o text a.as_what (refused r) W a.is i),
  λ n. record { as_what = verdict_of o text; is = verdict_is o W text; unrefused = λ r e. n r (subst (Is o text) e (verdict_is o W text)) },
)
