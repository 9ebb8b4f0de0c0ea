-- Document 01's problem, and what the texts of some schedules and trees are after it.
use mathlib.Core.Path.{◌≡◌, refl, subst}
use mathlib.Core.List.{List, [], ◌∷◌}
use mathlib.Core.Option.{Option, none, some}
use Prim.Native.Nat.{ℕ}
use lib.Dec.{lit≤}
use lib.IntN.{pos}
use Rattle.decimal.specs.Decimal.{digits, digits_by}
use Rattle.model.specs.Instance.{Instance, Schedule}
use Rattle.model.specs.Rules.{output, capacity}
use Rattle.model.specs.Cost.{cost, row_cost}
use Rattle.model.specs.Breach.{first_breach}
use Rattle.model.specs.Above.{count}
use Rattle.model.specs.Leaf.{usable, available, fixed_on, is_stuck}
use Rattle.model.specs.Figures.{Bound}
use Rattle.std.specs.Prelude.{Some as number}
use Rattle.model.specs.Figures.{tree_gives}
use Rattle.model.specs.Tree.{short, crowd, stuck, Tree, leaf, fork, GoodLeaf, LeafHolds, Limits, Holds, splits, leaves, tree_figures}
use Rattle.model.specs.CountExamples.{by_count, by_both, count_bounds, count_limits, count_holds}
use Rattle.model.specs.RampExamples.{priced_ramps, specimen_ramps, specimen_limits, specimen_holds}
use Rattle.model.proofs.BoundExamples.{example_tree, lone_leaf, example_limits, example_holds, example_bound, lone_bound}
use Rattle.refusal.specs.Refusals.{refusal_of, carries_line, carries_unit, carries_period}
use Rattle.text.specs.Lines.{kind_of, kind_problem}
use Rattle.text.specs.Forms.{malformed, wrong_count, outside_range}
use Rattle.text.specs.Course.{judged_from}
use Rattle.problem.specs.Rendering as problems
use Rattle.problem.proofs.Examples.{example, example_rendered, example_formed}
use Rattle.schedule.specs.Rendering as schedules
use Rattle.schedule.specs.Course as schedule_course
use Rattle.schedule.specs.ReadAnswers.{schedule_outcome}
use Rattle.tree.specs.Rendering as trees
use Rattle.tree.specs.NodeLines.{line_kind_of, kind_tests}
use Rattle.tree.specs.Course as tree_course
use Rattle.tree.specs.Acceptance.{Bounded, bounded}
use Rattle.docket.specs.Verdicts.{Verdict, problem, schedule, tree}
use Rattle.docket.specs.Texts.{Short, Begins, refused_line, Is, second_problem, a_problem, a_tree}
use Rattle.docket.specs.Lodging.{admit, text_judged}
use Rattle.docket.proofs.OneVerdict.{Fine, verdict_of, verdict_is}

-- a text is what lodging judges it to be
pub judged_as : (o : Option Instance) → Fine o → (text : List ℕ) (v : Verdict) → verdict_of o text ≡ v → Is o text v
judged_as o W text v e = subst (Is o text) e (verdict_is o W text)

-- ---- the problem

abbrev pub problem_text : List ℕ
problem_text = problems.render example

pub problem_short : Short problem_text
problem_short = rw example_rendered (lit≤ tt)

pub is_problem : Is none problem_text (problem example)
is_problem = a_problem example problem_short refl example_formed

-- a second problem: 41
pub is_second : Is (some example) problem_text (refused_line 41 0)
is_second = second_problem problem_short first
  where
    first : Begins problem_text kind_problem
    first = rw example_rendered refl

-- ---- schedules

abbrev pub rows : ℕ → ℕ → ℕ → ℕ → Schedule
rows a b c d = (a ∷ b ∷ []) ∷ (c ∷ d ∷ []) ∷ []

-- 60,80 and 0,20 by 7, and the same by 8: 1980; 50,80 and 10,20: 2060
rows_judged : (verdict_of (some example) (schedules.render 7 (rows 60 80 0 20)) ≡ schedule (record { writer = 7; cost = 1980; rows = rows 60 80 0 20 }))
    × (verdict_of (some example) (schedules.render 8 (rows 60 80 0 20)) ≡ schedule (record { writer = 8; cost = 1980; rows = rows 60 80 0 20 }))
    × (verdict_of (some example) (schedules.render 7 (rows 50 80 10 20)) ≡ schedule (record { writer = 7; cost = 2060; rows = rows 50 80 10 20 }))
unfolding text_judged admit kind_of schedule_outcome schedule_course.schedule_judged judged_from schedule_course.judge malformed wrong_count outside_range first_breach output capacity cost row_cost schedules.render digits digits_by
rows_judged = (refl, refl, refl)

pub is_cheap : Is (some example) (schedules.render 7 (rows 60 80 0 20)) (schedule (record { writer = 7; cost = 1980; rows = rows 60 80 0 20 }))
is_cheap = judged_as (some example) example_formed _ _ rows_judged.0

pub is_cheap_too : Is (some example) (schedules.render 8 (rows 60 80 0 20)) (schedule (record { writer = 8; cost = 1980; rows = rows 60 80 0 20 }))
is_cheap_too = judged_as (some example) example_formed _ _ rows_judged.1

pub is_dear : Is (some example) (schedules.render 7 (rows 50 80 10 20)) (schedule (record { writer = 7; cost = 2060; rows = rows 50 80 10 20 }))
is_dear = judged_as (some example) example_formed _ _ rows_judged.2

-- ---- trees, whose bounds are found by the walks of their leaves

-- the tree of document 01
abbrev pub one_split : Tree
one_split = example_tree

-- one price leaf alone: 10,14, and 0,2 on its reserve line
abbrev pub lone_price : Tree
lone_price = lone_leaf

abbrev pub figures : ℕ → ℕ → ℕ → ℕ → Bounded
figures w b m n = bounded w (tree_gives (number (pos b)) m n)

pub is_one_split : Is (some example) (trees.render 3 one_split) (tree (bounded 3 (tree_figures example one_split)))
unfolding trees.render trees.node_lines digits digits_by
is_one_split = a_tree 3 one_split (lit≤ tt) refl (lit≤ tt, lit≤ tt) example_limits example_holds

-- 1980, with one split line and two leaves
pub is_tree : Is (some example) (trees.render 3 one_split) (tree (figures 3 1980 1 2))
unfolding splits leaves
is_tree =
    subst (λ (b : Bound). Is (some example) (trees.render 3 one_split) (tree (bounded 3 (tree_gives b 1 2)))) example_bound
    is_one_split

is_lone : Is (some example) (trees.render 4 lone_price) (tree (bounded 4 (tree_figures example lone_price)))
unfolding trees.render trees.node_lines digits digits_by Limits GoodLeaf Holds LeafHolds is_stuck
is_lone =
    a_tree 4 lone_price (lit≤ tt) refl (lit≤ tt, lit≤ tt)
    ((refl, ((lit≤ tt, lit≤ tt), ((lit≤ tt, lit≤ tt), tt))), (refl, ((lit≤ tt, lit≤ tt), ((lit≤ tt, lit≤ tt), tt)))) tt

-- 1940, with no split line and one leaf
pub is_lone_price : Is (some example) (trees.render 4 lone_price) (tree (figures 4 1940 0 1))
unfolding splits leaves
is_lone_price =
    subst (λ (b : Bound). Is (some example) (trees.render 4 lone_price) (tree (bounded 4 (tree_gives b 0 1)))) lone_bound
    is_lone

-- a lone short=2: 33, line 3; a lone stuck=1: 34, line 3
leaves_judged : (verdict_of (some example) (trees.render 3 (leaf (short 1))) ≡ refused_line 33 3) × (verdict_of (some example) (trees.render 3 (leaf (stuck 0))) ≡ refused_line 34 3)
unfolding text_judged admit kind_of tree_course.tree_judged judged_from tree_course.judge tree_course.tests tree_course.next_due tree_course.after_node line_kind_of malformed wrong_count outside_range kind_tests available usable is_stuck refusal_of carries_line carries_unit carries_period trees.render trees.node_lines digits digits_by
leaves_judged = (refl, refl)

pub is_not_short : Is (some example) (trees.render 3 (leaf (short 1))) (refused_line 33 3)
is_not_short = judged_as (some example) example_formed _ _ leaves_judged.0

pub is_not_stuck : Is (some example) (trees.render 3 (leaf (stuck 0))) (refused_line 34 3)
is_not_stuck = judged_as (some example) example_formed _ _ leaves_judged.1

-- ---- document 02, [1]: trees that split on how many units are on

is_by_count : Is (some example) (trees.render 3 by_count) (tree (bounded 3 (tree_figures example by_count)))
unfolding trees.render trees.node_lines digits digits_by
is_by_count = a_tree 3 by_count (lit≤ tt) refl (lit≤ tt, lit≤ tt) count_limits.0 count_holds.0

is_by_both : Is (some example) (trees.render 3 by_both) (tree (bounded 3 (tree_figures example by_both)))
unfolding trees.render trees.node_lines digits digits_by
is_by_both = a_tree 3 by_both (lit≤ tt) refl (lit≤ tt, lit≤ tt) count_limits.1 count_holds.1

-- 1880, with one split line and two leaves; 1980, with two and three
pub is_counted : Is (some example) (trees.render 3 by_count) (tree (figures 3 1880 1 2))
unfolding splits leaves
is_counted = subst (λ (b : Bound). Is (some example) (trees.render 3 by_count) (tree (bounded 3 (tree_gives b 1 2)))) count_bounds.0 is_by_count

pub is_crowded : Is (some example) (trees.render 3 by_both) (tree (figures 3 1980 2 3))
unfolding splits leaves
is_crowded = subst (λ (b : Bound). Is (some example) (trees.render 3 by_both) (tree (bounded 3 (tree_gives b 2 3)))) count_bounds.1 is_by_both

-- a lone crowd=2: 36, line 3; a count in the first tree of the same one: 37, line 4
counts_judged : (verdict_of (some example) (trees.render 3 (leaf (crowd 1))) ≡ refused_line 36 3)
    × (verdict_of (some example) (trees.render 3 (fork (count 1 1) (fork (count 1 1) (leaf (short 1)) (leaf (short 1))) (leaf (short 1)))) ≡ refused_line 37 4)
unfolding text_judged admit kind_of tree_course.tree_judged judged_from tree_course.judge tree_course.tests tree_course.next_due tree_course.after_node line_kind_of malformed wrong_count outside_range kind_tests fixed_on usable refusal_of carries_line carries_unit carries_period trees.render trees.node_lines digits digits_by
counts_judged = (refl, refl)

pub is_not_crowd : Is (some example) (trees.render 3 (leaf (crowd 1))) (refused_line 36 3)
is_not_crowd = judged_as (some example) example_formed _ _ counts_judged.0

pub is_no_narrower : Is (some example) (trees.render 3 (fork (count 1 1) (fork (count 1 1) (leaf (short 1)) (leaf (short 1))) (leaf (short 1)))) (refused_line 37 4)
is_no_narrower = judged_as (some example) example_formed _ _ counts_judged.1

-- ---- document 02, [6]: a tree with prices on the ramps

is_priced_ramps : Is (some example) (trees.render 5 priced_ramps) (tree (bounded 5 (tree_figures example priced_ramps)))
unfolding trees.render trees.node_lines digits digits_by
is_priced_ramps = a_tree 5 priced_ramps (lit≤ tt) refl (lit≤ tt, lit≤ tt) specimen_limits specimen_holds

-- 1125, with no split line and one leaf
pub is_ramped : Is (some example) (trees.render 5 priced_ramps) (tree (figures 5 1125 0 1))
unfolding splits leaves
is_ramped = subst (λ (b : Bound). Is (some example) (trees.render 5 priced_ramps) (tree (bounded 5 (tree_gives b 0 1)))) specimen_ramps.0 is_priced_ramps
