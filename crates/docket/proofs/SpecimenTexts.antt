-- What each text of document 01's marked specimens is at its place. The texts of its problem are renderings of what is known already; the others are
-- judged by computing.
use mathlib.Core.Path.{◌≡◌, refl, sym, subst}
use mathlib.Core.Bool.{false}
use mathlib.Core.List.{List, [], ◌∷◌}
use mathlib.Core.Option.{Option, none, some}
use Prim.Native.Nat.{ℕ}
use native.Mathlib.Omega.{arith}
use lib.Dec.{lit≤}
use Rattle.decimal.specs.Decimal.{digits, digits_by}
use Rattle.model.specs.declared.generator.Generator.{Generator}
use Rattle.model.specs.Instance.{Instance}
use Rattle.model.specs.Ranges.{midnight_ordered, ordered}
use Rattle.model.specs.Rules.{output, capacity}
use Rattle.model.specs.Cost.{cost, row_cost}
use Rattle.model.specs.Breach.{first_breach}
use Rattle.model.specs.Above.{count}
use Rattle.model.specs.Leaf.{usable, available, is_stuck}
use Rattle.model.specs.Tree.{short, crowd, leaf, fork}
use Rattle.model.specs.CountExamples.{by_count, by_both}
use Rattle.model.specs.RampExamples.{priced_ramps}
use Rattle.refusal.specs.Refusals.{refusal_of, carries_line, carries_unit, carries_period}
use Rattle.text.specs.Lines.{missing, ended, kind_of, kind_problem, kind_schedule, kind_tree}
use Rattle.text.specs.Forms.{malformed, wrong_count, outside_range}
use Rattle.text.specs.Course.{judged_from}
use Rattle.problem.specs.Units.{unit_of}
use Rattle.problem.specs.Course as problem_course
use Rattle.problem.specs.Rendering as problems
use Rattle.problem.proofs.Examples.{example, example_rendered, example_formed}
use Rattle.schedule.specs.Course as schedule_course
use Rattle.schedule.specs.ReadAnswers.{schedule_outcome}
use Rattle.schedule.specs.Rendering as schedules
use Rattle.tree.specs.Rendering as trees
use Rattle.tree.specs.NodeLines.{line_kind_of, kind_tests, leaf_tests}
use Rattle.tree.specs.Course as tree_course
use Rattle.docket.specs.Verdicts.{Verdict, refused, problem, schedule, tree}
use Rattle.docket.specs.Texts.{refused_line, Is, no_kind, tree_early}
use Rattle.docket.specs.Lodging.{admit, text_judged}
use Rattle.docket.specs.Specimens.{problem_of, listed_problem, schedule_text, listed_schedule, tree_text, listed_tree, lone_leaf, lone_short, counted_tree, crowded_tree, lone_crowd, count_twice, ramp_tree, stuck_ramp, start_problem, off_two, off_three, down_problem}
use Rattle.docket.proofs.OneVerdict.{verdict_of}
use Rattle.docket.proofs.Specimens.{rows, one_split, lone_price, figures, is_problem, is_cheap, is_tree, is_lone_price, is_not_short, judged_as, is_counted, is_crowded, is_not_crowd, is_no_narrower, is_ramped}

-- ---- the listing's texts are those of its problem, schedule and tree

pub listed_rendered : (listed_problem ≡ problems.render example) × (listed_schedule ≡ schedules.render 7 (rows 60 80 0 20))
    × (listed_tree ≡ trees.render 3 one_split)
unfolding problem_of schedule_text tree_text schedules.render trees.render trees.node_lines digits digits_by
listed_rendered = (sym example_rendered, refl, refl)

leaves_rendered : (lone_leaf ≡ trees.render 4 lone_price) × (lone_short ≡ trees.render 3 (leaf (short 1)))
unfolding tree_text trees.render trees.node_lines digits digits_by
leaves_rendered = (refl, refl)

-- two writings of one text
written : {o : Option Instance} {text same : List ℕ} {v : Verdict} → text ≡ same → Is o same v → Is o text v
written {o} {v = v} e i = subst (λ (t : List ℕ). Is o t v) (sym e) i

pub is_listed_problem : Is none listed_problem (problem example)
is_listed_problem = written listed_rendered.0 is_problem

pub is_listed_schedule : Is (some example) listed_schedule (schedule (record { writer = 7; cost = 1980; rows = rows 60 80 0 20 }))
is_listed_schedule = written listed_rendered.1 is_cheap

pub is_listed_tree : Is (some example) listed_tree (tree (figures 3 1980 1 2))
is_listed_tree = written listed_rendered.2 is_tree

pub is_lone_leaf : Is (some example) lone_leaf (tree (figures 4 1940 0 1))
is_lone_leaf = written leaves_rendered.0 is_lone_price

pub is_lone_short : Is (some example) lone_short (refused_line 33 3)
is_lone_short = written leaves_rendered.1 is_not_short

counts_rendered : (counted_tree ≡ trees.render 3 by_count) × (crowded_tree ≡ trees.render 3 by_both) × (lone_crowd ≡ trees.render 3 (leaf (crowd 1)))
    × (count_twice ≡ trees.render 3 (fork (count 1 1) (fork (count 1 1) (leaf (short 1)) (leaf (short 1))) (leaf (short 1))))
unfolding tree_text trees.render trees.node_lines digits digits_by
counts_rendered = (refl, refl, refl, refl)

pub is_counted_tree : Is (some example) counted_tree (tree (figures 3 1880 1 2))
is_counted_tree = written counts_rendered.0 is_counted

pub is_crowded_tree : Is (some example) crowded_tree (tree (figures 3 1980 2 3))
is_crowded_tree = written counts_rendered.1 is_crowded

pub is_lone_crowd : Is (some example) lone_crowd (refused_line 36 3)
is_lone_crowd = written counts_rendered.2 is_not_crowd

pub is_count_twice : Is (some example) count_twice (refused_line 37 4)
is_count_twice = written counts_rendered.3 is_no_narrower

ramps_rendered : ramp_tree ≡ trees.render 5 priced_ramps
unfolding tree_text trees.render trees.node_lines digits digits_by
ramps_rendered = refl

pub is_ramp_tree : Is (some example) ramp_tree (tree (figures 5 1125 0 1))
is_ramp_tree = written ramps_rendered is_ramped

stuck_judged : verdict_of (some example) stuck_ramp ≡ refused_line 35 11
unfolding text_judged admit kind_of tree_course.tree_judged judged_from tree_course.judge tree_course.tests tree_course.next_due tree_course.after_node tree_course.after_part line_kind_of malformed wrong_count outside_range kind_tests leaf_tests available usable is_stuck refusal_of carries_line carries_unit carries_period tree_text
stuck_judged = refl

pub is_stuck_ramp : Is (some example) stuck_ramp (refused_line 35 11)
is_stuck_ramp = judged_as (some example) example_formed stuck_ramp (refused_line 35 11) stuck_judged

-- ---- in a fresh docket

pub is_empty : Is none [] (refused_line 12 1)
is_empty = no_kind (lit≤ tt) (no kind_problem) (no kind_schedule) (no kind_tree)
  where
    no : (w : List ℕ) → missing ≡ ended w → ⊥
    no w e = absurd (let z : ◌≡◌ {A = ℕ} 0 1 = cc in omega arith)

pub is_early : Is none listed_tree (refused_line 42 0)
unfolding tree_text
is_early = tree_early (lit≤ tt) refl

-- ---- other schedules of that problem

abbrev pub by_seven : ℕ → List (List ℕ) → Verdict
by_seven c s = schedule (record { writer = 7; cost = c; rows = s })

abbrev breach : ℕ → ℕ → ℕ → Verdict
breach n u t = refused (record { number = n; line = 0; unit = u; period = t })

pub schedules_judged : (verdict_of (some example) (schedule_text ("run=50,80" ∷ "run=10,20" ∷ [])) ≡ by_seven 2060 (rows 50 80 10 20))
    × (verdict_of (some example) (schedule_text ("run=49,80" ∷ "run=11,20" ∷ [])) ≡ breach 25 1 2)
    × (verdict_of (some example) (schedule_text ("run=59,80" ∷ "run=0,20" ∷ [])) ≡ breach 22 0 1)
    × (verdict_of (some example) (schedule_text ("run=60,80" ∷ "run=0,9" ∷ [])) ≡ breach 21 2 2)
    × (verdict_of (some example) (schedule_text ("run=29,59" ∷ "run=31,41" ∷ [])) ≡ breach 25 1 1)
    × (verdict_of (some example) (schedule_text ("run=30,60" ∷ "run=30,40" ∷ [])) ≡ by_seven 2220 (rows 30 60 30 40))
unfolding text_judged admit kind_of schedule_outcome schedule_course.schedule_judged judged_from schedule_course.judge malformed wrong_count outside_range first_breach output capacity cost row_cost refusal_of carries_line carries_unit carries_period schedule_text
schedules_judged = (refl, refl, refl, refl, refl, refl)

-- ---- problems of one unit

-- a unit with this TD and this Tcold, off for k periods
abbrev off_for : ℕ → ℕ → ℕ → Generator
off_for down cold k =
    record { a = 0; b = 0; c = 0; pL = 10; pU = 50; TU = 1; TD = down; on = false; since = k; DR = 50; UR = 50; Hsc = 20; Csc = 60; Tcold = cold; Dc = 0; p0 = 0 }

abbrev start : ℕ → Instance
start k = record { periods = 1; demand = 0 ∷ []; spare = 0 ∷ []; units = off_for 1 1 k ∷ [] }

abbrev down : Instance
down = record { periods = 3; demand = 0 ∷ 0 ∷ 0 ∷ []; spare = 0 ∷ 0 ∷ 0 ∷ []; units = off_for 3 0 1 ∷ [] }

pub problems_judged : (verdict_of none off_two ≡ problem (start 2)) × (verdict_of none off_three ≡ problem (start 3))
    × (verdict_of none down_problem ≡ problem down)
unfolding text_judged admit kind_of problem_course.problem_judged judged_from problem_course.judge malformed wrong_count outside_range unit_of ordered midnight_ordered start_problem down_problem
problems_judged = (refl, refl, refl)

-- the listing's problem with other unit lines
pub units_judged : (verdict_of none (problem_of "unit=100,10,0,20,80,2,2,3,30,30,50,90,1,5" "unit=40,14,0,10,50,1,1,-2,50,50,20,60,0,0,0") ≡ refused_line 14 6)
    × (verdict_of none (problem_of "unit=100,10,0,20,80,2,2,3,30,30,50,90,1,5,19" "unit=40,14,0,10,50,1,1,-2,50,50,20,60,0,0,0") ≡ refused_line 15 6)
    × (verdict_of none (problem_of "unit=100,10,0,20,80,2,2,3,30,30,50,90,1,5,60" "unit=40,14,0,10,50,1,1,-2,50,50,20,60,0,0,1") ≡ refused_line 15 7)
unfolding text_judged admit kind_of problem_course.problem_judged judged_from problem_course.judge malformed wrong_count outside_range unit_of ordered midnight_ordered refusal_of carries_line carries_unit carries_period problem_of
units_judged = (refl, refl, refl)

pub alone_judged : (verdict_of (some (start 2)) (schedule_text ("run=10" ∷ [])) ≡ by_seven 20 ((10 ∷ []) ∷ []))
    × (verdict_of (some (start 3)) (schedule_text ("run=10" ∷ [])) ≡ by_seven 60 ((10 ∷ []) ∷ []))
    × (verdict_of (some down) (schedule_text ("run=0,10,10" ∷ [])) ≡ breach 24 1 2)
    × (verdict_of (some down) (schedule_text ("run=0,0,10" ∷ [])) ≡ by_seven 20 ((0 ∷ 0 ∷ 10 ∷ []) ∷ []))
unfolding text_judged admit kind_of schedule_outcome schedule_course.schedule_judged judged_from schedule_course.judge malformed wrong_count outside_range first_breach output capacity cost row_cost refusal_of carries_line carries_unit carries_period schedule_text
alone_judged = (refl, refl, refl, refl)
