-- Short lists of document 01's problem, its schedules and its trees, and what their texts are.
use mathlib.Core.Path.{◌≡◌, refl, ap, subst, ◌∙◌}
use mathlib.Core.Bool.{true, false}
use mathlib.Core.List.{List, [], ◌∷◌}
use mathlib.Core.Option.{none, some}
use Prim.Native.Nat.{ℕ}
use native.Mathlib.Omega.{arith}
use lib.Dec.{lit≤}
use lib.IntN.{pos}
use Rattle.decimal.specs.Decimal.{digits, digits_by}
use Rattle.model.specs.Figures.{Bound}
use Rattle.std.specs.Prelude.{Some as number}
use Rattle.model.specs.declared.figures.TreeFigures.{TreeFigures}
use Rattle.model.specs.Figures.{tree_gives}
use Rattle.model.specs.Tree.{splits, leaves}
use Rattle.model.proofs.BoundExamples.{example_limits, example_holds, example_bound}
use Rattle.problem.proofs.Examples.{example}
use Rattle.schedule.specs.Rendering as rendered_schedules
use Rattle.tree.specs.Rendering as rendered_trees
use Rattle.tree.specs.Acceptance.{bounded}
use Rattle.docket.specs.declared.Docket.{Docket}
use Rattle.docket.specs.Docket.{fresh_docket}
use Rattle.docket.specs.Verdicts.{Costed, Verdict, problem, schedule, tree}
use Rattle.docket.specs.Texts.{Is, Are, no_more, then, a_tree}
use Rattle.docket.specs.Demand3.{reached, Lodging, Reporting, Writing, Demand3}
use Rattle.docket.proofs.Determined.{holds_then}
use Rattle.docket.proofs.Specimens.{problem_text, rows, one_split, lone_price, figures, is_problem, is_cheap, is_dear, is_tree, is_lone_price}

-- ---- the problem

abbrev pub begun : List (List ℕ)
begun = problem_text ∷ []

abbrev pub begun_as : List Verdict
begun_as = problem example ∷ []

pub begun_are : Are none begun begun_as
begun_are = then is_problem no_more

-- a docket that holds it is not fresh
pub begun_not_fresh : (lodge : Lodging) {report : Reporting} {buffer : Writing} → Demand3 lodge report buffer → fresh_docket ≡ reached lodge begun → ⊥
begun_not_fresh lodge D e = go (ap (λ (d : Docket). d.known) e ∙ (holds_then lodge D begun begun_as begun_are).known)
  where
    go : false ≡ true → ⊥
    go e = let z : ◌≡◌ {A = ℕ} 0 1 = cc in omega arith

-- ---- and a schedule: 1980 by 7, or 2060 by 7

abbrev pub cheap : Costed
cheap = record { writer = 7; cost = 1980; rows = rows 60 80 0 20 }

abbrev pub cheap_text : List ℕ
cheap_text = rendered_schedules.render 7 (rows 60 80 0 20)

abbrev pub dear : Costed
dear = record { writer = 7; cost = 2060; rows = rows 50 80 10 20 }

abbrev pub dear_text : List ℕ
dear_text = rendered_schedules.render 7 (rows 50 80 10 20)

pub cheap_are : Are none (problem_text ∷ cheap_text ∷ []) (problem example ∷ schedule cheap ∷ [])
cheap_are = then is_problem (then is_cheap no_more)

pub dear_are : Are none (problem_text ∷ dear_text ∷ []) (problem example ∷ schedule dear ∷ [])
dear_are = then is_problem (then is_dear no_more)

pub dear_cheap_are : Are none (problem_text ∷ dear_text ∷ cheap_text ∷ []) (problem example ∷ schedule dear ∷ schedule cheap ∷ [])
dear_cheap_are = then is_problem (then is_dear (then is_cheap no_more))

-- ---- and a tree: 1980 by 3 and the same by 4, or 1940 by 4

abbrev pub tree_text : List ℕ
tree_text = rendered_trees.render 3 one_split

abbrev pub tree_text_too : List ℕ
tree_text_too = rendered_trees.render 4 one_split

abbrev pub lone_text : List ℕ
lone_text = rendered_trees.render 4 lone_price

-- what they give
abbrev pub tree_given : TreeFigures
tree_given = tree_gives (number (pos 1980)) 1 2

abbrev pub lone_given : TreeFigures
lone_given = tree_gives (number (pos 1940)) 0 1

pub is_tree_too : Is (some example) tree_text_too (tree (figures 4 1980 1 2))
unfolding rendered_trees.render rendered_trees.node_lines digits digits_by splits leaves
is_tree_too =
    subst (λ (b : Bound). Is (some example) tree_text_too (tree (bounded 4 (tree_gives b 1 2)))) example_bound
    (a_tree 4 one_split (lit≤ tt) refl (lit≤ tt, lit≤ tt) example_limits example_holds)

pub tree_are : Are none (problem_text ∷ tree_text ∷ []) (problem example ∷ tree (figures 3 1980 1 2) ∷ [])
tree_are = then is_problem (then is_tree no_more)

pub lone_are : Are none (problem_text ∷ lone_text ∷ []) (problem example ∷ tree (figures 4 1940 0 1) ∷ [])
lone_are = then is_problem (then is_lone_price no_more)

pub lone_tree_are : Are none (problem_text ∷ lone_text ∷ tree_text ∷ []) (problem example ∷ tree (figures 4 1940 0 1) ∷ tree (figures 3 1980 1 2) ∷ [])
lone_tree_are = then is_problem (then is_lone_price (then is_tree no_more))

-- ---- and both: 1980 by 7, and 1940 by 4

pub cheap_lone_are : Are none (problem_text ∷ cheap_text ∷ lone_text ∷ []) (problem example ∷ schedule cheap ∷ tree (figures 4 1940 0 1) ∷ [])
cheap_lone_are = then is_problem (then is_cheap (then is_lone_price no_more))
