-- The text of a tree within the limits, whose leaves hold, is accepted with the tree's figures: its lines are good one after the
-- other, node by node.
use mathlib.Core.Path.{◌≡◌, refl, ap, subst, ◌∙◌}
use mathlib.Core.Bool.{true, false}
use mathlib.Core.List.{List, [], ◌∷◌, ◌++◌, map}
use Prim.Native.Nat.{ℕ, suc, ◌≤◌}
use native.Mathlib.Omega.{arith}
use Rattle.model.specs.Instance.{Instance, ◌at◌}
use Rattle.model.specs.Ranges.{GoodWriter}
use Rattle.model.specs.Above.{Above, root, side}
use Rattle.model.specs.Figures.{no_figures}
use Rattle.model.specs.Tree.{Tree, leaf, fork, Limits, Holds, tree_figures}
use Rattle.text.specs.Lines.{Line, ended, end_tree}
use Rattle.text.specs.Course.{accepted, good}
use Rattle.text.specs.Rendering.{plain_line}
use Rattle.text.specs.Writer.{writer_key, writer_form}
use Rattle.text.specs.Tests.{Passed, none_yet}
use Rattle.text.proofs.Accepted.{Fits, rendered_good, rendered_numbers}
use Rattle.text.proofs.Courses.{good_more, passed_both, accepted_is}
use Rattle.text.proofs.Plain.{plain_fits, one_between}
use Rattle.text.proofs.Verdicts.{form_found}
use Rattle.tree.specs.Rendering.{node_lines, render}
use Rattle.tree.specs.Course.{with_split, Pending, pending, Due, writer_due, nodes_due, nothing_due, tests, next_due, judge, end, tree_judged}
use Rattle.tree.specs.Acceptance.{Bounded, bounded}
use Rattle.tree.proofs.Bounds.{add, add_is, with_tree, figures_same}
use Rattle.tree.proofs.NodeLines.{fork_good, leaf_good}
use Rattle.tree.proofs.Written.{map_both, render_lines}

-- these lines pass, and one good line in front of others
abbrev pub Passes : Instance → Due → List Line → Due → Type 0
Passes P s ls t = Passed (tests P) (next_due P) s ls t

pub also : (P : Instance) {s s' s'' : Due} {x : Line} {ls : List Line} → judge P s x ≡ good s' → Passes P s' ls s'' → Passes P s (x ∷ ls) s''
unfolding judge
also P e p = good_more (tests P) (next_due P) end e p

-- ---- a node

-- the lines of two trees, one after the other
two_good : (P : Instance) {s s' s'' : Due} (x y : Tree) → Passes P s (map ended (node_lines x)) s'
    → Passes P s' (map ended (node_lines y)) s''
    → Passes P s (map ended (node_lines x ++ node_lines y)) s''
two_good P x y g h = rw (map_both (node_lines x) (node_lines y)) (passed_both (tests P) (next_due P) end (map ended (node_lines x)) (map ended (node_lines y)) g h)

pub node_good : (P : Instance) → 1 ≤ P.periods → (A : Above) (d : ℕ) (F : Bounded) (ps : List Pending) (t : Tree) → Limits P A d t → Holds P A t
    → Passes P (nodes_due F (pending A d ∷ ps)) (map ended (node_lines t)) (nodes_due (add P A F t) ps)
unfolding Limits Holds node_lines add
node_good P some A d F ps (leaf x) l h = leaf_good P F A d ps some x l h
node_good P some A d F ps (fork f x y) l h =
    also P (fork_good P F A d ps f l.0 l.1)
    (two_good P x y (node_good P some (side f false A) (suc d) (with_split F) (pending (side f true A) (suc d) ∷ ps) x l.2 h.0)
    (node_good P some (side f true A) (suc d) (add P (side f false A) (with_split F) x) ps y l.3 h.1))

-- ---- the writer, the tree, the end

writer_fits : (w : ℕ) → GoodWriter w → Fits writer_form false (w ∷ [])
writer_fits w g = plain_fits writer_key 1 1 65535 (w ∷ []) (omega arith) refl (one_between 1 65535 w g.0 g.1)

pub writer_good : (P : Instance) (w : ℕ) → GoodWriter w
    → judge P writer_due (ended (plain_line writer_key (w ∷ []))) ≡ good (nodes_due (bounded w no_figures) (pending root 0 ∷ []))
unfolding judge tests next_due
writer_good P w g =
    let l = ended (plain_line writer_key (w ∷ [])) in
    form_found writer_form l [] (next_due P writer_due l) (rendered_good writer_form false (w ∷ []) (writer_fits w g))
    ∙ ap (λ (vs : List ℕ). good (nodes_due (bounded (vs at 0) no_figures) (pending root 0 ∷ []))) (rendered_numbers writer_form false (w ∷ []) (writer_fits w g))

pub end_good : (P : Instance) (F : Bounded) → judge P (nodes_due F []) (ended end_tree) ≡ good (nothing_due F)
unfolding judge tests next_due
end_good P F = refl

pub tree_accepted : (P : Instance) → 1 ≤ P.periods → (w : ℕ) (t : Tree) → GoodWriter w → Limits P root 0 t → Holds P root t
    → tree_judged P (render w t) ≡ accepted (bounded w (tree_figures P t))
unfolding tree_judged judge
tree_accepted P some w t g l h =
    rw (render_lines w t)
    ((accepted_is (tests P) (next_due P) end (bounded w (tree_figures P t)) 2 writer_due (ended (plain_line writer_key (w ∷ [])) ∷ (map ended (node_lines t) ++ (ended end_tree ∷ [])))).1
    (record {
      last = nothing_due (bounded w (tree_figures P t));
      passed =
          also P (writer_good P w g)
          (passed_both (tests P) (next_due P) end (map ended (node_lines t)) (ended end_tree ∷ [])
          (subst (λ (F : Bounded). Passes P (nodes_due (bounded w no_figures) (pending root 0 ∷ [])) (map ended (node_lines t)) (nodes_due F []))
          (add_is P root (bounded w no_figures) t ∙ same)
          (node_good P some root 0 (bounded w no_figures) [] t l h))
          (also P (end_good P (bounded w (tree_figures P t))) none_yet));
      ends = refl;
    }))
  where
    same : with_tree P root (bounded w no_figures) t ≡ bounded w (tree_figures P t)
    same = figures_same refl refl (omega arith) (omega arith)
