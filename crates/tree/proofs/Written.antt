-- The lines of a tree's text: cut again they are the lines that were written, since none of them holds byte 10.
use mathlib.Core.Path.{◌≡◌, refl, ap, ◌∙◌}
use mathlib.Core.Bool.{false}
use mathlib.Core.List.{List, [], ◌∷◌, ◌++◌, map}
use Prim.Native.Nat.{ℕ, suc}
use Rattle.model.specs.Above.{Fork, status, count}
use Rattle.model.specs.Ramps.{RampPrices}
use Rattle.model.specs.Tree.{Leaf, short, crowd, stuck, price, ramp, Tree, leaf, fork}
use Rattle.text.specs.Lines.{Line, ended, lines_of, kind_tree, end_tree}
use Rattle.text.specs.Rendering.{plain_line}
use Rattle.text.specs.Writer.{writer_key}
use Rattle.text.proofs.Bytes.{rendered_one_line}
use Rattle.text.proofs.Texts.{OneLines, one_lines_both, lines_text}
use Rattle.tree.specs.Rendering.{split_key, count_key, short_key, crowd_key, stuck_key, price_key, reserve_key, rampprice_key, up_key, down_key, step_lines, fork_line, leaf_lines, node_lines, tree_lines, render}

fork_one : (f : Fork) (ls : List (List ℕ)) → OneLines ls → OneLines (fork_line f ∷ ls)
fork_one (status U t) ls h = (rendered_one_line split_key 0 false (suc U ∷ suc t ∷ []) refl, h)
fork_one (count t K) ls h = (rendered_one_line count_key 0 false (suc t ∷ K ∷ []) refl, h)

steps_one : (l : List RampPrices) → OneLines (step_lines l)
steps_one [] = tt
steps_one (x ∷ l) = (rendered_one_line up_key 0 false x.up refl, (rendered_one_line down_key 0 false x.down refl, steps_one l))

leaf_one : (l : Leaf) → OneLines (leaf_lines l)
leaf_one (short t) = (rendered_one_line short_key 0 false (suc t ∷ []) refl, tt)
leaf_one (crowd t) = (rendered_one_line crowd_key 0 false (suc t ∷ []) refl, tt)
leaf_one (stuck U) = (rendered_one_line stuck_key 0 false (suc U ∷ []) refl, tt)
leaf_one (price q s) = (rendered_one_line price_key 0 false q refl, (rendered_one_line reserve_key 0 false s refl, tt))
leaf_one (ramp q s l) = (rendered_one_line rampprice_key 0 false q refl, (rendered_one_line reserve_key 0 false s refl, steps_one l))

node_one : (t : Tree) → OneLines (node_lines t)
unfolding node_lines
node_one (leaf l) = leaf_one l
node_one (fork f x y) = fork_one f (node_lines x ++ node_lines y) (one_lines_both (node_lines x) (node_lines y) (node_one x) (node_one y))

pub map_both : (a b : List (List ℕ)) → map ended (a ++ b) ≡ map ended a ++ map ended b
map_both [] b = refl
map_both (x ∷ a) b = ap (λ (y : List Line). ended x ∷ y) (map_both a b)

pub lines_one : (w : ℕ) (t : Tree) → OneLines (tree_lines w t)
lines_one w t = (refl, (rendered_one_line writer_key 0 false (w ∷ []) refl, one_lines_both (node_lines t) (end_tree ∷ []) (node_one t) (refl, tt)))

-- the lines of a text, cut
pub render_cut : (w : ℕ) (t : Tree) → lines_of (render w t) ≡ map ended (tree_lines w t)
unfolding render
render_cut w t = lines_text (tree_lines w t) (lines_one w t)

pub render_lines : (w : ℕ) (t : Tree)
    → lines_of (render w t) ≡ ended kind_tree ∷ ended (plain_line writer_key (w ∷ [])) ∷ (map ended (node_lines t) ++ (ended end_tree ∷ []))
render_lines w t =
    render_cut w t ∙ ap (λ (x : List Line). ended kind_tree ∷ ended (plain_line writer_key (w ∷ [])) ∷ x) (map_both (node_lines t) (end_tree ∷ []))
