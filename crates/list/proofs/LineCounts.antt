-- A text has at least a byte for each of its lines, so line numbers, split lines and leaves are bounded by its length.
use mathlib.Core.Path.{◌≡◌, ap}
use mathlib.Core.Bool.{Bool, true, false}
use mathlib.Core.List.{List, [], ◌∷◌, ◌++◌}
use Prim.Native.Nat.{ℕ, suc, ◌+◌, ◌≤◌}
use native.Mathlib.Omega.{arith}
use lib.Dec.{eqb}
use lib.ListN.{length, length-append}
use Rattle.model.specs.Tree.{Tree, leaf, fork, splits, leaves}
use Rattle.text.specs.Lines.{Line, later, cut_at, lines_of, end_tree}
use Rattle.text.specs.Rendering.{text_of}
use Rattle.tree.specs.Rendering.{node_lines, tree_lines, render}
use Rattle.tree.proofs.LinePlaces.{leaf_line}

-- ---- the lines that a text is cut into

pub line_count : (s : List ℕ) → length (lines_of s) ≤ length s
line_count [] = omega arith
line_count (b ∷ s) = go (eqb b 10) (lines_of s) (line_count s)
  where
    go : (t : Bool) (ls : List Line) → length ls ≤ length s → length (cut_at t b ls) ≤ suc (length s)
    go true ls h = omega (arith, h)
    go false [] h = omega arith
    go false (l ∷ ls) h = omega (arith, h)

later_count : (ls : List Line) → length (later ls) ≤ length ls
later_count [] = omega arith
later_count (l ∷ ls) = omega arith

-- the lines before one that is refused
pub before_count : (s : List ℕ) (before after : List Line) → later (lines_of s) ≡ before ++ after → length before ≤ length s
before_count s before after e =
    omega (arith, ap length e, length-append before after, later_count (lines_of s), line_count s)

-- ---- the lines that render a tree

-- each ended by its byte 10
ended_count : (ls : List (List ℕ)) → length ls ≤ length (text_of ls)
ended_count [] = omega arith
ended_count (l ∷ ls) = omega (arith, length-append l (10 ∷ text_of ls), ended_count ls)

-- a line for each split, and those of each leaf
node_count : (t : Tree) → splits t + leaves t ≤ length (node_lines t)
unfolding splits leaves node_lines
node_count (leaf l) = omega (arith, leaf_line l)
node_count (fork f x y) = omega (arith, node_count x, node_count y, length-append (node_lines x) (node_lines y))

pub tree_count : (w : ℕ) (t : Tree) → splits t + leaves t ≤ length (render w t)
unfolding render
tree_count w t = omega (arith, node_count t, length-append (node_lines t) (end_tree ∷ []), ended_count (tree_lines w t))
