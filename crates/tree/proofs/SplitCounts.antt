-- The splits of a tree are the lines of its text that begin as a split or as a count does.
use mathlib.Core.Path.{◌≡◌, refl, sym, ap}
use mathlib.Core.Bool.{Bool, true, false, cond}
use mathlib.Core.List.{List, [], ◌∷◌, ◌++◌}
use Prim.Native.Nat.{◌+◌}
use native.Mathlib.Omega.{arith}
use lib.ListN.{length}
use Rattle.model.specs.Above.{Fork, status, count}
use Rattle.model.specs.Leaf.{those}
use Rattle.model.specs.Ramps.{RampPrices}
use Rattle.model.specs.Tree.{Leaf, short, crowd, stuck, price, ramp, Tree, leaf, fork, splits}
use Rattle.tree.specs.Rendering.{step_lines, fork_line, leaf_lines, node_lines, is_split_line}

those_joined : {A : Type 0} (p : A → Bool) (a b : List A) → length (those p (a ++ b)) ≡ length (those p a) + length (those p b)
those_joined p [] b = omega arith
those_joined p (x ∷ a) b = go (those_joined p a b) (p x)
  where
    go : length (those p (a ++ b)) ≡ length (those p a) + length (those p b) → (c : Bool)
        → length (cond c (x ∷ those p (a ++ b)) (those p (a ++ b))) ≡ length (cond c (x ∷ those p a) (those p a)) + length (those p b)
    go rest true = omega (arith, rest)
    go rest false = rest

fork_counts : (f : Fork) → is_split_line (fork_line f) ≡ true
fork_counts (status U t) = refl
fork_counts (count t K) = refl

steps_count : (l : List RampPrices) → those is_split_line (step_lines l) ≡ []
steps_count [] = refl
steps_count (x ∷ l) = steps_count l

leaf_counts : (l : Leaf) → those is_split_line (leaf_lines l) ≡ []
leaf_counts (short t) = refl
leaf_counts (crowd t) = refl
leaf_counts (stuck U) = refl
leaf_counts (price q s) = refl
leaf_counts (ramp q s l) = steps_count l

pub split_lines : (t : Tree) → splits t ≡ length (those is_split_line (node_lines t))
unfolding splits node_lines
split_lines (leaf l) = sym (ap length (leaf_counts l))
split_lines (fork f x y) =
    rw (fork_counts f) (omega (arith, those_joined is_split_line (node_lines x) (node_lines y), split_lines x, split_lines y))
