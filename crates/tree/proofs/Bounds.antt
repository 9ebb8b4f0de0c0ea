-- The smallest of several bounds, taken one by one, is that of the tree: lower is associative.
use mathlib.Core.Path.{◌≡◌, refl, sym, ap, ◌∙◌}
use mathlib.Core.Bool.{true, false}
use Prim.Native.Nat.{ℕ, ◌+◌, min}
use native.Mathlib.Omega.{arith}
use lib.IntN.{ℤ}
use Rattle.model.specs.Instance.{Instance}
use Rattle.model.specs.Above.{Above, side}
use Rattle.model.specs.Leaf.{minℤ}
use Rattle.model.specs.Figures.{Bound}
use Rattle.std.specs.Prelude.{None as never, Some as number}
use Rattle.model.specs.Figures.{lower, tree_gives}
use Rattle.model.specs.Tree.{Tree, leaf, fork, leaf_bound, bound, splits, leaves}
use Rattle.model.proofs.Integers.{up, down, min_shift, nat→eq}
use Rattle.tree.specs.Course.{with_split, with_leaf}
use Rattle.tree.specs.Acceptance.{Bounded, bounded}

min_assoc : (x y z : ℤ) → minℤ x (minℤ y z) ≡ minℤ (minℤ x y) z
min_assoc x y z =
    let k = down x + down y + down z in
    let a = up x + (down y + down z) in
    let b = up y + (down x + down z) in
    let c = up z + (down x + down y) in
    let ab = min_shift x y a b k (omega arith) (omega arith) in
    let bc = min_shift y z b c k (omega arith) (omega arith) in
    let l = min_shift x (minℤ y z) a (min b c) k (omega arith) bc in
    let r = min_shift (minℤ x y) z (min a b) c k ab (omega arith) in
    same (minℤ x (minℤ y z)) (minℤ (minℤ x y) z) a b c k l r
  where
    same : (v w : ℤ) (a b c k : ℕ) → up v + k ≡ min a (min b c) + down v → up w + k ≡ min (min a b) c + down w → v ≡ w
    same v w a b c k h j = nat→eq v w (let e : min a (min b c) ≡ min (min a b) c = omega arith in omega arith)

lower_assoc : (x y z : Bound) → lower x (lower y z) ≡ lower (lower x y) z
lower_assoc never y z = refl
lower_assoc (number x) never z = refl
lower_assoc (number x) (number y) never = refl
lower_assoc (number x) (number y) (number z) = ap number (min_assoc x y z)

-- ---- the figures of a tree, line by line

unfoldable pub add : Instance → Above → Bounded → Tree → Bounded
add P A F (leaf l) = with_leaf F (leaf_bound P A l)
add P A F (fork f x y) = add P (side f true A) (add P (side f false A) (with_split F) x) y

-- the figures F with those of a tree under A
abbrev pub with_tree : Instance → Above → Bounded → Tree → Bounded
with_tree P A F t =
    bounded F.writer (tree_gives (lower F.figures.bound (bound P A t)) (F.figures.splits + splits t) (F.figures.leaves + leaves t))

pub figures_same : {w w' : ℕ} {b b' : Bound} {m m' n n' : ℕ} → w ≡ w' → b ≡ b' → m ≡ m' → n ≡ n'
    → bounded w (tree_gives b m n) ≡ bounded w' (tree_gives b' m' n')
figures_same p q r s i = bounded (p i) (tree_gives (q i) (r i) (s i))

pub add_is : (P : Instance) (A : Above) (F : Bounded) (t : Tree) → add P A F t ≡ with_tree P A F t
unfolding add bound splits leaves
add_is P A F (leaf l) = figures_same refl refl (omega arith) refl
add_is P A F (fork f x y) =
    let G = with_tree P (side f false A) (with_split F) x in
    ap (λ (g : Bounded). add P (side f true A) g y) (add_is P (side f false A) (with_split F) x)
    ∙ add_is P (side f true A) G y
    ∙ figures_same refl (sym (lower_assoc F.figures.bound (bound P (side f false A) x) (bound P (side f true A) y))) (omega arith) (omega arith)
