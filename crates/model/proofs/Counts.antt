-- What the limits say of a tree's depth, and that it has one leaf more than splits, both by induction on the tree.
use mathlib.Core.Path.{◌≡◌, refl}
use mathlib.Core.Bool.{true, false}
use Prim.Native.Nat.{ℕ, suc, ◌+◌, ◌≤◌}
use native.Mathlib.Omega.{arith}
use Rattle.model.specs.Instance.{Instance}
use Rattle.model.specs.Above.{Above, root, side}
use Rattle.model.specs.Tree.{Tree, leaf, fork, Limits, splits, leaves, depth}

pub depth_from : (P : Instance) (A : Above) (d : ℕ) (t : Tree) → d ≤ 64 → Limits P A d t → d + depth t ≤ 64
unfolding Limits depth
depth_from P A d (leaf l) i h = omega arith
depth_from P A d (fork f x y) i h =
    omega (
      arith,
      depth_from P (side f false A) (suc d) x (omega (arith, h.1)) h.2,
      depth_from P (side f true A) (suc d) y (omega (arith, h.1)) h.3,
    )

-- the deepest split has depth 63 at most, so the deepest leaf 64
pub depth_within : (P : Instance) (t : Tree) → Limits P root 0 t → depth t ≤ 64
depth_within P t h = omega (arith, depth_from P root 0 t (omega arith) h)

-- a tree has one leaf more than splits
pub leaves_are : (t : Tree) → leaves t ≡ suc (splits t)
unfolding leaves splits
leaves_are (leaf l) = refl
leaves_are (fork f x y) = omega (arith, leaves_are x, leaves_are y)
