-- A tree's bound is between -10^18 and 10^18, as each leaf's is.
use mathlib.Core.Bool.{Bool, true, false, cond}
use Prim.Native.Nat.{ℕ, suc}
use lib.Signed.{le_z}
use Rattle.model.specs.Instance.{Instance}
use Rattle.model.specs.Ranges.{WellFormed}
use Rattle.model.specs.Above.{Above, side}
use Rattle.model.specs.Figures.{Bound}
use Rattle.std.specs.Prelude.{None as never, Some as number}
use Rattle.model.specs.Figures.{lower}
use Rattle.model.specs.Tree.{Tree, leaf, fork, Limits, bound}
use Rattle.model.proofs.LeafSizes.{Fits, leaf_bound_fits}

lower_fits : (x y : Bound) → Fits x → Fits y → Fits (lower x y)
lower_fits never y h k = k
lower_fits (number x) never h k = h
lower_fits (number x) (number y) h k = go (le_z x y)
  where
    go : (c : Bool) → Fits (number (cond c x y))
    go true = h
    go false = k

pub bound_fits : (P : Instance) → WellFormed P → (A : Above) (d : ℕ) (x : Tree) → Limits P A d x → Fits (bound P A x)
unfolding bound Limits
bound_fits P W A d (leaf l) h = leaf_bound_fits P W A l h
bound_fits P W A d (fork f x y) h =
    lower_fits (bound P (side f false A) x) (bound P (side f true A) y)
    (bound_fits P W (side f false A) (suc d) x h.2) (bound_fits P W (side f true A) (suc d) y h.3)
