-- What stands above a tree matters only at the problem's units and periods: by induction on the tree, from its leaves.
use mathlib.Core.Path.{◌≡◌, ap, ap₂}
use mathlib.Core.Bool.{Bool, true, false, cond, ◌&&◌}
use mathlib.Core.Option.{some}
use Prim.Native.Nat.{suc}
use lib.Dec.{eqb}
use Rattle.model.specs.Instance.{Instance}
use Rattle.model.specs.Ranges.{All, GoodUnit}
use Rattle.model.specs.Above.{fixed, Above, Fork, status, count, side}
use Rattle.model.specs.Figures.{lower}
use Rattle.model.specs.Tree.{Tree, leaf, fork, Holds, bound}
use Rattle.model.proofs.Extents.{SameAbove, leaf_bound_ext, leaf_holds_ext}

-- a fork's sides are alike
pub side_same : (P : Instance) (f : Fork) (b : Bool) (A A' : Above) → SameAbove P A A' → SameAbove P (side f b A) (side f b A')
side_same P (status U t) b A A' h = record { marks = λ u l v i. ap (cond (eqb U u && eqb t v) (fixed b)) (h.marks u l v i); most = h.most; least = h.least }
side_same P (count t K) false A A' h = record { marks = h.marks; most = λ v i. ap (cond (eqb t v) (some K)) (h.most v i); least = h.least }
side_same P (count t K) true A A' h = record { marks = h.marks; most = h.most; least = λ v i. ap (cond (eqb t v) (suc K)) (h.least v i) }

module _ (P : Instance) (G : All GoodUnit P.units) where
  pub bound_ext : (A A' : Above) → SameAbove P A A' → (x : Tree) → bound P A x ≡ bound P A' x
  unfolding bound
  bound_ext A A' h (leaf l) = leaf_bound_ext P G A A' h l
  bound_ext A A' h (fork f x y) =
      ap₂ lower (bound_ext (side f false A) (side f false A') (side_same P f false A A' h) x) (bound_ext (side f true A) (side f true A') (side_same P f true A A' h) y)

  pub holds_ext : (A A' : Above) → SameAbove P A A' → (x : Tree) → Holds P A x → Holds P A' x
  unfolding Holds
  holds_ext A A' h (leaf l) k = leaf_holds_ext P G A A' h l k
  holds_ext A A' h (fork f x y) k = (
    holds_ext (side f false A) (side f false A') (side_same P f false A A' h) x k.0,
    holds_ext (side f true A) (side f true A') (side_same P f true A A' h) y k.1,
  )
