-- Document 02, [1] and [6]: counts are read by no price leaf, no ramp leaf and no `stuck`.
use mathlib.Core.Path.{◌≡◌, ap}
use mathlib.Core.Bool.{not}
use mathlib.Core.List.{List}
use Prim.Native.Nat.{ℕ}
use lib.Dec.{T}
use Rattle.model.specs.Instance.{Instance, ◌at◌}
use Rattle.model.specs.Above.{Marks, Above}
use Rattle.model.specs.Leaf.{stuck_at, any_stuck, leaf_value}
use Rattle.model.specs.Ramps.{RampPrices, ups, downs, ramp_leaf_value}
use Rattle.model.specs.Figures.{Bound}
use Rattle.std.specs.Prelude.{Some as number}
use Rattle.model.specs.Tree.{stuck, price, ramp, LeafHolds, leaf_bound}

-- with the same statuses above, whatever counts stand: the value is the same, and so are the rules of the three leaves
module _ (P : Instance) (A B : Above) (e : A.marks ≡ B.marks) where
  pub prices_ignore : (q s : List ℕ) → leaf_bound P A (price q s) ≡ leaf_bound P B (price q s)
  unfolding leaf_bound
  prices_ignore q s = ap {B = Bound} (λ (m : Marks). number (leaf_value P m (λ t. q at t) (λ t. s at t))) e

  pub prices_hold_alike : (q s : List ℕ) → LeafHolds P A (price q s) ≡ LeafHolds P B (price q s)
  unfolding LeafHolds
  prices_hold_alike q s = ap {B = Type 0} (λ (m : Marks). T (not (any_stuck P.periods P.units m))) e

  pub ramps_ignore : (q s : List ℕ) (l : List RampPrices) → leaf_bound P A (ramp q s l) ≡ leaf_bound P B (ramp q s l)
  unfolding leaf_bound
  ramps_ignore q s l = ap {B = Bound} (λ (m : Marks). number (ramp_leaf_value P m (λ t. q at t) (λ t. s at t) (ups l) (downs l))) e

  pub ramps_hold_alike : (q s : List ℕ) (l : List RampPrices) → LeafHolds P A (ramp q s l) ≡ LeafHolds P B (ramp q s l)
  unfolding LeafHolds
  ramps_hold_alike q s l = ap {B = Type 0} (λ (m : Marks). T (not (any_stuck P.periods P.units m))) e

  pub stuck_holds_alike : (U : ℕ) → LeafHolds P A (stuck U) ≡ LeafHolds P B (stuck U)
  unfolding LeafHolds
  stuck_holds_alike U = ap {B = Type 0} (λ (m : Marks). T (stuck_at P.periods P.units m U)) e
