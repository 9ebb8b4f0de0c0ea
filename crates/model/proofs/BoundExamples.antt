-- Document 01's example problem and its trees: their bounds, through the walks (quick) and not by trying all rows.
use mathlib.Core.Path.{◌≡◌, refl, ap, ap₂}
use mathlib.Core.Bool.{true, false}
use mathlib.Core.List.{[], ◌∷◌}
use Prim.Native.Nat.{◌+◌, ◌*◌}
use native.Mathlib.Omega.{arith}
use lib.Dec.{lit<, lit≤}
use lib.IntN.{ℤ, pos}
use Rattle.model.specs.declared.generator.Generator.{Generator}
use Rattle.model.specs.Instance.{Instance, ◌at◌, sum}
use Rattle.model.specs.Ranges.{GoodUnit, WellFormed, in_range, costs_in_range, outputs_in_range, times_in_range, midnight_ordered, ordered}
use Rattle.model.specs.Above.{root, status, side}
use Rattle.model.specs.Leaf.{usable, available, is_stuck, minℤ, requirement}
use Rattle.std.specs.Prelude.{Some as number}
use Rattle.model.specs.Tree.{short, price, Tree, leaf, fork, GoodLeaf, LeafHolds, leaf_bound, Limits, Holds, bound, splits, leaves}
use Rattle.model.specs.Walk.{plus, lesser, back, walk}
use Rattle.model.specs.Prices.{on_value, best_at, price_walk, offset, price_walks, offsets}
use Rattle.model.proofs.RangeTests.{good_unit}
use Rattle.model.proofs.PriceWalks.{leaf_is}

-- ---- the problem

abbrev pub unit_1 : Generator
unit_1 = record { a = 100; b = 10; c = 0; pL = 20; pU = 80; TU = 2; TD = 2; on = true; since = 3; DR = 30; UR = 30; Hsc = 50; Csc = 90; Tcold = 1; Dc = 5; p0 = 60 }

abbrev pub unit_2 : Generator
unit_2 = record { a = 40; b = 14; c = 0; pL = 10; pU = 50; TU = 1; TD = 1; on = false; since = 2; DR = 50; UR = 50; Hsc = 20; Csc = 60; Tcold = 0; Dc = 0; p0 = 0 }

abbrev pub example : Instance
example = record { periods = 2; demand = 60 ∷ (100 ∷ []); spare = 10 ∷ (10 ∷ []); units = unit_1 ∷ (unit_2 ∷ []) }

good_1 : GoodUnit unit_1
unfolding in_range costs_in_range outputs_in_range times_in_range ordered midnight_ordered
good_1 = good_unit unit_1 tt tt

good_2 : GoodUnit unit_2
unfolding in_range costs_in_range outputs_in_range times_in_range ordered midnight_ordered
good_2 = good_unit unit_2 tt tt

pub example_well_formed : WellFormed example
example_well_formed = record {
  periods_in = (lit≤ tt, lit≤ tt);
  units_in = (lit≤ tt, lit≤ tt);
  demand_long = refl;
  demand_in = ((lit≤ tt, lit≤ tt), ((lit≤ tt, lit≤ tt), tt));
  spare_long = refl;
  spare_in = ((lit≤ tt, lit≤ tt), ((lit≤ tt, lit≤ tt), tt));
  units_good = (good_1, (good_2, tt));
}

-- ---- its tree, and a lone price leaf

abbrev pub example_tree : Tree
example_tree = fork (status 1 1) (leaf (short 1)) (leaf (price (10 ∷ (14 ∷ [])) (0 ∷ (0 ∷ []))))

abbrev pub lone_leaf : Tree
lone_leaf = leaf (price (10 ∷ (14 ∷ [])) (0 ∷ (2 ∷ [])))

-- its nodes are within the limits, its leaves hold, and it has one split line and two leaves
pub example_limits : Limits example root 0 example_tree
unfolding Limits GoodLeaf
example_limits = (
  (lit< tt, lit< tt, refl),
  lit≤ tt,
  lit< tt,
  ((refl, ((lit≤ tt, lit≤ tt), ((lit≤ tt, lit≤ tt), tt))), (refl, ((lit≤ tt, lit≤ tt), ((lit≤ tt, lit≤ tt), tt)))),
)

pub example_holds : Holds example root example_tree
unfolding Holds LeafHolds available usable is_stuck
example_holds = ((lit< tt, lit< tt), tt)

pub example_counts : (splits example_tree ≡ 1) × (leaves example_tree ≡ 2)
unfolding splits leaves
example_counts = (refl, refl)

pub example_bound : bound example root example_tree ≡ number (pos 1980)
unfolding bound leaf_bound requirement is_stuck price_walks offsets price_walk offset walk back plus lesser on_value best_at
example_bound =
    ap number (leaf_is example example_well_formed.units_good (side (status 1 1) true root).marks (λ t. (10 ∷ (14 ∷ [])) at t) (λ t. (0 ∷ (0 ∷ [])) at t) tt)

pub lone_bound : bound example root lone_leaf ≡ number (pos 1940)
unfolding bound leaf_bound requirement is_stuck price_walks offsets price_walk offset walk back plus lesser on_value best_at
lone_bound =
    ap number (leaf_is example example_well_formed.units_good root.marks (λ t. (10 ∷ (14 ∷ [])) at t) (λ t. (0 ∷ (2 ∷ [])) at t) tt)

-- ---- wrong turns

-- the smallest price leaf, not the last: the first gives 1940, the last 1980
pub smallest_bound : bound example root (fork (status 1 1) lone_leaf (leaf (price (10 ∷ (14 ∷ [])) (0 ∷ (0 ∷ []))))) ≡ number (pos 1940)
unfolding bound leaf_bound requirement is_stuck price_walks offsets price_walk offset walk back plus lesser on_value best_at
smallest_bound =
    ap₂ (λ (x y : ℤ). number (minℤ x y))
    (leaf_is example example_well_formed.units_good (side (status 1 1) false root).marks (λ t. (10 ∷ (14 ∷ [])) at t) (λ t. (0 ∷ (2 ∷ [])) at t) tt)
    (leaf_is example example_well_formed.units_good (side (status 1 1) true root).marks (λ t. (10 ∷ (14 ∷ [])) at t) (λ t. (0 ∷ (0 ∷ [])) at t) tt)

-- free units are not off: a lone `short=2` does not hold, 130 being no less than 110
pub lone_short : Holds example root (leaf (short 1)) → ⊥
unfolding Holds LeafHolds available usable
lone_short h = omega (arith, h.1)

-- s·R counts: without it the lone leaf's requirement would be 20 less
pub spare_counts : requirement example (λ t. (10 ∷ (14 ∷ [])) at t) (λ t. (0 ∷ (2 ∷ [])) at t)
    ≡ sum 2 (λ t. (10 ∷ (14 ∷ [])) at t * example.demand at t + (0 ∷ (2 ∷ [])) at t * example.demand at t) + 20
unfolding requirement
spare_counts = refl
