-- Document 02, [1]: what the definitions of counts, `short` under an upper count and `crowd` give on numbers. Every line is found by computing.
use Rattle.std.specs.Prelude.{◌≡◌, refl, true, false, [], ◌∷◌, map, ◌⊎◌, ℕ, pos}
use Rattle.std.proofs.Common.{inl, inr, arith, lit<, lit≤, lt→ltb, le→leb}
use Rattle.model.specs.declared.generator.Generator.{Generator}
use Rattle.model.specs.Instance.{Instance}
use Rattle.model.specs.Cost.{row_cost}
use Rattle.model.specs.Above.{Above, root, status, count, side}
use Rattle.model.specs.Largest.{falling, largest}
use Rattle.model.specs.Leaf.{usable, available, fixed_on, Crowded, rows_of, is_stuck, revenue, value, unit_least, units_least, requirement, leaf_value}
use Rattle.std.specs.Prelude.{Some as number}
use Rattle.model.specs.Tree.{short, crowd, price, Tree, leaf, fork, Multipliers, Narrows, GoodFork, GoodLeaf, LeafHolds, leaf_bound, Limits, Holds, bound, splits, leaves, depth}
use Rattle.model.specs.Possible.{possible}
use Rattle.model.specs.Examples.{line, example}

-- ---- Largest

-- the largest k of 30, 80, 50, 80, k from 0 to 5
largest_sums : map (λ k. largest k (30 ∷ 80 ∷ 50 ∷ 80 ∷ [])) (0 ∷ 1 ∷ 2 ∷ 3 ∷ 4 ∷ 5 ∷ []) ≡ 0 ∷ 80 ∷ 160 ∷ 210 ∷ 240 ∷ 240 ∷ []
unfolding largest falling
largest_sums = refl

-- ---- `short` under an upper count

-- above the tree's first node: at most K units on in period 2, K being 0 and 1; and in period 1, for which no count stands
upper_counts : (map (λ K. available example (side (count 1 K) false root) 1) (0 ∷ 1 ∷ []) ≡ 0 ∷ 80 ∷ [])
    × (available example (side (count 1 1) false root) 0 ≡ 130)
unfolding available usable largest falling
upper_counts = (refl, refl)

-- a lower count takes nothing away
lower_count : available example (side (count 1 1) true root) 1 ≡ 130
unfolding available usable
lower_count = refl

-- one period, three units that differ in pU
abbrev wide : ℕ → Generator
wide pU = line 0 1 0 1 pU 1 1 true 1 99 99 0 0 0 0 1

abbrev pub plant : ℕ → ℕ → ℕ → Instance
plant x y z = record { periods = 1; demand = 1 ∷ []; spare = 0 ∷ []; units = wide x ∷ wide y ∷ wide z ∷ [] }

-- below what A fixes: unit U off, or on; at most K units on, or more than K
abbrev pub off : ℕ → Above → Above
off U A = side (status U 0) false A

abbrev pub on : ℕ → Above → Above
on U A = side (status U 0) true A

abbrev pub at_most : ℕ → Above → Above
at_most K A = side (count 0 K) false A

abbrev more_than : ℕ → Above → Above
more_than K A = side (count 0 K) true A

-- 80, 50 and 30, the last fixed on, at most two: 130 and not 110, for those fixed on do not come first. At most none: 0, even so
fixed_not_first : map (λ K. available (plant 80 50 30) (at_most K (on 2 root)) 0) (0 ∷ 1 ∷ 2 ∷ []) ≡ 0 ∷ 80 ∷ 130 ∷ []
unfolding available usable largest falling
fixed_not_first = refl

-- equal capacities count each for itself, and the unit numbers do not matter
equal_capacities : (available (plant 50 50 50) (at_most 2 root) 0 ≡ 100) × (available (plant 30 50 80) (at_most 2 root) 0 ≡ 130)
unfolding available usable largest falling
equal_capacities = (refl, refl)

-- a unit fixed off is left out before the largest are taken: with the first off, at most one, then two; with two off, at most two of which one is left
off_left_out : map (λ A. available (plant 80 50 30) A 0) (at_most 1 (off 0 root) ∷ at_most 2 (off 0 root) ∷ at_most 2 (off 1 (off 0 root)) ∷ []) ≡ 50 ∷ 80 ∷ 30 ∷ []
unfolding available usable largest falling
off_left_out = refl

-- the lower of two upper counts stands, and it does not matter whether the status or the count is above the other
nearest_count : map (λ A. available (plant 80 50 30) A 0) (at_most 1 (at_most 2 root) ∷ off 0 (at_most 1 root) ∷ more_than 0 (at_most 1 root) ∷ []) ≡ 80 ∷ 50 ∷ 80 ∷ []
unfolding available usable largest falling
nearest_count = refl

-- ---- 37

-- K from 0 to I - 1 where nothing stands
in_range : GoodFork (plant 80 50 30) root (count 0 0) × GoodFork (plant 80 50 30) root (count 0 2) × (GoodFork (plant 80 50 30) root (count 0 3) → ⊥)
in_range = ((lit< tt, lit≤ tt, (lit≤ tt, tt)), (lit< tt, lit≤ tt, (lit≤ tt, tt)), (λ h. le→leb 3 2 h.1))

-- the lower count is 1: K = 1 is good, K = 0 is not
at_lower : GoodFork (plant 80 50 30) (more_than 0 root) (count 0 1) × (GoodFork (plant 80 50 30) (more_than 0 root) (count 0 0) → ⊥)
at_lower = ((lit< tt, lit≤ tt, (lit≤ tt, tt)), (λ h. le→leb 1 0 h.2.0))

-- the upper count is 1: K = 0 is good, K = 1 is not
at_upper : GoodFork (plant 80 50 30) (at_most 1 root) (count 0 0) × (GoodFork (plant 80 50 30) (at_most 1 root) (count 0 1) → ⊥)
at_upper = ((lit< tt, lit≤ tt, (lit≤ tt, lit< tt)), (λ h. lt→ltb 1 1 h.2.1))

-- both are 1: no K is good; and one number is left, where without counts four are
at_both : ((K : ℕ) → Narrows (more_than 0 (at_most 1 root)) 0 K → ⊥)
    × (map (λ A. possible (plant 80 50 30) A 0) (root ∷ at_most 1 root ∷ more_than 0 (at_most 1 root) ∷ []) ≡ 4 ∷ 2 ∷ 1 ∷ [])
at_both = ((λ K h. omega (arith, h.0, h.1)), refl)

-- a count of another period is in nobody's way
other_period : GoodFork example (side (count 0 0) false root) (count 1 0)
other_period = (lit< tt, lit≤ tt, (lit≤ tt, tt))

-- ---- `crowd`

-- nothing but these two clauses
neither : {A B : Type 0} → (A → ⊥) → (B → ⊥) → A ⊎ B → ⊥
neither f g (inl a) = f a
neither f g (inr b) = g b

-- at most one: one fixed on is not too many, two are; a free unit is not fixed on
crowd_upper : (Crowded (plant 80 50 30) (at_most 1 (on 0 root)) 0 → ⊥) × Crowded (plant 80 50 30) (at_most 1 (on 2 (on 0 root))) 0
    × (Crowded (plant 80 50 30) (at_most 0 root) 0 → ⊥)
unfolding fixed_on usable
crowd_upper = (neither (λ h. lt→ltb 1 1 h) (λ h. lt→ltb 3 0 h), inl (lit< tt), neither (λ h. lt→ltb 0 0 h) (λ h. lt→ltb 3 0 h))

-- two or more: with two not fixed off there are enough, with one there are not; a free unit is not fixed off
crowd_lower : (Crowded (plant 80 50 30) (more_than 1 (off 0 root)) 0 → ⊥) × Crowded (plant 80 50 30) (more_than 1 (off 2 (off 0 root))) 0
    × (Crowded (plant 80 50 30) (more_than 2 root) 0 → ⊥)
unfolding fixed_on usable
crowd_lower = (neither (λ h. h) (λ h. lt→ltb 2 2 h), inr (lit< tt), neither (λ h. h) (λ h. lt→ltb 3 3 h))

-- without counts no statuses crowd a period
crowd_nothing : (Crowded (plant 80 50 30) (on 2 (on 1 (on 0 root))) 0 → ⊥) × (Crowded (plant 80 50 30) (off 2 (off 1 (off 0 root))) 0 → ⊥)
unfolding fixed_on usable
crowd_nothing = (neither (λ h. h) (λ h. lt→ltb 3 0 h), neither (λ h. h) (λ h. lt→ltb 0 0 h))

-- ---- trees of the example problem

-- `count=2,1`, `short=2`, and a price leaf, for which the count is as good as not there
abbrev pub by_count : Tree
by_count = fork (count 1 1) (leaf (short 1)) (leaf (price (10 ∷ 14 ∷ []) (0 ∷ 0 ∷ [])))

-- the same with `split=2,2` in the second tree: with unit 2 off there is one unit where two are due, `crowd=2`; with it on the price leaf has more
abbrev pub by_both : Tree
by_both = fork (count 1 1) (leaf (short 1)) (fork (status 1 1) (leaf (crowd 1)) (leaf (price (10 ∷ 14 ∷ []) (0 ∷ 0 ∷ []))))

pub count_bounds : (bound example root by_count ≡ number (pos 1880)) × (bound example root by_both ≡ number (pos 1980))
unfolding bound leaf_bound leaf_value units_least unit_least value revenue requirement rows_of row_cost
count_bounds = (refl, refl)

pub count_limits : Limits example root 0 by_count × Limits example root 0 by_both
unfolding Limits GoodLeaf
count_limits = (
  (top, lit≤ tt, lit< tt, prices),
  (top, lit≤ tt, lit< tt, ((lit< tt, lit< tt, refl), lit≤ tt, lit< tt, prices)),
)
  where
    top : GoodFork example root (count 1 1)
    top = (lit< tt, lit≤ tt, (lit≤ tt, tt))

    prices : Multipliers example (10 ∷ 14 ∷ []) × Multipliers example (0 ∷ 0 ∷ [])
    prices = ((refl, ((lit≤ tt, lit≤ tt), ((lit≤ tt, lit≤ tt), tt))), (refl, ((lit≤ tt, lit≤ tt), ((lit≤ tt, lit≤ tt), tt))))

pub count_holds : Holds example root by_count × Holds example root by_both
unfolding Holds LeafHolds available usable largest falling is_stuck
count_holds = (((lit< tt, lit< tt), tt), ((lit< tt, lit< tt), ((lit< tt, inr (lit< tt)), tt)))

-- counts are among the splits and in the depth, crowd leaves among the leaves
count_counts : map splits (by_count ∷ by_both ∷ []) ≡ 1 ∷ 2 ∷ []
    × (map leaves (by_count ∷ by_both ∷ []) ≡ 2 ∷ 3 ∷ []) × (map depth (by_count ∷ by_both ∷ []) ≡ 1 ∷ 2 ∷ [])
unfolding splits leaves depth
count_counts = (refl, refl, refl)

-- without the upper count `short=2` does not hold, nor does `crowd=2` without the split
count_needed : (Holds example root (leaf (short 1)) → ⊥) × (Holds example root (fork (count 1 1) (leaf (short 1)) (leaf (crowd 1))) → ⊥)
unfolding Holds LeafHolds available usable fixed_on largest falling
count_needed = ((λ h. lt→ltb 130 110 h.1), (λ h. neither (λ k. k) (λ k. lt→ltb 2 2 k) h.1.1))
