-- Document 01, Specimens and Wrong turns: what the definitions of leaves and trees give on numbers. Every line is found by
-- computing, a price leaf's value by trying every row.
use Rattle.std.specs.Prelude.{◌≡◌, refl, true, false, not, [], ◌∷◌, map, ℕ, T, ltb, pos, neg_ℤ, get_or, replicate}
use Rattle.std.proofs.Common.{subst, lit<, lit≤, lt→ltb, le→leb}
use Rattle.std.proofs.Math.Path.{subst⁻¹}
use mathlib.Core.List.Memᴰ
use Rattle.model.specs.Instance.{Instance, ◌at◌}
use Rattle.model.specs.Cost.{row_cost}
use Rattle.model.specs.Above.{Mark, free, fixed, root, status, side}
use Rattle.model.specs.Leaf.{usable, available, rows_of, is_stuck, revenue, value, unit_least, units_least, requirement, leaf_value}
use Rattle.std.specs.Prelude.{None as never, Some as number}
use Rattle.model.specs.Tree.{short, stuck, price, Tree, leaf, fork, GoodLeaf, LeafHolds, leaf_bound, Limits, Holds, bound, splits, leaves, depth}
use Rattle.model.specs.Best.{higher, FirstLeast}
use Rattle.model.specs.Examples.{line, with_spare, example, timed, square, three}

-- ---- Above and Leaf

-- in period 2, nothing fixed, unit 2 fixed off, fixed on; and in period 1 with unit 2 off in period 2: a free unit counts
short_sums : (map (λ A. available example A 1) (root ∷ side (status 1 1) false root ∷ side (status 1 1) true root ∷ []) ≡ 130 ∷ 80 ∷ 130 ∷ [])
    × (available example (side (status 1 1) false root) 0 ≡ 130)
unfolding available usable
short_sums = (refl, refl)

-- document 01, Specimens: a lone `short=2` does not hold, nor one with 130 to be had and D + R = 130
not_short : (LeafHolds example root (short 1) → ⊥) × (LeafHolds (with_spare 30) root (short 1) → ⊥)
unfolding LeafHolds available usable
not_short = ((λ h. lt→ltb 130 110 h.1), (λ h. lt→ltb 130 130 h.1))

-- TD 3 and Tini -1: nothing fixed, on in period 2, on in period 3, off in all
stuck_by_times : map (λ l. is_stuck 3 (timed 1 3 0 false 1) (λ t. get_or l t free)) (
    [] ∷ (free ∷ fixed true ∷ []) ∷ (free ∷ free ∷ fixed true ∷ []) ∷ replicate 3 (fixed false) ∷ []) ≡ false ∷ true ∷ false ∷ false ∷ []
unfolding is_stuck
stuck_by_times = refl

-- TU 2, off long before: off, on, off; then off, on, free, off
stuck_by_run : map (λ l. is_stuck 4 (timed 2 2 0 false 9) (λ t. get_or l t free)) (
    (fixed false ∷ fixed true ∷ fixed false ∷ []) ∷ (fixed false ∷ fixed true ∷ free ∷ fixed false ∷ []) ∷ []) ≡ true ∷ false ∷ []
unfolding is_stuck
stuck_by_run = refl

-- 5·p·p less 36·p is least at 3.6. Of 3 to 5, 4 gives -64 where 3 gives -63; then 3 alone, and 5 alone
whole_output : map (λ g. unit_least 1 (λ t. 36) (λ t. 0) g (λ t. free)) (square 3 5 true 1 ∷ square 3 3 true 1 ∷ square 5 5 true 1 ∷ [])
    ≡ neg_ℤ (pos 64) ∷ neg_ℤ (pos 63) ∷ neg_ℤ (pos 55) ∷ []
unfolding unit_least value revenue rows_of row_cost
whole_output = refl

-- c = 0, b = 2, outputs 3 to 5: the price 10 wants pU; the price 1 wants off, or pL where on is fixed
straight : map (λ q. map (λ x. unit_least 1 (λ t. q) (λ t. 0) (line 0 2 0 3 5 1 1 true 1 1 1 0 0 0 0 3) (λ t. x)) (free ∷ fixed true ∷ [])) (10 ∷ 1 ∷ [])
    ≡ (neg_ℤ (pos 40) ∷ neg_ℤ (pos 40) ∷ []) ∷ (pos 0 ∷ pos 3 ∷ []) ∷ []
unfolding unit_least value revenue rows_of row_cost
straight = refl

-- a start is taken off the gain: 20 after one period off; 90, more than the gain, after two. s·pU adds to it
start_and_spare : map (λ k. map (λ s. unit_least 1 (λ t. 36) (λ t. s) (square 3 5 false k) (λ t. free)) (0 ∷ 2 ∷ [])) (1 ∷ 2 ∷ [])
    ≡ (neg_ℤ (pos 44) ∷ neg_ℤ (pos 54) ∷ []) ∷ (pos 0 ∷ pos 0 ∷ []) ∷ []
unfolding unit_least value revenue rows_of row_cost
start_and_spare = refl

-- UR is 1, yet the best outputs of two periods are taken together, 3 and 5
no_ramps : unit_least 2 (λ t. (30 ∷ 50 ∷ []) at t) (λ t. 0) (square 3 5 true 1) (λ t. free) ≡ neg_ℤ (pos 170)
unfolding unit_least value revenue rows_of row_cost
no_ramps = refl

-- D = 7 and R = 2 at the prices 36 and 2: -74 for the unit, and 36·7 + 2·9
abbrev tiny : ℕ → ℕ → Instance
tiny D R = record { periods = 1; demand = D ∷ []; spare = R ∷ []; units = square 3 5 true 1 ∷ [] }

spare_priced : leaf_value (tiny 7 2) root.marks (λ t. 36) (λ t. 2) ≡ pos 196
unfolding leaf_value units_least unit_least value revenue requirement rows_of row_cost
spare_priced = refl

-- Three periods by hand, at the prices 11, 0, 14 and the reserve prices 1, 1, 2; D is 2, 1, 3 and R is 1, 0, 1.
-- Unit 1 was on, and may go on or off at any time. A period on at p gives 10 + 2·p + 2·p·p - q·p - s·3, so for p = 1, 2, 3 in period 1: 0, -3, -2; in period 2:
-- 11, 19, 31; in period 3: -6, -12, -14. A stop costs 3, a start after one period off 5, after more 20. On, off, on is least: -3 + 3 + 5 - 14 = -9. (Never off:
-- -3 + 11 - 14 = -6. On, off, off: -3 + 3 = 0. Off, off, on: 3 + 20 - 14 = 9.)
-- Unit 2 was off for one period, and stays on for two at least. A period on at p gives 5 + p + p·p - q·p - s·2, so for p = 1, 2 in period 1: -6, -13; in period 2:
-- 5, 9; in period 3: -11, -21. A start after one or two periods off costs 2, after more 6, a stop 1. On throughout is least: 2 - 13 + 5 - 21 = -27. (On, off, on would
-- give 2 - 13 + 1 + 2 - 21 = -29. Off, on, on: 2 + 5 - 21 = -14. Off, off, on: 6 - 21 = -15.)
-- The periods give 11·2 + 0·1 + 14·3 = 64 and 1·3 + 1·1 + 2·4 = 12. So the value is 64 + 12 - 9 - 27 = 40
abbrev by_hand : Instance
by_hand = record {
  periods = 3;
  demand = 2 ∷ 1 ∷ 3 ∷ [];
  spare = 1 ∷ 0 ∷ 1 ∷ [];
  units = line 10 2 2 1 3 1 1 true 1 9 9 5 20 0 3 1 ∷ line 5 1 1 1 2 2 1 false 1 9 9 2 6 1 1 0 ∷ [];
}

three_periods : (leaf_value by_hand root.marks (λ t. (11 ∷ 0 ∷ 14 ∷ []) at t) (λ t. (1 ∷ 1 ∷ 2 ∷ []) at t) ≡ pos 40)
    × (map (λ g. unit_least 3 (λ t. (11 ∷ 0 ∷ 14 ∷ []) at t) (λ t. (1 ∷ 1 ∷ 2 ∷ []) at t) g (λ t. free)) by_hand.units ≡ neg_ℤ (pos 9) ∷ neg_ℤ (pos 27) ∷ [])
unfolding leaf_value units_least unit_least value revenue requirement rows_of row_cost
three_periods = (refl, refl)

-- Cold and hot starts by hand, at the prices 8, 1, 11 and the reserve prices 1, 1, 2; D is 3, 2, 5 and R is 2, 1, 1.
-- Unit 1 was off for two periods, TD + Tcold being 1: its first start is cold, 9, and one after a single period off is hot, 2. A stop costs 1. A period on at p
-- gives 6 + 2·p + p·p - q·p - s·4, so for p = 1, 2, 3, 4 in period 1: -3, -6, -7, -6; in period 2: 4, 8, 14, 22; in period 3: -10, -16, -20, -22. On, off, on is least:
-- 9 - 7 + 1 + 2 - 22 = -17. (Never off: 9 - 7 + 4 - 22 = -16. Off, off, on: 9 - 22 = -13. Off, on, on: 9 + 4 - 22 = -9. On, off, off: 9 - 7 + 1 = 3.)
-- Unit 2 was on, TD + Tcold being 2: a start after two periods off is hot, 3; a cold one would be 7. A stop costs 1. A period on at p gives
-- 10 + 3·p + 2·p·p - q·p - s·3, so for p = 2, 3 in period 1: 5, 10; in period 2: 19, 31; in period 3: -4, -2. Off, off, on is least: 1 + 3 - 4 = 0. (Always off: 1. On,
-- off, on: 5 + 1 + 3 - 4 = 5. On, off, off: 5 + 1 = 6. Off, on, on: 1 + 3 + 19 - 4 = 19. Never off: 5 + 19 - 4 = 20.)
-- The periods give 8·3 + 1·2 + 11·5 = 81 and 1·5 + 1·3 + 2·6 = 20. So the value is 81 + 20 - 17 + 0 = 84
abbrev cold_and_hot : Instance
cold_and_hot = record {
  periods = 3;
  demand = 3 ∷ 2 ∷ 5 ∷ [];
  spare = 2 ∷ 1 ∷ 1 ∷ [];
  units = line 6 2 1 1 4 1 1 false 2 9 9 2 9 0 1 0 ∷ line 10 3 2 2 3 1 1 true 1 9 9 3 7 1 1 2 ∷ [];
}

starts_by_hand : (leaf_value cold_and_hot root.marks (λ t. (8 ∷ 1 ∷ 11 ∷ []) at t) (λ t. (1 ∷ 1 ∷ 2 ∷ []) at t) ≡ pos 84)
    × (map (λ g. unit_least 3 (λ t. (8 ∷ 1 ∷ 11 ∷ []) at t) (λ t. (1 ∷ 1 ∷ 2 ∷ []) at t) g (λ t. free)) cold_and_hot.units ≡ neg_ℤ (pos 17) ∷ pos 0 ∷ [])
unfolding leaf_value units_least unit_least value revenue requirement rows_of row_cost
starts_by_hand = (refl, refl)

-- ---- Tree

-- document 01, Specimens: the tree of the listing, and a lone price leaf
abbrev tree : Tree
tree = fork (status 1 1) (leaf (short 1)) (leaf (price (10 ∷ 14 ∷ []) (0 ∷ 0 ∷ [])))

specimen_bounds : map (bound example root) (tree ∷ leaf (price (10 ∷ 14 ∷ []) (0 ∷ 2 ∷ [])) ∷ []) ≡ number (pos 1980) ∷ number (pos 1940) ∷ []
unfolding bound leaf_bound leaf_value units_least unit_least value revenue requirement rows_of row_cost
specimen_bounds = refl

tree_holds : Holds example root tree
unfolding Holds LeafHolds available usable is_stuck
tree_holds = ((lit< tt, lit< tt), tt)

-- the smallest leaf may be the last or the first, and below 0; without a leaf that has prices the bound is never
abbrev halves : ℕ → ℕ → Tree
halves q q' = fork (status 0 0) (leaf (price (q ∷ []) (0 ∷ []))) (leaf (price (q' ∷ []) (0 ∷ [])))

smallest : (map (bound (tiny 7 0) root) (halves 36 36 ∷ halves 1 36 ∷ leaf (short 0) ∷ []) ≡ number (pos 188) ∷ number (pos 7) ∷ never ∷ [])
    × (bound (tiny 0 0) root (halves 36 36) ≡ number (neg_ℤ (pos 64)))
unfolding bound leaf_bound leaf_value units_least unit_least value revenue requirement rows_of row_cost
smallest = (refl, refl)

-- split lines, leaves, depth; a price leaf is one leaf
counts : (splits tree ≡ 1) × (leaves tree ≡ 2) × (depth tree ≡ 1) × (leaves (leaf (price [] [])) ≡ 1)
unfolding splits leaves depth
counts = (refl, refl, refl, refl)

-- two units, the second with TD 3 and Tini -1: with it on in period 2 `stuck=2` holds, `stuck=1` and a price leaf do not
abbrev late : Instance
late = three 0 0 (timed 1 1 0 false 1 ∷ timed 1 3 0 false 1 ∷ [])

stuck_there : LeafHolds late (side (status 1 1) true root) (stuck 1) × (LeafHolds late (side (status 1 1) true root) (stuck 0) → ⊥) × (LeafHolds late (side (status 1 1) true root) (price [] []) → ⊥)
unfolding LeafHolds is_stuck
stuck_there = (tt, (λ h. h), (λ h. h))

-- with nothing fixed, or the first on in period 2, no unit is stuck
stuck_nowhere : LeafHolds late root (price [] []) × LeafHolds late (side (status 0 1) true root) (price [] []) × (LeafHolds late root (stuck 1) → ⊥)
unfolding LeafHolds is_stuck
stuck_nowhere = (tt, tt, (λ h. h))

-- 32: a split may stand at depth 63; not at 64, in either tree of one at 63
depth_63 : Limits example root 63 (fork (status 0 0) (leaf (short 0)) (leaf (short 1)))
unfolding Limits GoodLeaf
depth_63 = ((lit< tt, lit< tt, refl), lit≤ tt, lit< tt, lit< tt)

depth_64 : (x y z : Tree) → (Limits example root 63 (fork (status 0 0) (fork (status 0 1) x y) z) → ⊥) × (Limits example root 63 (fork (status 0 0) z (fork (status 0 1) x y)) → ⊥)
unfolding Limits
depth_64 x y z = ((λ h. le→leb 64 63 h.2.1), (λ h. le→leb 64 63 h.3.1))

-- 31: no status is split twice, in either tree; the same unit may be split in another period
abbrev Fixed : Mark → Type 0
Fixed free = ⊥
Fixed (fixed b) = Unit {0}

twice : (x y z : Tree) → (Limits example root 0 (fork (status 1 1) (fork (status 1 1) x y) z) → ⊥) × (Limits example root 0 (fork (status 1 1) z (fork (status 1 1) x y)) → ⊥)
unfolding Limits
twice x y z = ((λ h. subst Fixed h.2.0.2 tt), (λ h. subst Fixed h.3.0.2 tt))

other_period : Limits example (side (status 1 1) false root) 1 (fork (status 1 0) (leaf (short 0)) (leaf (stuck 1)))
unfolding Limits GoodLeaf
other_period = ((lit< tt, lit< tt, refl), lit≤ tt, lit< tt, lit< tt)

-- ---- Best

-- never is above every number, and not above itself; equal bounds are not above each other; -3 is above -4
above : (higher never (number (pos 9)) ≡ true) × (higher (number (pos 9)) never ≡ false) × (higher never never ≡ false)
    × (higher (number (pos 9)) (number (pos 9)) ≡ false) × (higher (number (neg_ℤ (pos 3))) (number (neg_ℤ (pos 4))) ≡ true)
above = (refl, refl, refl, refl, refl)

-- of the costs 3, 1, 1 by the writers 7, 8, 9 the first least is that of 8
first_least : FirstLeast (λ (x : ℕ × ℕ). x.0) (1, 8) ((3, 7) ∷ (1, 8) ∷ (1, 9) ∷ [])
first_least = record {
  before = (3, 7) ∷ [];
  after = (1, 9) ∷ [];
  parts = refl;
  worse = λ x m. subst⁻¹ (λ (y : ℕ × ℕ). T (ltb 1 y.0)) (Memᴰ.eq_of_singleton m) tt;
  no_better = λ x m. subst⁻¹ (λ (y : ℕ × ℕ). T (not (ltb y.0 1))) (Memᴰ.eq_of_singleton m) tt;
}
