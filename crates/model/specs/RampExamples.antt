-- Document 02, [6]: what the definitions of ramp leaves give on numbers. Every line is found by computing, a leaf's value by trying every row.
use Rattle.std.specs.Prelude.{◌≡◌, refl, true, false, List, [], ◌∷◌, map, ℕ, T, eqb, ℤ, pos, neg_ℤ}
use Rattle.std.proofs.Common.{subst, lit≤, le→leb}
use Rattle.std.proofs.Math.Option.{none}
use Rattle.std.proofs.Math.Dec.{eqb_refl}
use Rattle.model.specs.declared.generator.Generator.{Generator}
use Rattle.model.specs.Instance.{Instance, ◌at◌}
use Rattle.model.specs.Cost.{row_cost, cost}
use Rattle.model.specs.Breach.{first_breach}
use Rattle.model.specs.Rules.{output, capacity}
use Rattle.model.specs.Above.{free, root, status, side}
use Rattle.model.specs.Leaf.{rows_of, is_stuck, revenue, value, unit_least, units_least, requirement, leaf_value}
use Rattle.model.specs.Ramps.{over_rise, over_fall, RampPrices, ramp_charge, ramp_value, ramp_least, ramp_leasts, ramp_leaf_value}
use Rattle.model.specs.Walk.{plus, lesser, back, walk}
use Rattle.model.specs.Prices.{on_value, best_at}
use Rattle.model.specs.RampCosts.{dearer, gainful, off_cost, added, ramp_walk, ramp_offset}
use Rattle.std.specs.Prelude.{Some as number}
use Rattle.model.specs.Tree.{Leaf, short, stuck, price, ramp, Tree, leaf, fork, GoodLeaf, LeafHolds, leaf_bound, Limits, Holds, bound, splits, leaves, depth}
use Rattle.model.specs.Examples.{line, example, rows, breach, timed, three}

abbrev prices : List ℕ → List ℕ → RampPrices
prices x y = record { up = x; down = y }

-- equal numbers pass the test: so literals that differ are not equal, by computing
eq→eqb : (k n : ℕ) → k ≡ n → T (eqb k n)
eq→eqb k n e = subst (λ (x : ℕ). T (eqb k x)) e (eqb_refl k)

-- ---- one step

-- outputs 2 to 6, DR 2, UR 3; a start costs 4 or 9, a stop 5
abbrev pub slow : Generator
slow = line 10 3 1 2 6 1 1 true 1 2 3 4 9 0 5 4

-- (12) from 4 to 6, to 7 and to 8: 7 may be reached. After a period off pU may be; off after a period on or off
rises : map (λ p. over_rise slow 4 p) (6 ∷ 7 ∷ 8 ∷ 0 ∷ []) ≡ neg_ℤ (pos 1) ∷ pos 0 ∷ pos 1 ∷ neg_ℤ (pos 7) ∷ []
rises = refl

rises_off : map (λ p. over_rise slow 0 p) (2 ∷ 6 ∷ 7 ∷ 0 ∷ []) ≡ neg_ℤ (pos 4) ∷ pos 0 ∷ pos 1 ∷ neg_ℤ (pos 6) ∷ []
rises_off = refl

-- (11) from 6 to 5, to 4 and to 3: 4 may be reached; then off. From off to on, and off
falls : map (λ p. over_fall slow 6 p) (5 ∷ 4 ∷ 3 ∷ 0 ∷ []) ≡ neg_ℤ (pos 1) ∷ pos 0 ∷ pos 1 ∷ neg_ℤ (pos 2) ∷ []
falls = refl

falls_off : map (λ p. over_fall slow 0 p) (2 ∷ 6 ∷ 0 ∷ []) ≡ neg_ℤ (pos 2) ∷ neg_ℤ (pos 6) ∷ neg_ℤ (pos 6) ∷ []
falls_off = refl

-- ---- three periods by hand, at the prices 20, 1, 20 and the reserve prices 0, 1, 0, with up 2, 3 and down 1, 4; D is 5, 0, 5 and R is 1, 0, 2

abbrev by_hand : Instance
by_hand = record { periods = 3; demand = 5 ∷ 0 ∷ 5 ∷ []; spare = 1 ∷ 0 ∷ 2 ∷ []; units = slow ∷ [] }

abbrev q : List ℕ
q = 20 ∷ 1 ∷ 20 ∷ []

abbrev s : List ℕ
s = 0 ∷ 1 ∷ 0 ∷ []

abbrev up_prices : ℕ → ℕ
up_prices t = (2 ∷ 3 ∷ []) at t

abbrev down_prices : ℕ → ℕ
down_prices t = (1 ∷ 4 ∷ []) at t

abbrev row_value : List ℕ → ℤ
row_value r = ramp_value 3 (λ t. q at t) (λ t. s at t) up_prices down_prices slow r

-- the row 6, 0, 6 costs 137, a stop and a hot start with it, and earns 240. From 6 to 0: up 2·(0 - 9) and down 1·(6 - 2 - 6); from 0 to 6: up 3·(6 - 6) and down
-- 4·(0 - 6). So -147. The row 6, 2, 6 breaks (11) by 2 and (12) by 1: it costs 10·3 + 3·14 + 76 = 148 and earns 242 and 6; up 2·(2 - 9) + 3·(6 - 5) and down
-- 1·(6 - 2 - 2) + 4·(2 - 2 - 6). So -100 - 11 - 22 = -133
rows_by_hand : map row_value ((6 ∷ 0 ∷ 6 ∷ []) ∷ (6 ∷ 2 ∷ 6 ∷ []) ∷ (0 ∷ 0 ∷ 0 ∷ []) ∷ []) ≡ neg_ℤ (pos 147) ∷ neg_ℤ (pos 133) ∷ neg_ℤ (pos 55) ∷ []
unfolding ramp_value ramp_charge value revenue row_cost
rows_by_hand = refl

-- the first is the least of all; with 200 for the periods the value is 53
three_periods : bound by_hand root (leaf (ramp q s (prices (2 ∷ 3 ∷ []) (1 ∷ 4 ∷ []) ∷ []))) ≡ number (pos 53)
unfolding bound leaf_bound ramp_leaf_value ramp_leasts ramp_least ramp_value ramp_charge value revenue requirement rows_of row_cost
three_periods = refl

-- the same as the code follows it, period by period: a unit of output costs 4, 9, 6, a unit short of pU 22, 5, 24, a period off 128, 29, 120. So 6, 0, 6 costs 10 + 24 + 36,
-- 29 and a stop, 10 + 36 + 36 and a hot start: 190, coded 191. 140, 53 and 144 were added, and 190 - 337 = -147
periods_by_hand : (map (dearer 2 slow up_prices down_prices) (0 ∷ 1 ∷ 2 ∷ []) ≡ 4 ∷ 9 ∷ 6 ∷ []) × (map (gainful 2 (λ t. q at t) up_prices down_prices) (0 ∷ 1 ∷ 2 ∷ []) ≡ 22 ∷ 5 ∷ 24 ∷ [])
    × (map (off_cost 2 slow (λ t. q at t) (λ t. s at t) up_prices down_prices) (0 ∷ 1 ∷ 2 ∷ []) ≡ 128 ∷ 29 ∷ 120 ∷ [])
    × (map (added 2 slow (λ t. q at t) (λ t. s at t) up_prices down_prices) (0 ∷ 1 ∷ 2 ∷ []) ≡ 140 ∷ 53 ∷ 144 ∷ [])
    × (ramp_walk 3 (λ t. q at t) (λ t. s at t) up_prices down_prices slow (λ t. free) ≡ 191) × (ramp_offset 3 (λ t. q at t) (λ t. s at t) up_prices down_prices slow ≡ 337)
unfolding ramp_walk ramp_offset walk back plus lesser on_value best_at
periods_by_hand = (refl, refl, refl, refl, refl, refl)

-- what is fixed decides which rows there are. With the unit on in period 2, 6, 2, 6 is left, and with it off in period 1, 0, 0, 6: a stop, a cold start, 10 + 3·6 + 36 less
-- 120; up 2·(0 - 6) and down 1·(0 - 6), then up 3·(6 - 6) and down 4·(0 - 6). So 5 + 9 - 56 - 18 - 24 = -84. Off in period 2 costs nothing
fixed_by_hand : map (λ A. bound by_hand A (leaf (ramp q s (prices (2 ∷ 3 ∷ []) (1 ∷ 4 ∷ []) ∷ [])))) (
    root ∷ side (status 0 1) true root ∷ side (status 0 1) false root ∷ side (status 0 0) false root ∷ [])
    ≡ number (pos 53) ∷ number (pos 67) ∷ number (pos 53) ∷ number (pos 116) ∷ []
unfolding bound leaf_bound ramp_leaf_value ramp_leasts ramp_least ramp_value ramp_charge value revenue requirement rows_of row_cost
fixed_by_hand = refl

-- ---- trees

-- document 01's problem, at the prices of its second tree: 1940 without ramp prices, also where all of them are 0
abbrev ramp_leaf : List ℕ → List ℕ → List ℕ → List ℕ → Tree
ramp_leaf x y x' y' = leaf (ramp (10 ∷ 14 ∷ []) (0 ∷ 2 ∷ []) (prices x y ∷ prices x' y' ∷ []))

abbrev pub priced_ramps : Tree
priced_ramps = ramp_leaf (7 ∷ []) (3 ∷ []) (5 ∷ []) (1 ∷ [])

-- with the ramp prices 7, 3, 5 and 1 it is 1125; with 3, 0, 1 and 2 it is 1700
pub specimen_ramps : (bound example root priced_ramps ≡ number (pos 1125)) × (bound example root (ramp_leaf (3 ∷ []) (0 ∷ []) (1 ∷ []) (2 ∷ [])) ≡ number (pos 1700))
    × (bound example root (ramp_leaf (0 ∷ []) (0 ∷ []) (0 ∷ []) (0 ∷ [])) ≡ number (pos 1940))
unfolding bound leaf_bound ramp_leaf_value ramp_leasts ramp_least ramp_value ramp_charge value revenue requirement rows_of row_cost
specimen_ramps = (refl, refl, refl)

pub specimen_limits : Limits example root 0 priced_ramps
unfolding Limits GoodLeaf
specimen_limits = (
  (refl, ((lit≤ tt, lit≤ tt), ((lit≤ tt, lit≤ tt), tt))),
  (refl, ((lit≤ tt, lit≤ tt), ((lit≤ tt, lit≤ tt), tt))),
  (refl, (((refl, ((lit≤ tt, lit≤ tt), tt)), (refl, ((lit≤ tt, lit≤ tt), tt))), (((refl, ((lit≤ tt, lit≤ tt), tt)), (refl, ((lit≤ tt, lit≤ tt), tt))), tt))),
)

pub specimen_holds : Holds example root priced_ramps
unfolding Holds LeafHolds is_stuck
specimen_holds = tt

-- a unit that rises by 2 at most, at 1 for each unit of output, and one at 5 that is off: D is 2, 10
abbrev pub rising : Instance
rising = record { periods = 2; demand = 2 ∷ 10 ∷ []; spare = 0 ∷ 0 ∷ []; units = line 0 1 0 1 10 1 1 true 1 10 2 0 0 0 0 8 ∷ line 0 5 0 1 10 1 1 false 1 10 10 0 0 0 0 0 ∷ [] }

-- unit 1 off in period 1, and on
abbrev pub halves : Leaf → Leaf → Tree
halves l k = fork (status 0 0) (leaf l) (leaf k)

-- with it off, a price leaf; with it on, the price 2 in period 2 and x for its rise
abbrev pub dear : Leaf
dear = price (5 ∷ 1 ∷ []) (0 ∷ 0 ∷ [])

abbrev pub in_rise : ℕ → Leaf
in_rise x = ramp (0 ∷ 2 ∷ []) (0 ∷ 0 ∷ []) (prices (x ∷ []) (0 ∷ []) ∷ prices (0 ∷ []) (0 ∷ []) ∷ [])

-- the rows 8, 10 and 0, 0 cost 18 and break nothing; 2, 10 and 0, 0 cost 12 and break only unit 1's ramp. Without the price for the rise the tree gives 11
pub closed_gap : (map (bound rising root) (halves dear (in_rise 1) ∷ halves dear (in_rise 0) ∷ []) ≡ number (pos 18) ∷ number (pos 11) ∷ [])
    × (map (cost rising) (rows (8 ∷ 10 ∷ []) (0 ∷ 0 ∷ []) ∷ rows (2 ∷ 10 ∷ []) (0 ∷ 0 ∷ []) ∷ []) ≡ 18 ∷ 12 ∷ [])
    × (map (first_breach rising) (rows (8 ∷ 10 ∷ []) (0 ∷ 0 ∷ []) ∷ rows (2 ∷ 10 ∷ []) (0 ∷ 0 ∷ []) ∷ []) ≡ none ∷ breach 25 1 2 ∷ [])
unfolding bound leaf_bound leaf_value units_least unit_least ramp_leaf_value ramp_leasts ramp_least ramp_value ramp_charge value revenue requirement rows_of row_cost cost first_breach output capacity
closed_gap = (refl, refl, refl)

-- the smaller of a ramp leaf and a price leaf, on either side: 10 and 11, 10 and -20, 20 and 18, 10 and 18; beside a leaf that gives never, the ramp leaf
abbrev cheap : Leaf
cheap = price (0 ∷ 2 ∷ []) (0 ∷ 0 ∷ [])

smaller_leaf : map (bound rising root) (
    halves (in_rise 1) cheap ∷ halves (in_rise 1) dear ∷ halves dear (in_rise 1) ∷ halves cheap (in_rise 1) ∷ halves (in_rise 1) (short 0) ∷ [])
    ≡ number (pos 10) ∷ number (neg_ℤ (pos 20)) ∷ number (pos 18) ∷ number (pos 10) ∷ number (pos 10) ∷ []
unfolding bound leaf_bound leaf_value units_least unit_least ramp_leaf_value ramp_leasts ramp_least ramp_value ramp_charge value revenue requirement rows_of row_cost
smaller_leaf = refl

-- a ramp leaf is one leaf, and no split
ramp_counts : (splits (halves dear (in_rise 1)) ≡ 1) × (leaves (halves dear (in_rise 1)) ≡ 2) × (depth (halves dear (in_rise 1)) ≡ 1)
    × (splits (leaf (in_rise 1)) ≡ 0) × (leaves (leaf (in_rise 1)) ≡ 1) × (depth (leaf (in_rise 1)) ≡ 0)
unfolding splits leaves depth
ramp_counts = (refl, refl, refl, refl, refl, refl)

-- two units, the second with TD 3 and Tini -1: with it on in period 2 it is stuck, and no ramp leaf holds; with that split away one does
abbrev late : Instance
late = three 0 0 (timed 1 1 0 false 1 ∷ timed 1 3 0 false 1 ∷ [])

abbrev idle : Leaf
idle = ramp (0 ∷ 0 ∷ 0 ∷ []) (0 ∷ 0 ∷ 0 ∷ []) (prices (0 ∷ 0 ∷ []) (0 ∷ 0 ∷ []) ∷ prices (0 ∷ 0 ∷ []) (0 ∷ 0 ∷ []) ∷ [])

ramp_stuck : (LeafHolds late (side (status 1 1) true root) idle → ⊥) × LeafHolds late (side (status 1 1) false root) idle × LeafHolds late root idle
    × Holds late root (fork (status 1 1) (leaf idle) (leaf (stuck 1)))
unfolding Holds LeafHolds is_stuck
ramp_stuck = ((λ h. h), tt, tt, (tt, tt))

-- ---- one period: the leaf is its first two lines, and the price leaf

abbrev tiny : Instance
tiny = record { periods = 1; demand = 5 ∷ []; spare = 1 ∷ []; units = slow ∷ [] }

one_period : (bound tiny root (leaf (ramp (20 ∷ []) (2 ∷ []) [])) ≡ bound tiny root (leaf (price (20 ∷ []) (2 ∷ []))))
unfolding bound leaf_bound leaf_value units_least unit_least ramp_leaf_value ramp_leasts ramp_least ramp_value ramp_charge value revenue requirement rows_of row_cost
one_period = refl

-- a unit has no lines then, not even empty ones
one_period_shape : GoodLeaf tiny (ramp (20 ∷ []) (2 ∷ []) []) × (GoodLeaf tiny (ramp (20 ∷ []) (2 ∷ []) (prices [] [] ∷ [])) → ⊥)
    × (GoodLeaf tiny (ramp (20 ∷ []) (2 ∷ []) (prices (0 ∷ []) (0 ∷ []) ∷ [])) → ⊥)
unfolding GoodLeaf
one_period_shape = (
  ((refl, ((lit≤ tt, lit≤ tt), tt)), (refl, ((lit≤ tt, lit≤ tt), tt)), (refl, tt)),
  (λ h. eq→eqb 1 0 h.2.0),
  (λ h. eq→eqb 1 0 h.2.0),
)

-- ---- ranges

-- T - 1 multipliers up to 1,000,000,000, and no more
abbrev lone : List ℕ → Leaf
lone x = ramp (0 ∷ 0 ∷ 0 ∷ []) (0 ∷ 0 ∷ 0 ∷ []) (prices x (0 ∷ 1000000000 ∷ []) ∷ [])

range_ends : GoodLeaf by_hand (lone (1000000000 ∷ 0 ∷ [])) × (GoodLeaf by_hand (lone (1000000001 ∷ 0 ∷ [])) → ⊥)
unfolding GoodLeaf
range_ends = (
  (
    (refl, ((lit≤ tt, lit≤ tt), ((lit≤ tt, lit≤ tt), ((lit≤ tt, lit≤ tt), tt)))),
    (refl, ((lit≤ tt, lit≤ tt), ((lit≤ tt, lit≤ tt), ((lit≤ tt, lit≤ tt), tt)))),
    (refl, (((refl, ((lit≤ tt, lit≤ tt), ((lit≤ tt, lit≤ tt), tt))), (refl, ((lit≤ tt, lit≤ tt), ((lit≤ tt, lit≤ tt), tt)))), tt)),
  ),
  (λ h. le→leb 1000000001 1000000000 h.2.1.0.0.1.0.1),
)

-- T or T - 2 multipliers are not good, up or down, nor are two units' lines where there is one unit, nor none
abbrev shaped : List RampPrices → Leaf
shaped l = ramp (0 ∷ 0 ∷ 0 ∷ []) (0 ∷ 0 ∷ 0 ∷ []) l

abbrev two : List ℕ
two = 0 ∷ 0 ∷ []

misshapen : (GoodLeaf by_hand (shaped (prices (0 ∷ two) two ∷ [])) → ⊥) × (GoodLeaf by_hand (shaped (prices two (0 ∷ two) ∷ [])) → ⊥)
    × (GoodLeaf by_hand (shaped (prices (0 ∷ []) two ∷ [])) → ⊥) × (GoodLeaf by_hand (shaped (prices two (0 ∷ []) ∷ [])) → ⊥)
    × (GoodLeaf by_hand (shaped (prices two two ∷ prices two two ∷ [])) → ⊥) × (GoodLeaf by_hand (shaped []) → ⊥)
unfolding GoodLeaf
misshapen = (
  (λ h. eq→eqb 3 2 h.2.1.0.0.0),
  (λ h. eq→eqb 3 2 h.2.1.0.1.0),
  (λ h. eq→eqb 1 2 h.2.1.0.0.0),
  (λ h. eq→eqb 1 2 h.2.1.0.1.0),
  (λ h. eq→eqb 2 1 h.2.0),
  (λ h. eq→eqb 0 1 h.2.0),
)
