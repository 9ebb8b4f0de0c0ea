-- Document 01, Texts and Rules for a leaf, and document 02, [1] and [6]: trees, their limits, their leaves' rules, their bound and counts.
use Rattle.std.specs.Prelude.{◌≡◌, true, false, not, cond, List, ℕ, suc, pred, ◌+◌, ◌-◌, ◌≤◌, ◌<◌, max, T, eqb, length}
use Rattle.model.specs.Instance.{Instance, ◌at◌}
use Rattle.model.specs.Ranges.{All, GoodPrice}
use Rattle.model.specs.Above.{free, Above, root, Fork, status, count, side, BelowMost}
use Rattle.model.specs.Leaf.{available, Crowded, stuck_at, any_stuck, leaf_value}
use Rattle.model.specs.Ramps.{RampPrices, ups, downs, ramp_leaf_value}
use Rattle.model.specs.Figures.{Bound}
use Rattle.std.specs.Prelude.{None as never, Some as number}
use Rattle.model.specs.declared.figures.TreeFigures.{TreeFigures}
use Rattle.model.specs.Figures.{lower, tree_gives}

-- units and periods count from 0; a price leaf has a price multiplier and a reserve multiplier for each period, and a ramp leaf has those of the units'
-- steps besides
pub data Leaf : Type 0 where
  short : ℕ → Leaf
  crowd : ℕ → Leaf
  stuck : ℕ → Leaf
  price : List ℕ → List ℕ → Leaf
  ramp : List ℕ → List ℕ → List RampPrices → Leaf

-- a leaf that has a value: one with prices
abbrev pub HasPrices : Leaf → Type 0
HasPrices (short t) = ⊥
HasPrices (crowd t) = ⊥
HasPrices (stuck U) = ⊥
HasPrices (price q s) = Unit {0}
HasPrices (ramp q s l) = Unit {0}

-- a leaf, or a fork with its first tree and its second
pub data Tree : Type 0 where
  leaf : Leaf → Tree
  fork : Fork → Tree → Tree → Tree

-- ---- a fork, and a leaf, with A above it

-- K is not below the lower count that stands for period t, and below the upper (37)
abbrev pub Narrows : Above → ℕ → ℕ → Type 0
Narrows A t K = (A.least t ≤ K) × BelowMost K (A.most t)

-- the unit and the period in range, and the status not split above (31); the period from 1 to T and the count from 0 to I - 1, and the count narrower
abbrev pub GoodFork : Instance → Above → Fork → Type 0
GoodFork P A (status U t) = (U < length P.units) × (t < P.periods) × (A.marks U t ≡ free)
GoodFork P A (count t K) = (t < P.periods) × (K ≤ length P.units - 1) × Narrows A t K

-- T multipliers in range
abbrev pub Multipliers : Instance → List ℕ → Type 0
Multipliers P l = (length l ≡ P.periods) × All GoodPrice l

-- T - 1 multipliers in range, for the steps from each period to the next
abbrev pub StepMultipliers : Instance → List ℕ → Type 0
StepMultipliers P l = (length l ≡ pred P.periods) × All GoodPrice l

-- how many units have such lines: each of them; none, where there is but one period
abbrev pub ramped : Instance → ℕ
ramped P = cond (eqb P.periods 1) 0 (length P.units)

-- the two lines of each
abbrev pub GoodRamps : Instance → List RampPrices → Type 0
GoodRamps P l = (length l ≡ ramped P) × All (λ x. StepMultipliers P x.up × StepMultipliers P x.down) l

-- the period, the unit or the multipliers in range
unfoldable pub GoodLeaf : Instance → Leaf → Type 0
GoodLeaf P (short t) = t < P.periods
GoodLeaf P (crowd t) = t < P.periods
GoodLeaf P (stuck U) = U < length P.units
GoodLeaf P (price q s) = Multipliers P q × Multipliers P s
GoodLeaf P (ramp q s l) = Multipliers P q × Multipliers P s × GoodRamps P l

-- the leaf's rule (33, 36, 34, 35)
unfoldable pub LeafHolds : Instance → Above → Leaf → Type 0
LeafHolds P A (short t) = (t < P.periods) × (available P A t < P.demand at t + P.spare at t)
LeafHolds P A (crowd t) = (t < P.periods) × Crowded P A t
LeafHolds P A (stuck U) = T (stuck_at P.periods P.units A.marks U)
LeafHolds P A (price q s) = T (not (any_stuck P.periods P.units A.marks))
LeafHolds P A (ramp q s l) = T (not (any_stuck P.periods P.units A.marks))

-- a price leaf's value, and a ramp leaf's; never, of any other
unfoldable pub leaf_bound : Instance → Above → Leaf → Bound
leaf_bound P A (short t) = never
leaf_bound P A (crowd t) = never
leaf_bound P A (stuck U) = never
leaf_bound P A (price q s) = number (leaf_value P A.marks (λ t. q at t) (λ t. s at t))
leaf_bound P A (ramp q s l) = number (ramp_leaf_value P A.marks (λ t. q at t) (λ t. s at t) (ups l) (downs l))

-- ---- a tree

-- at depth d: forks and leaves good, no split deeper than 63 (32)
unfoldable pub Limits : Instance → Above → ℕ → Tree → Type 0
Limits P A d (leaf l) = GoodLeaf P l
Limits P A d (fork f x y) = GoodFork P A f × (d ≤ 63) × Limits P (side f false A) (suc d) x × Limits P (side f true A) (suc d) y

-- the rule of every leaf
unfoldable pub Holds : Instance → Above → Tree → Type 0
Holds P A (leaf l) = LeafHolds P A l
Holds P A (fork f x y) = Holds P (side f false A) x × Holds P (side f true A) y

-- the smallest value of its price leaves and ramp leaves; never, if it has neither
unfoldable pub bound : Instance → Above → Tree → Bound
bound P A (leaf l) = leaf_bound P A l
bound P A (fork f x y) = lower (bound P (side f false A) x) (bound P (side f true A) y)

-- split lines
unfoldable pub splits : Tree → ℕ
splits (leaf l) = 0
splits (fork f x y) = suc (splits x + splits y)

-- leaves
unfoldable pub leaves : Tree → ℕ
leaves (leaf l) = 1
leaves (fork f x y) = leaves x + leaves y

-- the depth of the deepest node, the root having 0
unfoldable pub depth : Tree → ℕ
depth (leaf l) = 0
depth (fork f x y) = suc (max (depth x) (depth y))

-- what the tree gives
abbrev pub tree_figures : Instance → Tree → TreeFigures
tree_figures P t = tree_gives (bound P root t) (splits t) (leaves t)
