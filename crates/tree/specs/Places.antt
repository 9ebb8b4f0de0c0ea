-- Where the lines of a tree's text stand: which node, what is above it, and which leaves end before a line.
use Rattle.std.specs.Prelude.{◌≡◌, true, false, List, ◌∷◌, ◌++◌, ℕ, suc, ◌+◌, ◌-◌, ◌≤◌, length}
use Rattle.model.specs.Instance.{Instance}
use Rattle.model.specs.Above.{Above, Fork, side}
use Rattle.model.specs.Ramps.{RampPrices}
use Rattle.model.specs.Tree.{Leaf, price, ramp, LeafHolds, Tree, leaf, fork}
use Rattle.tree.specs.Rendering.{leaf_lines, node_lines}

-- what the lines so far say of a leaf of more than one line: a price leaf's price multipliers; a ramp leaf's; with its reserve multipliers, those of the
-- steps of as many units as have both lines; and with these the next unit's ups
pub data Part : Type 0 where
  priced : List ℕ → Part
  ramp_priced : List ℕ → Part
  with_steps : List ℕ → List ℕ → List RampPrices → Part
  with_ups : List ℕ → List ℕ → List RampPrices → List ℕ → Part

-- line k of a leaf, counted from 0, is due after this part of it
pub data PartAt : Leaf → ℕ → Part → Type 0 where
  reserve_line : {q s : List ℕ} → PartAt (price q s) 1 (priced q)
  ramp_reserve_line : {q s : List ℕ} {l : List RampPrices} → PartAt (ramp q s l) 1 (ramp_priced q)
  up_line : {q s : List ℕ} {l : List RampPrices} (k : List RampPrices) (x : RampPrices) (m : List RampPrices) → l ≡ k ++ (x ∷ m)
      → PartAt (ramp q s l) (length (leaf_lines (ramp q s k))) (with_steps q s k)
  down_line : {q s : List ℕ} {l : List RampPrices} (k : List RampPrices) (x : RampPrices) (m : List RampPrices) → l ≡ k ++ (x ∷ m)
      → PartAt (ramp q s l) (suc (length (leaf_lines (ramp q s k)))) (with_ups q s k x.up)

-- the first line of a node, with what is above it and its depth; or a later line of a leaf, with what is above it and the part before
pub data LinePlace : Type 0 where
  node_at : Above → ℕ → LinePlace
  part_at : Above → Part → LinePlace

-- line k, counted from 0, of a tree at depth d with A above it
pub data LineAt : Above → ℕ → Tree → ℕ → LinePlace → Type 0 where
  first_line : {A : Above} {d : ℕ} {x : Tree} → LineAt A d x 0 (node_at A d)
  later_line : {A : Above} {d k : ℕ} {l : Leaf} {p : Part} → PartAt l k p → LineAt A d (leaf l) k (part_at A p)
  in_first : {A : Above} {d k : ℕ} {f : Fork} {x y : Tree} {w : LinePlace} → LineAt (side f false A) (suc d) x k w → LineAt A d (fork f x y) (suc k) w
  in_second : {A : Above} {d k : ℕ} {f : Fork} {x y : Tree} {w : LinePlace}
      → LineAt (side f true A) (suc d) y k w → LineAt A d (fork f x y) (suc (length (node_lines x) + k)) w

-- every leaf of which all lines are among the tree's first k meets its rule
unfoldable pub HoldsAmong : Instance → Above → ℕ → Tree → Type 0
HoldsAmong P A k (leaf l) = length (leaf_lines l) ≤ k → LeafHolds P A l
HoldsAmong P A k (fork f x y) = HoldsAmong P (side f false A) (k - 1) x × HoldsAmong P (side f true A) (k - 1 - length (node_lines x)) y
