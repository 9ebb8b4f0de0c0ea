-- Document 02, [1]: how many numbers of running units what stands above a node leaves for a period, and the count lines above a leaf.
use Rattle.std.specs.Prelude.{true, false, cond, ◌⊎◌, ℕ, suc, ◌+◌, ◌-◌, ◌≤◌, eqb, length}
use Rattle.std.proofs.Common.{inl, inr}
use Rattle.std.proofs.Math.Option.{Option, none, some}
use Rattle.model.specs.Instance.{Instance}
use Rattle.model.specs.Above.{Above, Fork, status, count, side, AtMost}
use Rattle.model.specs.Tree.{Tree, leaf, fork}
use Rattle.model.specs.Agreement.{LeafOf}

-- the upper count, or I where none stands
abbrev pub or_all : Option ℕ → ℕ → ℕ
or_all none I = I
or_all (some K) I = K

-- n units may run in period t: no fewer than the lower count, no more than the upper, nor than there are
abbrev pub Possible : Instance → Above → ℕ → ℕ → Type 0
Possible P A t n = (A.least t ≤ n) × AtMost n (A.most t) × (n ≤ length P.units)

-- how many such n there are: those from the lower count to the upper
abbrev pub possible : Instance → Above → ℕ → ℕ
possible P A t = suc (or_all (A.most t) (length P.units)) - A.least t

-- the nodes of a tree: its own, and those of a fork's first tree and of its second
abbrev pub NodeOf : Tree → Type 0
NodeOf (leaf l) = Unit {0}
NodeOf (fork f x y) = Unit {0} ⊎ (NodeOf x ⊎ NodeOf y)

-- what stands above a node, when A stands above the tree
abbrev pub above_node : Above → (t : Tree) → NodeOf t → Above
above_node A (leaf l) i = A
above_node A (fork f x y) (inl i) = A
above_node A (fork f x y) (inr (inl i)) = above_node (side f false A) x i
above_node A (fork f x y) (inr (inr i)) = above_node (side f true A) y i

-- 1 for a count of period t
abbrev pub if_count : Fork → ℕ → ℕ
if_count (status U v) t = 0
if_count (count v K) t = cond (eqb v t) 1 0

-- how many counts of period t stand above a leaf
abbrev pub counts_above : (t : Tree) → LeafOf t → ℕ → ℕ
counts_above (leaf l) i t = 0
counts_above (fork f x y) (inl i) t = if_count f t + counts_above x i t
counts_above (fork f x y) (inr i) t = if_count f t + counts_above y i t
