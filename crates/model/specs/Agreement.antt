-- When a schedule agrees with what stands above a node, when a row agrees with its marks, and what the leaves of a tree are.
use Rattle.std.specs.Prelude.{◌≡◌, Bool, true, false, List, [], ◌∷◌, ◌⊎◌, ℕ, ◌+◌, ◌≤◌, ◌<◌, T, ltb, length, get_or}
use Rattle.std.proofs.Common.{inl, inr}
use Rattle.model.specs.declared.generator.Generator.{Generator}
use Rattle.model.specs.Instance.{Schedule, ◌at◌}
use Rattle.model.specs.Rules.{on, if_on, statuses, Within}
use Rattle.model.specs.Above.{Mark, Marks, Above, Fork, status, count, side, AtMost, allows, obeys}
use Rattle.model.specs.Tree.{Leaf, Tree, leaf, fork}

-- unit u's output in period t, both counted from 0; 0 where there is none
abbrev pub out : Schedule → ℕ → ℕ → ℕ
out s u t = get_or s u [] at t

-- the schedule has every status that the marks fix
abbrev pub Follows : Marks → Schedule → Type 0
Follows m s = (u t : ℕ) → T (allows (m u t) (on (out s u t)))

-- (23): how many units run in period t
abbrev pub running : Schedule → ℕ → ℕ
running [] t = 0
running (r ∷ s) t = if_on (on (r at t)) 1 + running s t

-- it agrees with all that stands above a node: the statuses, and in every period the lower count (27) and the upper (28)
pub record Agrees (A : Above) (s : Schedule) : Type 0 where
  pub follows : Follows A.marks s
  pub enough : (t : ℕ) → A.least t ≤ running s t
  pub few : (t : ℕ) → AtMost (running s t) (A.most t)

-- a row over which a price leaf's least is taken: n whole outputs that obey (4), a run that obeys (5) to (10) and agrees with the marks
pub record Candidate (n : ℕ) (g : Generator) (m : ℕ → Mark) (r : List ℕ) : Type 0 where
  pub long : length r ≡ n
  pub limits : (t : ℕ) → t < n → Within g (r at t)
  pub run : T (obeys g m (statuses r))

-- the side of a fork on which a schedule lies: whether it is above the second tree
abbrev pub takes : Fork → Schedule → Bool
takes (status U t) s = on (out s U t)
takes (count t K) s = ltb K (running s t)

-- the leaves of a tree: those of a fork's first tree and those of its second
abbrev pub LeafOf : Tree → Type 0
LeafOf (leaf l) = Unit {0}
LeafOf (fork f x y) = LeafOf x ⊎ LeafOf y

-- what stands above a leaf, when A stands above the tree
abbrev pub above : Above → (t : Tree) → LeafOf t → Above
above A (leaf l) i = A
above A (fork f x y) (inl i) = above (side f false A) x i
above A (fork f x y) (inr i) = above (side f true A) y i

-- the leaf itself
abbrev pub leaf_at : (t : Tree) → LeafOf t → Leaf
leaf_at (leaf l) i = l
leaf_at (fork f x y) (inl i) = leaf_at x i
leaf_at (fork f x y) (inr i) = leaf_at y i

-- of the leaves of a tree, the schedule agrees with one and with no other
pub record OneLeaf (A : Above) (t : Tree) (s : Schedule) : Type 0 where
  pub which : LeafOf t
  pub agrees : Agrees (above A t which) s
  pub only : (i : LeafOf t) → Agrees (above A t i) s → i ≡ which
