-- Document 02, [1]: above every node some number of running units is left for every period, and a count leaves fewer for its own on either side. So at most
-- as many counts of a period as there are units stand above a leaf.
use mathlib.Core.Path.{◌≡◌, refl, ap, subst}
use mathlib.Core.Bool.{Bool, true, false, cond}
use mathlib.Core.Logic.{◌↔◌, inl, inr}
use mathlib.Core.List.{[], ◌∷◌}
use mathlib.Core.Option.{Option, none, some}
use Prim.Native.Nat.{ℕ, suc, ◌+◌, ◌-◌, ◌≤◌, ◌<◌}
use native.Mathlib.Omega.{arith}
use lib.Dec.{T, eqb, eqb→eq, eqb_refl}
use lib.ListN.{length}
use Rattle.model.specs.Instance.{Instance, Schedule, ◌at◌}
use Rattle.model.specs.Rules.{on, if_on}
use Rattle.model.specs.Above.{Above, root, put, Fork, status, count, side, AtMost, BelowMost}
use Rattle.model.specs.Tree.{Tree, leaf, fork, GoodFork, Limits}
use Rattle.model.specs.Agreement.{running, Agrees, LeafOf}
use Rattle.model.specs.Possible.{or_all, Possible, possible, NodeOf, above_node, if_count, counts_above}
use Rattle.model.proofs.Sides.{put_same}

-- ---- one period's value replaced: the others stay

module _ {X : Type 0} (t : ℕ) (x : X) (f : ℕ → X) where
  put_other : (v : ℕ) → (t ≡ v → ⊥) → put t x f v ≡ f v
  put_other v n = go (eqb t v) (λ h. n (eqb→eq t v h))
    where
      go : (c : Bool) → (T c → ⊥) → cond c x (f v) ≡ f v
      go true h = absurd (h tt)
      go false h = refl

-- ---- one fork, with A above it

-- the lower count is not above the upper, nor the upper above I
abbrev Room : Instance → Above → ℕ → Type 0
Room P A t = (A.least t ≤ or_all (A.most t) (length P.units)) × (or_all (A.most t) (length P.units) ≤ length P.units)

-- nothing stands above the root
pub root_possible : (P : Instance) (t : ℕ) → possible P root t ≡ suc (length P.units)
root_possible P t = omega arith

-- a status leaves what was left, and a count for every other period
pub status_keeps : (P : Instance) (A : Above) (U t : ℕ) (b : Bool) (v : ℕ) → possible P (side (status U t) b A) v ≡ possible P A v
status_keeps P A U t b v = refl

pub others_keep : (P : Instance) (A : Above) (t K : ℕ) (b : Bool) (v : ℕ) → (t ≡ v → ⊥) → possible P (side (count t K) b A) v ≡ possible P A v
others_keep P A t K false v n = ap (λ (m : Option ℕ). suc (or_all m (length P.units)) - A.least v) (put_other t (some K) A.most v n)
others_keep P A t K true v n = ap (λ (k : ℕ). suc (or_all (A.most v) (length P.units)) - k) (put_other t (suc K) A.least v n)

module _ (P : Instance) (unit : 1 ≤ length P.units) (A : Above) (t K : ℕ) (g : GoodFork P A (count t K)) where
  -- it is below the upper count, or below I
  below_all : K < or_all (A.most t) (length P.units)
  below_all = go (A.most t) g.2.1
    where
      go : (m : Option ℕ) → BelowMost K m → K < or_all m (length P.units)
      go none b = omega (arith, g.1)
      go (some M) b = b

  upper_first : or_all (put t (some K) A.most t) (length P.units) ≡ K
  upper_first = ap (λ (m : Option ℕ). or_all m (length P.units)) (put_same t (some K) A.most)

  lower_second : put t (suc K) A.least t ≡ suc K
  lower_second = put_same t (suc K) A.least

  -- a good count leaves some number for its period on either side
  count_leaves : Room P A t → (b : Bool) → Room P (side (count t K) b A) t
  count_leaves r false = (omega (arith, upper_first, g.2.0), omega (arith, upper_first, below_all, r.1))
  count_leaves r true = (omega (arith, lower_second, below_all), r.1)

  -- and fewer than were left above it
  pub counts_narrow : (b : Bool) → possible P (side (count t K) b A) t < possible P A t
  counts_narrow false = omega (arith, upper_first, g.2.0, below_all)
  counts_narrow true = omega (arith, lower_second, g.2.0, below_all)

-- what agrees with all above a node runs one of the numbers that are left
pub agrees_possible : (P : Instance) (A : Above) (s : Schedule) → length s ≡ length P.units → Agrees A s → (t : ℕ) → Possible P A t (running s t)
agrees_possible P A s e a t = (a.enough t, a.few t, omega (arith, e, running_most s))
  where
    one_most : (b : Bool) → if_on b 1 ≤ 1
    one_most true = omega arith
    one_most false = omega arith

    running_most : (s : Schedule) → running s t ≤ length s
    running_most [] = omega arith
    running_most (r ∷ s) = omega (arith, one_most (on (r at t)), running_most s)

-- ---- any fork

-- a property of numbers holds of v if it holds of t and of every other number
at_any : (B : ℕ → Type 0) (t : ℕ) → B t → (v : ℕ) → ((t ≡ v → ⊥) → B v) → B v
at_any B t h v k = go (eqb t v) (eqb→eq t v) (λ e. subst (λ (x : ℕ). T (eqb t x)) e (eqb_refl t))
  where
    go : (c : Bool) → (T c → t ≡ v) → (t ≡ v → T c) → B v
    go true e n = subst B (e tt) h
    go false e n = k n

module _ (P : Instance) (unit : 1 ≤ length P.units) (A : Above) where
  side_leaves : (f : Fork) → GoodFork P A f → (b : Bool) → ((t : ℕ) → Room P A t) → (v : ℕ) → Room P (side f b A) v
  side_leaves (status U t) g b r v = r v
  side_leaves (count t K) g b r v = at_any (Room P (side (count t K) b A)) t (count_leaves P unit A t K g (r t) b) v (other b)
    where
      other : (b : Bool) → (t ≡ v → ⊥) → Room P (side (count t K) b A) v
      other false n =
          let e = ap (λ (m : Option ℕ). or_all m (length P.units)) (put_other t (some K) A.most v n) in
          (omega (arith, e, (r v).0), omega (arith, e, (r v).1))
      other true n = (omega (arith, put_other t (suc K) A.least v n, (r v).0), (r v).1)

  side_narrows : (f : Fork) → GoodFork P A f → (b : Bool) (v : ℕ) → if_count f v + possible P (side f b A) v ≤ possible P A v
  side_narrows (status U t) g b v = omega arith
  side_narrows (count t K) g b v =
      at_any (λ x. if_count (count t K) x + possible P (side (count t K) b A) x ≤ possible P A x) t
      (omega (arith, put_same {X = ℕ} t 1 (λ x. 0), counts_narrow P unit A t K g b)) v (λ n. omega (arith, put_other {X = ℕ} t 1 (λ x. 0) v n, others_keep P A t K b v n))

-- ---- a tree

-- what is left, as an interval
module _ (P : Instance) (A : Above) (t : ℕ) (r : Room P A t) where
  some_left : 1 ≤ possible P A t
  some_left = omega (arith, r.0)

  numbers_left : (n : ℕ) → Possible P A t n ↔ ((A.least t ≤ n) × (n < A.least t + possible P A t))
  numbers_left n = (there (A.most t) r.0, back (A.most t) r.0 r.1)
    where
      there : (m : Option ℕ) → A.least t ≤ or_all m (length P.units) → (A.least t ≤ n) × AtMost n m × (n ≤ length P.units)
          → (A.least t ≤ n) × (n < A.least t + (suc (or_all m (length P.units)) - A.least t))
      there none k h = (h.0, omega (arith, k, h.2))
      there (some K) k h = (h.0, omega (arith, k, h.1))

      back : (m : Option ℕ) → A.least t ≤ or_all m (length P.units) → or_all m (length P.units) ≤ length P.units
          → (A.least t ≤ n) × (n < A.least t + (suc (or_all m (length P.units)) - A.least t)) → (A.least t ≤ n) × AtMost n m × (n ≤ length P.units)
      back none k j h = (h.0, tt, omega (arith, k, h.1))
      back (some K) k j h = (h.0, omega (arith, k, h.1), omega (arith, k, j, h.1))

module _ (P : Instance) (unit : 1 ≤ length P.units) where
  -- if some number is left above the tree, it is above each of its nodes
  node_room : (A : Above) (d : ℕ) (x : Tree) → Limits P A d x → ((t : ℕ) → Room P A t) → (i : NodeOf x) (t : ℕ) → Room P (above_node A x i) t
  unfolding Limits
  node_room A d (leaf l) h r i t = r t
  node_room A d (fork f x y) h r (inl i) t = r t
  node_room A d (fork f x y) h r (inr (inl i)) t = node_room (side f false A) (suc d) x h.2 (side_leaves P unit A f h.0 false r) i t
  node_room A d (fork f x y) h r (inr (inr i)) t = node_room (side f true A) (suc d) y h.3 (side_leaves P unit A f h.0 true r) i t

  root_room : (t : ℕ) → Room P root t
  root_room t = (omega arith, omega arith)

  -- above every node of a tree within its limits some number of running units is left for every period
  pub node_possible : (x : Tree) → Limits P root 0 x → (i : NodeOf x) (t : ℕ) → 1 ≤ possible P (above_node root x i) t
  node_possible x h i t = some_left P (above_node root x i) t (node_room root 0 x h root_room i t)

  -- those that are left are so many in a row, from the lower count
  pub node_numbers : (x : Tree) → Limits P root 0 x → (i : NodeOf x) (t n : ℕ) → Possible P (above_node root x i) t n
      ↔ (((above_node root x i).least t ≤ n) × (n < (above_node root x i).least t + possible P (above_node root x i) t))
  node_numbers x h i t n = numbers_left P (above_node root x i) t (node_room root 0 x h root_room i t) n

  counts_fewer : (A : Above) (d : ℕ) (x : Tree) → Limits P A d x → ((t : ℕ) → Room P A t) → (i : LeafOf x) (t : ℕ) → counts_above x i t < possible P A t
  unfolding Limits
  counts_fewer A d (leaf l) h r i t = omega (arith, some_left P A t (r t))
  counts_fewer A d (fork f x y) h r (inl i) t =
      omega (arith, side_narrows P unit A f h.0 false t, counts_fewer (side f false A) (suc d) x h.2 (side_leaves P unit A f h.0 false r) i t)
  counts_fewer A d (fork f x y) h r (inr i) t =
      omega (arith, side_narrows P unit A f h.0 true t, counts_fewer (side f true A) (suc d) y h.3 (side_leaves P unit A f h.0 true r) i t)

  -- at most as many counts of a period as there are units stand above a leaf
  pub counts_within : (x : Tree) → Limits P root 0 x → (i : LeafOf x) (t : ℕ) → counts_above x i t ≤ length P.units
  counts_within x h i t = omega (arith, root_possible P t, counts_fewer root 0 x h root_room i t)
