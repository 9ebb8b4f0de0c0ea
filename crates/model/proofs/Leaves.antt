-- A schedule agrees with exactly one leaf of a tree within its limits: go down each fork by the side that the schedule takes.
-- What agrees with a leaf off that way agrees with both sides of the fork where it leaves it, which is good.
use mathlib.Core.Path.{◌≡◌, refl, ap}
use mathlib.Core.Bool.{Bool, true, false, cond}
use mathlib.Core.Logic.{inl, inr}
use Prim.Native.Nat.{ℕ, suc}
use Rattle.model.specs.Instance.{Instance, Schedule}
use Rattle.model.specs.Above.{Above, root, side}
use Rattle.model.specs.Tree.{Tree, leaf, fork, Limits}
use Rattle.model.specs.Agreement.{Agrees, takes, LeafOf, above, OneLeaf}
use Rattle.model.proofs.Sides.{agrees_root, side_agrees, side_only}

-- what agrees with a leaf agrees with all above it
pub agrees_above : (P : Instance) (s : Schedule) (A : Above) (d : ℕ) (t : Tree) → Limits P A d t → (i : LeafOf t) → Agrees (above A t i) s → Agrees A s
unfolding Limits
agrees_above P s A d (leaf l) h i a = a
agrees_above P s A d (fork f x y) h (inl i) a = (side_only P A s f false h.0 (agrees_above P s (side f false A) (suc d) x h.2 i a)).0
agrees_above P s A d (fork f x y) h (inr i) a = (side_only P A s f true h.0 (agrees_above P s (side f true A) (suc d) y h.3 i a)).0

-- the leaf to which the sides that the schedule takes lead
abbrev pub leaf_of : Schedule → (t : Tree) → LeafOf t
leaf_of s (leaf l) = tt
leaf_of s (fork f x y) = cond (takes f s) (inr (leaf_of s y)) (inl (leaf_of s x))

pub leaf_agrees : (s : Schedule) (A : Above) (t : Tree) → Agrees A s → Agrees (above A t (leaf_of s t)) s
leaf_agrees s A (leaf l) h = h
leaf_agrees s A (fork f x y) h = go (takes f s) (side_agrees A s h f) (leaf_agrees s (side f false A) x) (leaf_agrees s (side f true A) y)
  where
    go : (b : Bool) → Agrees (side f b A) s
        → (Agrees (side f false A) s → Agrees (above (side f false A) x (leaf_of s x)) s)
        → (Agrees (side f true A) s → Agrees (above (side f true A) y (leaf_of s y)) s)
        → Agrees (above A (fork f x y) (cond b (inr (leaf_of s y)) (inl (leaf_of s x)))) s
    go true a p q = q a
    go false a p q = p a

pub leaf_only : (P : Instance) (s : Schedule) (A : Above) (d : ℕ) (t : Tree) → Limits P A d t → (i : LeafOf t) → Agrees (above A t i) s → i ≡ leaf_of s t
unfolding Limits
leaf_only P s A d (leaf l) h i a = refl
leaf_only P s A d (fork f x y) h (inl i) a =
    rw (side_only P A s f false h.0 (agrees_above P s (side f false A) (suc d) x h.2 i a)).1 (ap inl (leaf_only P s (side f false A) (suc d) x h.2 i a))
leaf_only P s A d (fork f x y) h (inr i) a =
    rw (side_only P A s f true h.0 (agrees_above P s (side f true A) (suc d) y h.3 i a)).1 (ap inr (leaf_only P s (side f true A) (suc d) y h.3 i a))

-- a schedule agrees with one leaf of a tree within its limits, and with no other
pub one_leaf : (P : Instance) (t : Tree) → Limits P root 0 t → (s : Schedule) → OneLeaf root t s
one_leaf P t h s = record {
  which = leaf_of s t;
  agrees = leaf_agrees s root t (agrees_root s);
  only = leaf_only P s root 0 t h;
}
