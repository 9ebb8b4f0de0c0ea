-- A tree's bound is sound: a schedule that meets the rules agrees with the side that it takes of each fork, so by induction with a leaf,
-- and there the leaf's law says it.
use mathlib.Core.Path.{◌≡◌, subst}
use mathlib.Core.Bool.{Bool, true, false}
use Prim.Native.Nat.{ℕ}
use lib.IntN.{ℤ, pos}
use lib.Signed.{◌≤ℤ◌}
use Rattle.model.specs.Instance.{Instance, Schedule}
use Rattle.model.specs.Rules.{MeetsPrinted}
use Rattle.model.specs.Cost.{cost}
use Rattle.model.specs.Above.{Above, root, side}
use Rattle.model.specs.Leaf.{minℤ}
use Rattle.model.specs.Figures.{Bound}
use Rattle.std.specs.Prelude.{None as never, Some as number}
use Rattle.model.specs.Figures.{lower}
use Rattle.model.specs.Tree.{Tree, leaf, fork, Holds, bound}
use Rattle.model.specs.Agreement.{Agrees, takes}
use Rattle.model.proofs.Integers.{≤ℤ-trans, min_left, min_right}
use Rattle.model.proofs.Sides.{agrees_root, side_agrees}
use Rattle.model.proofs.LeafSound.{leaf_sound}
pub use Rattle.model.proofs.LeafSound.{Below}

pub lower_left : (x y : Bound) (c : ℕ) → Below x c → Below (lower x y) c
lower_left never y c h = absurd h
lower_left (number v) never c h = h
lower_left (number v) (number w) c h = ≤ℤ-trans (minℤ v w) v (pos c) (min_left v w) h

pub lower_right : (x y : Bound) (c : ℕ) → Below y c → Below (lower x y) c
lower_right never y c h = h
lower_right (number v) never c h = absurd h
lower_right (number v) (number w) c h = ≤ℤ-trans (minℤ v w) w (pos c) (min_right v w) h

-- of any tree below A whose leaves hold
pub sound_from : (P : Instance) (s : Schedule) → MeetsPrinted P s → (A : Above) → Agrees A s → (t : Tree) → Holds P A t
    → Below (bound P A t) (cost P s)
unfolding Holds bound
sound_from P s M A h (leaf l) k = leaf_sound P s M A h l k
sound_from P s M A h (fork f x y) k =
    go (takes f s) (side_agrees A s h f) (λ a. sound_from P s M (side f false A) a x k.0) (λ a. sound_from P s M (side f true A) a y k.1)
  where
    X : Bound
    X = bound P (side f false A) x

    Y : Bound
    Y = bound P (side f true A) y

    go : (b : Bool) → Agrees (side f b A) s → (Agrees (side f false A) s → Below X (cost P s)) → (Agrees (side f true A) s → Below Y (cost P s))
        → Below (lower X Y) (cost P s)
    go false a ihx ihy = lower_left X Y (cost P s) (ihx a)
    go true a ihx ihy = lower_right X Y (cost P s) (ihy a)

module _ (P : Instance) (t : Tree) (holds : Holds P root t) where
  pub sound : (s : Schedule) → MeetsPrinted P s → Below (bound P root t) (cost P s)
  sound s M = sound_from P s M root (agrees_root s) t holds

  -- every schedule that meets the rules costs at least the bound
  pub number_sound : (z : ℤ) → bound P root t ≡ number z → (s : Schedule) → MeetsPrinted P s → z ≤ℤ pos (cost P s)
  number_sound z e s M = subst (λ (b : Bound). Below b (cost P s)) e (sound s M)

  -- a tree that gives never leaves none
  pub never_sound : bound P root t ≡ never → (s : Schedule) → MeetsPrinted P s → ⊥
  never_sound e s M = subst (λ (b : Bound). Below b (cost P s)) e (sound s M)
