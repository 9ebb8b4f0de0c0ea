-- What a leaf says of a schedule that meets the rules and agrees with what stands above the leaf.
use Prim.Native.Nat.{ℕ}
use lib.IntN.{pos}
use lib.Signed.{◌≤ℤ◌}
use Rattle.model.specs.Instance.{Instance, Schedule, ◌at◌}
use Rattle.model.specs.Rules.{MeetsPrinted}
use Rattle.model.specs.Cost.{cost}
use Rattle.model.specs.Above.{Above}
use Rattle.model.specs.Ramps.{ups, downs}
use Rattle.model.specs.Figures.{Bound}
use Rattle.std.specs.Prelude.{None as never, Some as number}
use Rattle.model.specs.Tree.{Leaf, short, crowd, stuck, price, ramp, LeafHolds, leaf_bound}
use Rattle.model.specs.Agreement.{Agrees}
use Rattle.model.proofs.Duality.{leaf_below, stuck_excludes}
use Rattle.model.proofs.RampLeaf.{ramp_below}
use Rattle.model.proofs.Capacities.{short_excludes, crowd_excludes}

-- what a bound says of a cost: a number is at most it, and never rules it out
abbrev pub Below : Bound → ℕ → Type 0
Below never c = ⊥
Below (number z) c = z ≤ℤ pos c

pub leaf_sound : (P : Instance) (s : Schedule) → MeetsPrinted P s → (A : Above) → Agrees A s → (l : Leaf) → LeafHolds P A l
    → Below (leaf_bound P A l) (cost P s)
unfolding LeafHolds leaf_bound
leaf_sound P s M A h (short t) k = short_excludes P s M A h t k.0 k.1
leaf_sound P s M A h (crowd t) k = crowd_excludes P s M A h t k.1
leaf_sound P s M A h (stuck U) k = stuck_excludes P s M A h U k
leaf_sound P s M A h (price q r) k = leaf_below P s M A h (λ t. q at t) (λ t. r at t)
leaf_sound P s M A h (ramp q r l) k = ramp_below P s M A h (λ t. q at t) (λ t. r at t) (ups l) (downs l)
