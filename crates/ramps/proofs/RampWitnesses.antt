-- Document 02, [6]: ramp leaves are worth something. Of one problem whose least cost is 18 no tree without them gives more than 12, the cost of rows that
-- break a ramp alone, and one ramp leaf gives 18.
use mathlib.Core.Path.{◌≡◌, refl, ap}
use mathlib.Core.Bool.{true}
use mathlib.Core.List.{List, [], ◌∷◌}
use Prim.Native.Nat.{ℕ}
use lib.IntN.{ℤ, pos}
use lib.ListN.{get_or}
use lib.Signed.{◌≤ℤ◌}
use Rattle.model.specs.Instance.{Schedule}
use Rattle.model.specs.Rules.{output, capacity, MeetsPrinted, Meets}
use Rattle.model.specs.Cost.{row_cost, cost}
use Rattle.model.specs.Breach.{first_breach}
use Rattle.model.specs.Above.{root, status, side}
use Rattle.model.specs.Leaf.{is_stuck, leaf_value}
use Rattle.model.specs.Figures.{Bound}
use Rattle.std.specs.Prelude.{None as never, Some as number}
use Rattle.model.specs.Tree.{price, Tree, LeafHolds, leaf_bound, Holds, bound}
use Rattle.ramps.specs.Loosened.{loosened, Plain}
use Rattle.model.specs.Examples.{rows}
use Rattle.model.specs.RampExamples.{rising, halves, dear, in_rise, closed_gap}
use Rattle.model.proofs.Judging.{judge_none}
use Rattle.model.proofs.Sides.{agrees_root, side_agrees}
use Rattle.model.proofs.Soundness.{Below, number_sound}
use Rattle.ramps.proofs.Loosened.{price_below, plain_below}

-- ---- without ramp leaves

-- unit 1 rises from 2 to 10, where UR is 2
abbrev steep : Schedule
steep = rows (2 ∷ 10 ∷ []) (0 ∷ 0 ∷ [])

steep_meets : MeetsPrinted (loosened rising) steep
unfolding first_breach output capacity
steep_meets = ((judge_none (loosened rising) steep (refl, (refl, (refl, tt)))).0 refl).printed

steep_costs : cost rising steep ≡ 12
unfolding cost row_cost
steep_costs = refl

-- with unit 1 on in period 1, whatever the multipliers
pub price_leaf_low : (q s : ℕ → ℕ) → leaf_value rising (side (status 0 0) true root).marks q s ≤ℤ pos 12
price_leaf_low q s = rw steep_costs at (price_below rising steep steep_meets (side (status 0 0) true root) (side_agrees root steep (agrees_root steep) (status 0 0)) q s)

-- any tree
pub plain_tree_low : (t : Tree) → Plain t → Holds rising root t → Below (bound rising root t) 12
plain_tree_low t p h = rw steep_costs at (plain_below rising t p h steep steep_meets)

-- two price leaves under a split on unit 1 in period 1
pub price_halves_low : (q s q' s' : List ℕ) → (v : ℤ) × (bound rising root (halves (price q s) (price q' s')) ≡ number v) × (v ≤ℤ pos 12)
unfolding bound leaf_bound Holds LeafHolds is_stuck
price_halves_low q s q' s' = (_, refl, plain_tree_low (halves (price q s) (price q' s')) (tt, tt) (tt, tt))

-- ---- with one

abbrev gentle : Schedule
gentle = rows (8 ∷ 10 ∷ []) (0 ∷ 0 ∷ [])

-- its leaves hold and it gives 18, which a schedule that meets the rules costs
ramp_halves_hold : Holds rising root (halves dear (in_rise 1))
unfolding Holds LeafHolds is_stuck
ramp_halves_hold = (tt, tt)

pub ramp_halves_close : (bound rising root (halves dear (in_rise 1)) ≡ number (pos 18)) × Meets rising gentle × (cost rising gentle ≡ 18)
unfolding first_breach output capacity cost row_cost
ramp_halves_close = (
  ap (λ (l : List Bound). get_or l 0 never) closed_gap.0,
  (judge_none rising gentle (refl, (refl, (refl, tt)))).0 refl,
  refl,
)

-- so 18 is the least cost
pub rising_least : (s : Schedule) → MeetsPrinted rising s → pos 18 ≤ℤ pos (cost rising s)
rising_least = number_sound rising (halves dear (in_rise 1)) ramp_halves_hold (pos 18) ramp_halves_close.0
