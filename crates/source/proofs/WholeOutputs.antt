-- The paper's p is continuous, the model's is whole, and the least costs differ: two units of cost p·p, from 1 to 3, with a demand of 3.
use mathlib.Core.Path.{◌≡◌, refl}
use mathlib.Core.Bool.{true}
use mathlib.Core.List.{List, [], ◌∷◌}
use Prim.Native.Nat.{ℕ, zero, suc, ◌+◌, ◌*◌, ◌≤◌, ◌<◌}
use native.Mathlib.Nat.{mul-le-mul}
use native.Mathlib.Omega.{arith}
use lib.Dec.{lit<, lit≤}
use lib.ListN.{length}
use lib.IntN.{pos}
use Rattle.model.specs.declared.generator.Generator.{Generator}
use Rattle.model.specs.Instance.{Instance, Schedule, ◌at◌, Each}
use Rattle.model.specs.Rules.{Within, output, capacity, Row, MeetsPrinted, Meets}
use Rattle.model.specs.Cost.{row_cost, cost}
use Rattle.model.specs.Above.{root}
use Rattle.model.specs.Leaf.{rows_of, is_stuck, revenue, value, unit_least, units_least, requirement, leaf_value}
use Rattle.std.specs.Prelude.{Some as number}
use Rattle.model.specs.Tree.{price, leaf, LeafHolds, leaf_bound, Holds, bound}
use Rattle.source.specs.Least.{LeastCost}

abbrev square : Generator
square = record { a = 0; b = 0; c = 1; pL = 1; pU = 3; TU = 1; TD = 1; on = true; since = 1; DR = 3; UR = 3; Hsc = 0; Csc = 0; Tcold = 0; Dc = 0; p0 = 2 }

abbrev pub squares : Instance
squares = record { periods = 1; demand = 3 ∷ []; spare = 0 ∷ []; units = square ∷ (square ∷ []) }

-- ---- the least whole cost is 5, of the outputs 1 and 2

cost_of : (p q : ℕ) → cost squares ((p ∷ []) ∷ ((q ∷ []) ∷ [])) ≡ p * p + q * q
unfolding cost row_cost
cost_of zero zero = refl
cost_of zero (suc q) = omega arith
cost_of (suc p) zero = omega arith
cost_of (suc p) (suc q) = omega arith

demand_of : (p q : ℕ) → MeetsPrinted squares ((p ∷ []) ∷ ((q ∷ []) ∷ [])) → 3 ≤ p + q
unfolding output
demand_of p q M = omega (arith, M.meets_demand 0 (lit< tt))

squared : (k p : ℕ) → k ≤ p → k * k ≤ p * p
squared k p l = mul-le-mul l l

five : (p q : ℕ) → 3 ≤ p + q → 5 ≤ p * p + q * q
five zero q l = omega (arith, squared 3 q (omega arith))
five (suc zero) q l = omega (arith, squared 2 q (omega arith))
five (suc (suc zero)) q l = omega (arith, squared 1 q (omega arith))
five (suc (suc (suc p))) q l = omega (arith, squared 3 (suc (suc (suc p))) (omega arith))

whole_below : (s : Schedule) → Each (Row 1) squares.units s → MeetsPrinted squares s → 5 ≤ cost squares s
whole_below [] w M = absurd w
whole_below (r ∷ []) w M = absurd w.1
whole_below (r ∷ (r' ∷ (x ∷ s))) w M = absurd w.1.1
whole_below (r ∷ (r' ∷ [])) w M = go r r' w.0.long w.1.0.long M
  where
    go : (r r' : List ℕ) → length r ≡ 1 → length r' ≡ 1 → MeetsPrinted squares (r ∷ (r' ∷ [])) → 5 ≤ cost squares (r ∷ (r' ∷ []))
    go [] r' e e' M = absurd (omega arith)
    go (p ∷ (x ∷ r)) r' e e' M = absurd (omega arith)
    go (p ∷ []) [] e e' M = absurd (omega arith)
    go (p ∷ []) (q ∷ (x ∷ r)) e e' M = absurd (omega arith)
    go (p ∷ []) (q ∷ []) e e' M = omega (arith, cost_of p q, five p q (demand_of p q M))

abbrev best : Schedule
best = (1 ∷ []) ∷ ((2 ∷ []) ∷ [])

best_row : (p : ℕ) → suc p ≤ 3 → Row 1 square (suc p ∷ [])
best_row p l = record { long = refl; limits = limits; updown = tt; ramps = λ t m. absurd (omega arith) }
  where
    limits : (t : ℕ) → t < 1 → Within square ((suc p ∷ []) at t)
    limits zero m h = (omega arith, l)
    limits (suc t) m h = absurd (omega arith)

-- 1 and 2, from 2 at midnight
best_meets : Meets squares best
unfolding output capacity
best_meets = record {
  printed = record { rows = (best_row 0 (lit≤ tt), (best_row 1 (lit≤ tt), tt)); meets_demand = demand; meets_spare = spare };
  midnight = (λ b d. record { rise = lit≤ tt; fall = lit≤ tt }, (λ b d. record { rise = lit≤ tt; fall = lit≤ tt }, tt));
}
  where
    demand : (t : ℕ) → t < 1 → squares.demand at t ≤ output squares best t
    demand zero l = lit≤ tt
    demand (suc t) l = absurd (omega arith)

    spare : (t : ℕ) → t < 1 → squares.demand at t + squares.spare at t ≤ capacity squares best t
    spare zero l = lit≤ tt
    spare (suc t) l = absurd (omega arith)

pub whole_least : LeastCost (Meets squares) (cost squares) 5
whole_least = record { s = best; meets = best_meets; value = cost_of 1 2; least = λ s M. whole_below s M.printed.rows M.printed }

-- a tree's bound says so, too: a price leaf of 3
pub whole_holds : Holds squares root (leaf (price (3 ∷ []) (0 ∷ [])))
unfolding Holds LeafHolds is_stuck
whole_holds = tt

pub whole_bound : bound squares root (leaf (price (3 ∷ []) (0 ∷ []))) ≡ number (pos 5)
unfolding bound leaf_bound leaf_value units_least unit_least rows_of value revenue requirement row_cost
whole_bound = refl

-- ---- in halves, 3 and 3 are within 2 and 6, meet a demand of 6, and cost 18 quarters, less than 5

pub halves : (2 ≤ 3) × (3 ≤ 6) × (6 ≤ 3 + 3) × (3 * 3 + 3 * 3 < 4 * 5)
halves = (lit≤ tt, lit≤ tt, lit≤ tt, lit< tt)
