-- The premises of the laws on trees and on judging can be met: one unit and one period, computed.
use mathlib.Core.Path.{◌≡◌, refl}
use mathlib.Core.Bool.{true}
use mathlib.Core.List.{[], ◌∷◌}
use Prim.Native.Nat.{ℕ}
use lib.Dec.{lit<, lit≤}
use lib.IntN.{pos}
use lib.Signed.{◌≤ℤ◌}
use Rattle.model.specs.declared.generator.Generator.{Generator}
use Rattle.model.specs.Instance.{Instance, Schedule}
use Rattle.model.specs.Rules.{output, capacity, MeetsPrinted, Meets}
use Rattle.model.specs.Cost.{row_cost, cost}
use Rattle.model.specs.Above.{root, status}
use Rattle.model.specs.Breach.{Breach, first_breach}
use Rattle.model.specs.Leaf.{usable, available, rows_of, is_stuck, revenue, value, unit_least, units_least, requirement, leaf_value}
use Rattle.std.specs.Prelude.{None as never, Some as number}
use Rattle.model.specs.Tree.{short, stuck, price, Tree, leaf, fork, GoodLeaf, LeafHolds, leaf_bound, Limits, Holds, bound}
use Rattle.model.specs.Broken.{Broken, Lower}
use Rattle.model.specs.Agreement.{OneLeaf}
use Rattle.model.proofs.Soundness.{number_sound, never_sound}
use Rattle.model.proofs.Leaves.{one_leaf}
use Rattle.model.proofs.Judging.{judge_none, judge_some}

-- on before period 1, from 1 to 3 when on, 1 + 2·p a period; it may go off only after TU periods on
abbrev unit : ℕ → Generator
unit TU = record {
  a = 1;
  b = 2;
  c = 0;
  pL = 1;
  pU = 3;
  TU = TU;
  TD = 1;
  on = true;
  since = 1;
  DR = 1;
  UR = 1;
  Hsc = 0;
  Csc = 0;
  Tcold = 0;
  Dc = 0;
  p0 = 1;
}

-- one period, D being 2
abbrev problem : ℕ → ℕ → Instance
problem R TU = record { periods = 1; demand = 2 ∷ []; spare = R ∷ []; units = unit TU ∷ [] }

abbrev free_to_stop : Instance
free_to_stop = problem 1 1

abbrev bound_to_run : Instance
bound_to_run = problem 1 2

-- D + R is above the unit's pU
abbrev too_much : Instance
too_much = problem 2 1

-- the price meets the slope, so that the bound is the cost; the reserve's multiplier counts R in
abbrev priced : Tree
priced = leaf (price (2 ∷ []) (1 ∷ []))

abbrev output_two : Schedule
output_two = (2 ∷ []) ∷ []

-- ---- a number: a short leaf, a stuck leaf, a price leaf

priced_limits : Limits free_to_stop root 0 (fork (status 0 0) (leaf (short 0)) priced)
unfolding Limits GoodLeaf
priced_limits = ((lit< tt, lit< tt, refl), lit≤ tt, lit< tt, ((refl, ((lit≤ tt, lit≤ tt), tt)), (refl, ((lit≤ tt, lit≤ tt), tt))))

priced_holds : Holds free_to_stop root (fork (status 0 0) (leaf (short 0)) priced)
unfolding Holds LeafHolds available usable is_stuck
priced_holds = ((lit< tt, lit< tt), tt)

priced_bound : bound free_to_stop root (fork (status 0 0) (leaf (short 0)) priced) ≡ number (pos 5)
unfolding bound leaf_bound leaf_value units_least unit_least rows_of value revenue requirement row_cost
priced_bound = refl

stuck_holds : Holds bound_to_run root (fork (status 0 0) (leaf (stuck 0)) priced)
unfolding Holds LeafHolds is_stuck
stuck_holds = (tt, tt)

-- and a schedule that meets the rules, at that cost
two_meets : Meets free_to_stop output_two
unfolding first_breach output capacity
two_meets = (judge_none free_to_stop output_two (refl, (refl, tt))).0 refl

two_costs : cost free_to_stop output_two ≡ 5
unfolding cost row_cost
two_costs = refl

two_at_least : (s : Schedule) → MeetsPrinted free_to_stop s → pos 5 ≤ℤ pos (cost free_to_stop s)
two_at_least = number_sound free_to_stop (fork (status 0 0) (leaf (short 0)) priced) priced_holds (pos 5) priced_bound

two_leaf : OneLeaf root (fork (status 0 0) (leaf (short 0)) priced) output_two
two_leaf = one_leaf free_to_stop (fork (status 0 0) (leaf (short 0)) priced) priced_limits output_two

-- ---- never

short_holds : Holds too_much root (leaf (short 0))
unfolding Holds LeafHolds available usable
short_holds = (lit< tt, lit< tt)

short_bound : bound too_much root (leaf (short 0)) ≡ never
unfolding bound leaf_bound
short_bound = refl

none_meets : (s : Schedule) → MeetsPrinted too_much s → ⊥
none_meets = never_sound too_much (leaf (short 0)) short_holds short_bound

-- ---- a first breach: output 1 is under D

abbrev under : Breach
under = record { number = 22; unit = 0; period = 1 }

one_under : Broken free_to_stop ((1 ∷ []) ∷ []) under
    × ((c : Breach) → Lower c under → Broken free_to_stop ((1 ∷ []) ∷ []) c → ⊥)
unfolding first_breach output capacity
one_under = (judge_some free_to_stop ((1 ∷ []) ∷ []) under).0 refl
