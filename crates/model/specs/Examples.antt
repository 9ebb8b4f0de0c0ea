-- Document 01, Specimens: what the definitions of problems, rules and costs give on numbers. Every line is found by computing.
use Rattle.std.specs.Prelude.{◌≡◌, refl, Bool, true, false, List, [], ◌∷◌, map, ℕ, pos, neg_ℤ, replicate}
use Rattle.std.proofs.Math.Option.{Option, none, some}
use Rattle.model.specs.declared.generator.Generator.{Generator}
use Rattle.model.specs.Instance.{Instance, Schedule, Tini}
use Rattle.model.specs.Ranges.{costs_in_range, outputs_in_range, times_in_range, in_range, midnight_ordered, ordered}
use Rattle.model.specs.Held.{view, held, pad}
use Rattle.model.specs.Rules.{if_on, output, capacity, keeps}
use Rattle.model.specs.Cost.{fuel_cost, row_cost, cost}
use Rattle.model.specs.Breach.{Breach, off_limits, off_ramp, first_breach}

-- ---- what the examples are about

-- the numbers of a unit line in document 01's order, Tini being a status and a number of periods
abbrev pub line : ℕ → ℕ → ℕ → ℕ → ℕ → ℕ → ℕ → Bool → ℕ → ℕ → ℕ → ℕ → ℕ → ℕ → ℕ → ℕ → Generator
line a b c pL pU TU TD status k DR UR Hsc Csc Tcold Dc p0 = record {
  a = a;
  b = b;
  c = c;
  pL = pL;
  pU = pU;
  TU = TU;
  TD = TD;
  on = status;
  since = k;
  DR = DR;
  UR = UR;
  Hsc = Hsc;
  Csc = Csc;
  Tcold = Tcold;
  Dc = Dc;
  p0 = p0;
}

-- the problem of document 01, with 60 and 0 at midnight (document 02, [3]), and the same with another spare R in both periods
abbrev pub unit1 : Generator
unit1 = line 100 10 0 20 80 2 2 true 3 30 30 50 90 1 5 60

abbrev pub unit2 : Generator
unit2 = line 40 14 0 10 50 1 1 false 2 50 50 20 60 0 0 0

abbrev pub with_spare : ℕ → Instance
with_spare R = record { periods = 2; demand = 60 ∷ 100 ∷ []; spare = R ∷ R ∷ []; units = unit1 ∷ unit2 ∷ [] }

abbrev pub example : Instance
example = with_spare 10

abbrev pub rows : List ℕ → List ℕ → Schedule
rows r r' = r ∷ r' ∷ []

abbrev pub breach : ℕ → ℕ → ℕ → Option Breach
breach n u t = some (record { number = n; unit = u; period = t })

-- a unit for which only times count: outputs 1 to 9, at midnight 5 if it was on, hot start 20, cold start 60, stop 5
abbrev pub timed : ℕ → ℕ → ℕ → Bool → ℕ → Generator
timed TU TD Tcold status k = line 0 0 0 1 9 TU TD status k 9 9 20 60 Tcold 5 (if_on status 5)

-- one that may not go off for nine periods and ramps by 1 from 1; one with the cost 5·p·p, ramps by 1, a hot start of 20, a cold one of 90
abbrev pub slow : Generator
slow = line 0 0 0 1 9 9 1 true 1 1 1 0 0 0 0 1

abbrev pub square : ℕ → ℕ → Bool → ℕ → Generator
square pL pU status k = line 0 0 5 pL pU 1 1 status k 1 1 20 90 0 0 (if_on status pL)

-- outputs 20 to 99, DR 20 and UR 30; nothing is asked in any period
abbrev pub from_midnight : Bool → ℕ → Generator
from_midnight status p0 = line 0 0 0 20 99 1 1 status 1 20 30 0 0 0 0 p0

abbrev pub periods_of : ℕ → List Generator → Instance
periods_of T gs = record { periods = T; demand = replicate T 0; spare = replicate T 0; units = gs }

-- three periods, demand and spare in the last one alone
abbrev pub three : ℕ → ℕ → List Generator → Instance
three D R gs = record { periods = 3; demand = 0 ∷ 0 ∷ D ∷ []; spare = 0 ∷ 0 ∷ R ∷ []; units = gs }

-- ---- Instance, Ranges, Held

-- Tini has a minus for a unit that has been off
signs : map Tini (unit1 ∷ unit2 ∷ []) ≡ pos 3 ∷ neg_ℤ (pos 2) ∷ []
signs = refl

-- every number at its least, every number at its most; Tini 1 and -1,000
abbrev pub at_ends : List Generator
at_ends =
    line 0 0 0 1 1 1 1 false 1 1 1 0 0 0 0 0
    ∷ line 1000000000 10000000 10000 10000 10000 48 48 true 1000 10000 10000 1000000000 1000000000 48 1000000000 10000
    ∷ line 0 0 0 1 1 1 1 true 1 1 1 0 0 0 0 1 ∷ line 0 0 0 1 1 1 1 false 1000 1 1 0 0 0 0 0 ∷ []

-- one below its least, in the line's order: pL, pU, TU, TD, Tini, DR, UR; then each of the fifteen one above its most, Tini with either sign
abbrev pub beyond_ends : List Generator
beyond_ends =
    line 0 0 0 0 1 1 1 true 1 1 1 0 0 0 0 0 ∷ line 0 0 0 1 0 1 1 true 1 1 1 0 0 0 0 1 ∷ line 0 0 0 1 1 0 1 true 1 1 1 0 0 0 0 1
    ∷ line 0 0 0 1 1 1 0 true 1 1 1 0 0 0 0 1 ∷ line 0 0 0 1 1 1 1 true 0 1 1 0 0 0 0 1 ∷ line 0 0 0 1 1 1 1 true 1 0 1 0 0 0 0 1
    ∷ line 0 0 0 1 1 1 1 true 1 1 0 0 0 0 0 1
    ∷ line 1000000001 0 0 1 1 1 1 true 1 1 1 0 0 0 0 1 ∷ line 0 10000001 0 1 1 1 1 true 1 1 1 0 0 0 0 1
    ∷ line 0 0 10001 1 1 1 1 true 1 1 1 0 0 0 0 1 ∷ line 0 0 0 10001 1 1 1 true 1 1 1 0 0 0 0 1 ∷ line 0 0 0 1 10001 1 1 true 1 1 1 0 0 0 0 1
    ∷ line 0 0 0 1 1 49 1 true 1 1 1 0 0 0 0 1 ∷ line 0 0 0 1 1 1 49 true 1 1 1 0 0 0 0 1 ∷ line 0 0 0 1 1 1 1 true 1001 1 1 0 0 0 0 1
    ∷ line 0 0 0 1 1 1 1 false 1001 1 1 0 0 0 0 0
    ∷ line 0 0 0 1 1 1 1 true 1 10001 1 0 0 0 0 1 ∷ line 0 0 0 1 1 1 1 true 1 1 10001 0 0 0 0 1 ∷ line 0 0 0 1 1 1 1 true 1 1 1 1000000001 0 0 0 1
    ∷ line 0 0 0 1 1 1 1 true 1 1 1 0 1000000001 0 0 1 ∷ line 0 0 0 1 1 1 1 true 1 1 1 0 0 49 0 1
    ∷ line 0 0 0 1 1 1 1 true 1 1 1 0 0 0 1000000001 1 ∷ line 0 0 0 1 1 1 1 true 1 1 1 0 0 0 0 10001 ∷ []

range_ends : (map in_range at_ends ≡ replicate 4 true) × (map in_range beyond_ends ≡ replicate 23 false)
unfolding in_range costs_in_range outputs_in_range times_in_range
range_ends = (refl, refl)

-- pL = pU and Hsc = Csc; pL above pU; Hsc above Csc
order_ties : map ordered (
    line 0 0 0 5 5 1 1 true 1 1 1 7 7 0 0 5 ∷ line 0 0 0 6 5 1 1 true 1 1 1 7 7 0 0 6 ∷ line 0 0 0 5 5 1 1 true 1 1 1 8 7 0 0 5 ∷ []) ≡ true ∷ false ∷ false ∷ []
unfolding ordered midnight_ordered
order_ties = refl

-- document 02, [3]: one below pL, pL, pU, one above pU and 0 for a unit on before; 0 and 1 for one off before
midnight_ends : (map (λ p0. ordered (from_midnight true p0)) (19 ∷ 20 ∷ 99 ∷ 100 ∷ 0 ∷ []) ≡ false ∷ true ∷ true ∷ false ∷ false ∷ [])
    × (map (λ p0. ordered (from_midnight false p0)) (0 ∷ 1 ∷ []) ≡ true ∷ false ∷ [])
unfolding ordered midnight_ordered
midnight_ends = (refl, refl)

-- the arrays give back the problem put into them
there_and_back : view (held example) ≡ example
unfolding view held pad
there_and_back = refl

-- ---- Rules and Breach

-- document 01, Specimens: two that break nothing (sums equal to D, a rise of just UR); a rise of 31; 1 short of D; 1 below pL
specimens_judged : map (first_breach example) (
    rows (60 ∷ 80 ∷ []) (0 ∷ 20 ∷ []) ∷ rows (50 ∷ 80 ∷ []) (10 ∷ 20 ∷ []) ∷ rows (49 ∷ 80 ∷ []) (11 ∷ 20 ∷ [])
    ∷ rows (59 ∷ 80 ∷ []) (0 ∷ 20 ∷ []) ∷ rows (60 ∷ 80 ∷ []) (0 ∷ 9 ∷ []) ∷ []) ≡ none ∷ none ∷ breach 25 1 2 ∷ breach 22 0 1 ∷ breach 21 2 2 ∷ []
unfolding first_breach output capacity
specimens_judged = refl

-- (4): off, below pL, pL, pU, above pU
limit_ends : map (λ p. off_limits 0 unit1 (p ∷ [])) (0 ∷ 19 ∷ 20 ∷ 80 ∷ 81 ∷ []) ≡ false ∷ true ∷ false ∷ false ∷ true ∷ []
limit_ends = refl

-- (3): the pU of the units that are on, 80 in period 1, may equal D + R; the unit that is off does not help
spare_tie : map (λ R. first_breach (with_spare R) (rows (60 ∷ 80 ∷ []) (0 ∷ 20 ∷ []))) (20 ∷ 21 ∷ []) ≡ none ∷ breach 23 0 1 ∷ []
unfolding first_breach output capacity
spare_tie = refl

-- (11), (12) with DR 20 and UR 30: a rise of 30, of 31, a fall of 20, of 21, going on and going off with 80
ramp_ends : map (off_ramp 1 (line 0 0 0 1 99 1 1 true 1 20 30 0 0 0 0 1)) (
    (50 ∷ 80 ∷ []) ∷ (50 ∷ 81 ∷ []) ∷ (80 ∷ 60 ∷ []) ∷ (80 ∷ 59 ∷ []) ∷ (0 ∷ 80 ∷ []) ∷ (80 ∷ 0 ∷ []) ∷ []) ≡ false ∷ true ∷ false ∷ true ∷ false ∷ false ∷ []
ramp_ends = refl

-- document 02, [3], period 1 for a unit on before it: UR 30 from 30 at midnight, to 60 and to 61; DR 20 from 80, to 60 and to 59, and DR 30 with UR
-- 20, to 50 and to 49; off from 80; and one off before it with UR 1, to its pU
first_ramp_ends : map (λ (x : Generator × ℕ). off_ramp 0 x.0 (x.1 ∷ [])) (
    (from_midnight true 30, 60) ∷ (from_midnight true 30, 61) ∷ (from_midnight true 80, 60) ∷ (from_midnight true 80, 59)
    ∷ (line 0 0 0 20 99 1 1 true 1 30 20 0 0 0 0 80, 50) ∷ (line 0 0 0 20 99 1 1 true 1 30 20 0 0 0 0 80, 49)
    ∷ (from_midnight true 80, 0) ∷ (line 0 0 0 20 99 1 1 false 1 1 1 0 0 0 0 0, 99) ∷ [])
    ≡ false ∷ true ∷ false ∷ true ∷ false ∷ true ∷ false ∷ false ∷ []
first_ramp_ends = refl

-- .. and judged: with one period, to 60, to 61 and off; with a ramp of period 2 broken too, by the same unit and by one before it; and by two units
first_ramp_judged : map (λ (x : Instance × Schedule). first_breach x.0 x.1) (
    (periods_of 1 (from_midnight true 30 ∷ []), (60 ∷ []) ∷ []) ∷ (periods_of 1 (from_midnight true 30 ∷ []), (61 ∷ []) ∷ [])
    ∷ (periods_of 1 (from_midnight true 80 ∷ []), (0 ∷ []) ∷ [])
    ∷ (periods_of 2 (from_midnight true 30 ∷ []), (61 ∷ 20 ∷ []) ∷ [])
    ∷ (periods_of 2 (from_midnight true 30 ∷ from_midnight true 80 ∷ []), rows (20 ∷ 51 ∷ []) (49 ∷ 49 ∷ []))
    ∷ (periods_of 2 (from_midnight true 30 ∷ from_midnight true 80 ∷ []), rows (61 ∷ 61 ∷ []) (49 ∷ 49 ∷ [])) ∷ [])
    ≡ none ∷ breach 25 1 1 ∷ none ∷ breach 25 1 1 ∷ breach 25 2 1 ∷ breach 25 1 1 ∷ []
unfolding first_breach output capacity
first_ramp_judged = refl

-- document 01, Specimens: TD 3 and Tini -1, first on in period 2, in period 3, never
first_on : map (λ r. first_breach (three 0 0 (timed 1 3 0 false 1 ∷ [])) (r ∷ [])) ((0 ∷ 5 ∷ 5 ∷ []) ∷ (0 ∷ 0 ∷ 5 ∷ []) ∷ (0 ∷ 0 ∷ 0 ∷ []) ∷ []) ≡ breach 24 1 2 ∷ none ∷ none ∷ []
unfolding first_breach output capacity
first_on = refl

-- TU 3, TD 2 and Tini 2: first off in period 1, in period 2, and in period 2 with one period off
first_off : map (λ r. first_breach (three 0 0 (timed 3 2 0 true 2 ∷ [])) (r ∷ [])) ((0 ∷ 0 ∷ 0 ∷ []) ∷ (5 ∷ 0 ∷ 0 ∷ []) ∷ (5 ∷ 0 ∷ 5 ∷ []) ∷ []) ≡ breach 24 1 1 ∷ none ∷ breach 24 1 3 ∷ []
unfolding first_breach output capacity
first_off = refl

-- TU 2 and TD 2 inside the horizon: one period on, or off, is too few; two do; one at the end breaks nothing
inside : map (keeps (timed 2 2 0 false 9) false 9) (
    (true ∷ false ∷ []) ∷ (true ∷ true ∷ false ∷ true ∷ []) ∷ (true ∷ true ∷ false ∷ false ∷ true ∷ []) ∷ (true ∷ true ∷ false ∷ []) ∷ [])
    ≡ false ∷ false ∷ true ∷ true ∷ []
inside = refl

-- 25 in period 2 and 24 in period 3: the lower number; 23 before them; 22 before 23; 21 in period 2 before 22 in period 1
number_first : (map (λ P. first_breach P ((1 ∷ 5 ∷ 0 ∷ []) ∷ [])) (map (λ D. three D 1 (slow ∷ [])) (0 ∷ 1 ∷ [])) ≡ breach 23 0 3 ∷ breach 22 0 3 ∷ [])
    × (first_breach (three 0 0 (slow ∷ [])) ((1 ∷ 5 ∷ 0 ∷ []) ∷ []) ≡ breach 24 1 3) × (first_breach example (rows (59 ∷ 80 ∷ []) (0 ∷ 9 ∷ [])) ≡ breach 21 2 2)
unfolding first_breach output capacity
number_first = (refl, refl, refl)

-- of one number a lower period comes first, then a lower unit
period_then_unit : map (first_breach example) (rows (60 ∷ 81 ∷ []) (9 ∷ 20 ∷ []) ∷ rows (19 ∷ 80 ∷ []) (9 ∷ 20 ∷ []) ∷ []) ≡ breach 21 2 1 ∷ breach 21 1 1 ∷ []
unfolding first_breach output capacity
period_then_unit = refl

-- 24 too: unit 1 goes off too early in period 3, unit 2 goes on too early in period 2
first_not_permitted : first_breach (three 0 0 (timed 9 1 0 true 1 ∷ timed 1 3 0 false 1 ∷ [])) (rows (5 ∷ 5 ∷ 0 ∷ []) (0 ∷ 5 ∷ 0 ∷ [])) ≡ breach 24 2 2
unfolding first_breach output capacity
first_not_permitted = refl

-- ---- Cost

-- document 01, Specimens
specimen_costs : map (cost example) (rows (60 ∷ 80 ∷ []) (0 ∷ 20 ∷ []) ∷ rows (50 ∷ 80 ∷ []) (10 ∷ 20 ∷ []) ∷ []) ≡ 1980 ∷ 2060 ∷ []
unfolding cost row_cost
specimen_costs = refl

-- a + b·p + c·p·p with 1, 2, 3 at 4; nothing for a period off
fuel : map (fuel_cost (line 1 2 3 1 9 1 1 true 1 9 9 0 0 0 0 1)) (4 ∷ 0 ∷ []) ≡ 57 ∷ 0 ∷ []
fuel = refl

-- document 01, Specimens: TD + Tcold is 2, and a start comes after two periods off and after three, some of them before period 1
hot_cold_before : map (row_cost 3 (timed 1 1 1 false 1)) ((0 ∷ 5 ∷ 5 ∷ []) ∷ (0 ∷ 0 ∷ 5 ∷ []) ∷ []) ≡ 20 ∷ 60 ∷ []
unfolding row_cost
hot_cold_before = refl

-- the same after going off in period 1, which costs 5
hot_cold_within : map (row_cost 4 (timed 1 1 1 true 9)) ((0 ∷ 0 ∷ 5 ∷ 5 ∷ []) ∷ (0 ∷ 0 ∷ 0 ∷ 5 ∷ []) ∷ []) ≡ 25 ∷ 65 ∷ []
unfolding row_cost
hot_cold_within = refl

-- one period, off and on, for a unit off before, off long before, on before
one_period : map (λ g. map (row_cost 1 g) ((0 ∷ []) ∷ (5 ∷ []) ∷ [])) (timed 1 1 0 false 1 ∷ timed 1 1 0 false 2 ∷ timed 1 1 0 true 1 ∷ [])
    ≡ (0 ∷ 20 ∷ []) ∷ (0 ∷ 60 ∷ []) ∷ (5 ∷ 0 ∷ []) ∷ []
unfolding row_cost
one_period = refl
