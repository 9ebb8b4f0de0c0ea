-- Document 01's specimens of schedules and ramps from midnight, by the definition of a judgement, and a witness that a problem and its
-- rows can be judged.
use mathlib.Core.Path.{◌≡◌, refl}
use mathlib.Core.Bool.{true, false}
use mathlib.Core.List.{[], ◌∷◌, map}
use Prim.Native.Nat.{ℕ}
use lib.Dec.{lit≤}
use Rattle.model.specs.declared.generator.Generator.{Generator}
use Rattle.model.specs.Held.{held}
use Rattle.model.specs.Rules.{output, capacity}
use Rattle.model.specs.Cost.{row_cost, cost}
use Rattle.model.specs.Breach.{first_breach}
use Rattle.model.specs.Examples.{with_spare, example, rows, timed, from_midnight, periods_of, three}
use Rattle.model.proofs.Held.{held_valid}
use Rattle.model.proofs.BoundExamples.{example_well_formed}
use Rattle.std.specs.Prelude.{Result, Ok}
use Rattle.judge.specs.declared.Broken.{Broken}
use Rattle.judge.specs.Rows.{Fitting}
use Rattle.judge.specs.Judgement.{breaks_at, judgement}

abbrev breach : ℕ → ℕ → ℕ → Result ℕ Broken
breach k u t = breaks_at k (record { unit = u; period = t })

-- two that break nothing, a rise of 31, 1 short of D, 1 below pL
specimens : map (judgement example) (
    rows (60 ∷ 80 ∷ []) (0 ∷ 20 ∷ []) ∷ rows (50 ∷ 80 ∷ []) (10 ∷ 20 ∷ []) ∷ rows (49 ∷ 80 ∷ []) (11 ∷ 20 ∷ [])
    ∷ rows (59 ∷ 80 ∷ []) (0 ∷ 20 ∷ []) ∷ rows (60 ∷ 80 ∷ []) (0 ∷ 9 ∷ []) ∷ [])
    ≡ Ok 1980 ∷ Ok 2060 ∷ breach 25 1 2 ∷ breach 22 0 1 ∷ breach 21 2 2 ∷ []
unfolding judgement first_breach cost row_cost output capacity
specimens = refl

-- a spare that the units on cover, and one that they do not
spares : map (λ R. judgement (with_spare R) (rows (60 ∷ 80 ∷ []) (0 ∷ 20 ∷ []))) (20 ∷ 21 ∷ []) ≡ Ok 1980 ∷ breach 23 0 1 ∷ []
unfolding judgement first_breach cost row_cost output capacity
spares = refl

-- TD 3 and Tini -1: first on in period 2, in period 3
first_on : map (λ r. judgement (three 0 0 (timed 1 3 0 false 1 ∷ [])) (r ∷ [])) ((0 ∷ 5 ∷ 5 ∷ []) ∷ (0 ∷ 0 ∷ 5 ∷ []) ∷ []) ≡ breach 24 1 2 ∷ Ok 20 ∷ []
unfolding judgement first_breach cost row_cost output capacity
first_on = refl

-- ---- document 02, [3]: 25 in period 1

-- on document 01's problem, whose first unit gives 60 at midnight: a fall of 30, and one of 31
from_60 : map (judgement example) (rows (30 ∷ 60 ∷ []) (30 ∷ 40 ∷ []) ∷ rows (29 ∷ 59 ∷ []) (31 ∷ 41 ∷ []) ∷ []) ≡ Ok 2220 ∷ breach 25 1 1 ∷ []
unfolding judgement first_breach cost row_cost output capacity
from_60 = refl

-- one period alone, DR 20 and UR 30: a rise of 30 and of 31, a fall of 20 and of 21, going off, and going on at pU
alone : map (λ (x : Generator × ℕ). judgement (periods_of 1 (x.0 ∷ [])) ((x.1 ∷ []) ∷ [])) (
    (from_midnight true 40, 70) ∷ (from_midnight true 40, 71) ∷ (from_midnight true 90, 70) ∷ (from_midnight true 90, 69)
    ∷ (from_midnight true 90, 0) ∷ (from_midnight false 0, 99) ∷ [])
    ≡ Ok 0 ∷ breach 25 1 1 ∷ Ok 0 ∷ breach 25 1 1 ∷ Ok 0 ∷ Ok 0 ∷ []
unfolding judgement first_breach cost row_cost output capacity
alone = refl

-- two periods of two units at 40 and 90: period 1 before period 2, by the same unit and by another; in period 1 the lower unit; and period
-- 2 where period 1 breaks nothing
which : map (judgement (periods_of 2 (from_midnight true 40 ∷ from_midnight true 90 ∷ []))) (
    rows (71 ∷ 20 ∷ []) (90 ∷ 90 ∷ []) ∷ rows (40 ∷ 71 ∷ []) (59 ∷ 59 ∷ []) ∷ rows (71 ∷ 71 ∷ []) (59 ∷ 59 ∷ [])
    ∷ rows (40 ∷ 71 ∷ []) (70 ∷ 70 ∷ []) ∷ [])
    ≡ breach 25 1 1 ∷ breach 25 2 1 ∷ breach 25 1 1 ∷ breach 25 1 2 ∷ []
unfolding judgement first_breach cost row_cost output capacity
which = refl

-- 21 of period 2 comes before it
lower : judgement (periods_of 2 (from_midnight true 40 ∷ [])) ((71 ∷ 100 ∷ []) ∷ []) ≡ breach 21 1 2
unfolding judgement first_breach cost row_cost output capacity
lower = refl

-- ---- a witness

-- the rows of document 01's schedule fit its problem
fits : Fitting (held example) (60 ∷ 80 ∷ 0 ∷ 20 ∷ [])
unfolding held
fits = record {
  valid = held_valid example example_well_formed;
  long = refl;
  outputs_in = ((lit≤ tt, lit≤ tt), ((lit≤ tt, lit≤ tt), ((lit≤ tt, lit≤ tt), ((lit≤ tt, lit≤ tt), tt))));
}
