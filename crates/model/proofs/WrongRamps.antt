-- Document 02, [3]: rules for period 1 that are not the one asked, each refuted by a unit and a row on which the two differ. The unit puts out 20 to 99,
-- with DR 20 and UR 30.
use mathlib.Core.Path.{refl}
use mathlib.Core.Bool.{true, false}
use mathlib.Core.List.{List, [], ◌∷◌}
use Prim.Native.Nat.{ℕ, zero, suc, ◌+◌, ◌≤◌, ◌<◌}
use native.Mathlib.Omega.{arith}
use lib.Dec.{T}
use Rattle.model.specs.declared.generator.Generator.{Generator}
use Rattle.model.specs.Instance.{Instance, ◌at◌}
use Rattle.model.specs.Rules.{on, output, capacity, Within, Ramp, MeetsPrinted, FirstRamp, Meets}
use Rattle.model.specs.Examples.{from_midnight, periods_of}

-- ---- left out: 61 after 30 at midnight meets the printed rules, and not the rules

late_limits : (t : ℕ) → t < 1 → Within (from_midnight true 30) ((61 ∷ []) at t)
late_limits zero l k = (omega arith, omega arith)
late_limits (suc t) l k = absurd (omega arith)

nothing_asked : (n t : ℕ) → t < 1 → (0 ∷ []) at t + (0 ∷ []) at t ≤ n
nothing_asked n zero l = omega arith
nothing_asked n (suc t) l = absurd (omega arith)

abbrev one_period : Instance
one_period = periods_of 1 (from_midnight true 30 ∷ [])

pub left_out : MeetsPrinted one_period ((61 ∷ []) ∷ []) × (Meets one_period ((61 ∷ []) ∷ []) → ⊥)
left_out = (
  record {
    rows = (record { long = refl; limits = late_limits; updown = tt; ramps = λ t l. absurd (omega arith) }, tt);
    meets_demand = λ t l. omega (arith, nothing_asked (output one_period ((61 ∷ []) ∷ []) t) t l);
    meets_spare = λ t l. nothing_asked (capacity one_period ((61 ∷ []) ∷ []) t) t l;
  },
  λ M. omega (arith, (M.midnight.0 tt tt).rise),
)

-- ---- asked of a unit that was off: 99 after 0

abbrev OfUnitsOff : Generator → List ℕ → Type 0
OfUnitsOff g r = T (on (r at 0)) → Ramp g g.p0 (r at 0)

pub of_units_off : FirstRamp (from_midnight false 0) (99 ∷ []) × (OfUnitsOff (from_midnight false 0) (99 ∷ []) → ⊥)
of_units_off = (λ k. absurd k, λ h. omega (arith, (h tt).rise))

-- ---- asked of a unit that goes off: 0 after 80

abbrev WhenGoingOff : Generator → List ℕ → Type 0
WhenGoingOff g r = T g.on → Ramp g g.p0 (r at 0)

pub when_going_off : FirstRamp (from_midnight true 80) (0 ∷ []) × (WhenGoingOff (from_midnight true 80) (0 ∷ []) → ⊥)
when_going_off = (λ k k'. absurd k', λ h. omega (arith, (h tt).fall))

-- ---- measured from pL: 60 after 30

abbrev FromLeast : Generator → List ℕ → Type 0
FromLeast g r = T g.on → T (on (r at 0)) → Ramp g g.pL (r at 0)

pub from_least : FirstRamp (from_midnight true 30) (60 ∷ []) × (FromLeast (from_midnight true 30) (60 ∷ []) → ⊥)
from_least = (λ k k'. record { rise = omega arith; fall = omega arith }, λ h. omega (arith, (h tt tt).rise))
