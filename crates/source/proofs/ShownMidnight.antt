-- Computed: (11) and (12) at t = 1 hold a unit that was on and stays on, measuring from p0; they let it go off, and let one that was off begin
-- anywhere.
use mathlib.Core.Path.{refl}
use mathlib.Core.Bool.{Bool, true, false, ◌&&◌}
use mathlib.Core.List.{[], ◌∷◌}
use Prim.Native.Nat.{ℕ, zero, suc, ◌+◌, ◌≤◌, ◌<◌}
use native.Mathlib.Omega.{arith}
use lib.Dec.{T, lit≤}
use Rattle.model.specs.declared.generator.Generator.{Generator}
use Rattle.model.specs.Instance.{Instance, Schedule, ◌at◌}
use Rattle.model.specs.Rules.{on, if_on, Within, permits, output, capacity, MeetsPrinted}
use Rattle.source.specs.Source.{Source, p_of, u_of}
use Rattle.source.specs.Midnight.{FromMidnight, AllFromMidnight}
use Rattle.source.proofs.Schedules.{meets→source}

-- from 20 to 99; on or off for one period before period 1, with the output p0 at midnight
abbrev unit : Bool → ℕ → ℕ → ℕ → Generator
unit b down up p0 =
    record { a = 0; b = 1; c = 0; pL = 20; pU = 99; TU = 1; TD = 1; on = b; since = 1; DR = down; UR = up; Hsc = 0; Csc = 0; Tcold = 0; Dc = 0; p0 = p0 }

-- one period of it, with the demand d
abbrev day : Generator → ℕ → Instance
day g d = record { periods = 1; demand = d ∷ []; spare = 0 ∷ []; units = g ∷ [] }

-- an output in it
abbrev giving : ℕ → Schedule
giving p = (p ∷ []) ∷ []

-- that the output p solves (2) to (12) as printed, and (11) and (12) at t = 1
abbrev Solves : Generator → ℕ → ℕ → Type 0
Solves g d p = Source (day g d) (u_of (giving p)) (p_of (giving p))

abbrev SolvesFirst : Generator → ℕ → ℕ → Type 0
SolvesFirst g d p = FromMidnight (day g d) (u_of (giving p)) (p_of (giving p))

-- ---- the printed equations alone

-- (2) to (12) hold for every output from 20 to 99 that meets the demand, and for 0, whatever DR, UR and p0 are
module _ (b : Bool) (down up p0 d p : ℕ) (w : T (on p) → (20 ≤ p) × (p ≤ 99)) (l : d ≤ p) where
  meets : MeetsPrinted (day (unit b down up p0) d) (giving p)
  unfolding output capacity
  meets = record {
    rows = (record { long = refl; limits = limits; updown = stays b (on p); ramps = λ t m. absurd (omega arith) }, tt);
    meets_demand = demand;
    meets_spare = spare;
  }
    where
      limits : (t : ℕ) → t < 1 → Within (unit b down up p0) ((p ∷ []) at t)
      limits zero m = w
      limits (suc t) m = absurd (omega arith)

      stays : (b c : Bool) → T (permits (unit b down up p0) b 1 c && true)
      stays true true = tt
      stays true false = tt
      stays false true = tt
      stays false false = tt

      demand : (t : ℕ) → t < 1 → (d ∷ []) at t ≤ output (day (unit b down up p0) d) (giving p) t
      demand zero m = omega arith
      demand (suc t) m = absurd (omega arith)

      most : (p : ℕ) → (T (on p) → (20 ≤ p) × (p ≤ 99)) → p ≤ if_on (on p) 99
      most zero w = omega arith
      most (suc p) w = omega (arith, (w tt).1)

      spare : (t : ℕ) → t < 1 → (d ∷ []) at t + (0 ∷ []) at t ≤ capacity (day (unit b down up p0) d) (giving p) t
      spare zero m = omega (arith, most p w)
      spare (suc t) m = absurd (omega arith)

  solves : Solves (unit b down up p0) d p
  solves = meets→source (day (unit b down up p0) d) (giving p) meets

-- ---- with the two at t = 1

-- UR 30, from 30 at midnight, with a demand of 50: 60 solves both, 61 breaks (12)
pub rise_ends : Solves (unit true 30 30 30) 50 60 × SolvesFirst (unit true 30 30 30) 50 60
rise_ends = (
  solves true 30 30 30 50 60 (λ t. (lit≤ tt, lit≤ tt)) (lit≤ tt),
  (λ b. record { eq11 = λ l. lit≤ tt; eq12 = λ l. lit≤ tt }, tt),
)

pub rise_breaks : Solves (unit true 30 30 30) 50 61 × (SolvesFirst (unit true 30 30 30) 50 61 → ⊥)
rise_breaks = (
  solves true 30 30 30 50 61 (λ t. (lit≤ tt, lit≤ tt)) (lit≤ tt),
  λ h. omega (arith, (h.0 (record { lt = tt })).eq12 (lit≤ tt)),
)

-- DR 30, from 80, with a demand of 40: 50 solves both, 49 breaks (11)
pub fall_ends : Solves (unit true 30 30 80) 40 50 × SolvesFirst (unit true 30 30 80) 40 50
fall_ends = (
  solves true 30 30 80 40 50 (λ t. (lit≤ tt, lit≤ tt)) (lit≤ tt),
  (λ b. record { eq11 = λ l. lit≤ tt; eq12 = λ l. lit≤ tt }, tt),
)

pub fall_breaks : Solves (unit true 30 30 80) 40 49 × (SolvesFirst (unit true 30 30 80) 40 49 → ⊥)
fall_breaks = (
  solves true 30 30 80 40 49 (λ t. (lit≤ tt, lit≤ tt)) (lit≤ tt),
  λ h. omega (arith, (h.0 (record { lt = tt })).eq11 (lit≤ tt)),
)

-- DR 1, from 99: off solves both
pub stop_free : Solves (unit true 1 1 99) 0 0 × SolvesFirst (unit true 1 1 99) 0 0
stop_free = (solves true 1 1 99 0 0 (λ t. absurd t) (lit≤ tt), (λ b. record { eq11 = λ l. lit≤ tt; eq12 = λ l. lit≤ tt }, tt))

-- UR 1, off before: 99 solves both, also if the two are asked of every unit
pub start_free : Solves (unit false 1 1 0) 0 99 × AllFromMidnight (day (unit false 1 1 0) 0) (u_of (giving 99)) (p_of (giving 99))
start_free = (solves false 1 1 0 0 99 (λ t. (lit≤ tt, lit≤ tt)) (lit≤ tt), (record { eq11 = λ l. lit≤ tt; eq12 = λ l. lit≤ tt }, tt))
