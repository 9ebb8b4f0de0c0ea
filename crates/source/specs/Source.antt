-- The source paper's section III as printed, each equation under its own number, and three forms of (15).
-- As there, periods are t = 1, .., T and units i = 1, .., I. What the paper subtracts on one side is added here on the other; the differences
-- that are left, t - 1, t - j, TU - 1, TD - 1 and 1 - u, are not below 0 in document 01's ranges.
-- u, p, cu and cd are whole numbers. So (17), (20) and (21), by which cu, cd and p are not below 0, hold by their type.
use Rattle.std.specs.Prelude.{◌≡◌, Bool, true, false, List, [], ◌∷◌, ℕ, zero, suc, ◌+◌, ◌*◌, ◌-◌, ◌≤◌, ◌<◌, get_or, pos, ◌+ℤ◌, ◌-ℤ◌, ◌≤ℤ◌, ◌<ℤ◌}
use Rattle.model.specs.declared.generator.Generator.{Generator}
use Rattle.model.specs.Instance.{Instance, Schedule, Tini, ◌at◌, sum}
use Rattle.model.specs.Rules.{on}

-- ---- sums and ranges that begin with 1

-- Σ from j = 1 to n
abbrev pub Σ₁ : ℕ → (ℕ → ℕ) → ℕ
Σ₁ n f = sum n (λ j. f (suc j))

-- Σ from i = 1 to I, with unit i
abbrev pub Σᵢ : (ℕ → Generator → ℕ) → List Generator → ℕ
Σᵢ f [] = 0
Σᵢ f (g ∷ gs) = f 1 g + Σᵢ (λ i h. f (suc i) h) gs

-- for i = 1, .., I, with unit i
abbrev pub Every : (ℕ → Generator → Type 0) → List Generator → Type 0
Every R [] = Unit {0}
Every R (g ∷ gs) = R 1 g × Every (λ i h. R (suc i) h) gs

-- value t of a list, t = 1, 2, ..
abbrev pub nth : List ℕ → ℕ → ℕ
nth l zero = 0
nth l (suc t) = l at t

-- ---- one unit, with its u and p

-- Minimum up and down times: (5), (6) for a stretch that began before period 1, (7), (8) for a start and (9), (10) for a stop, in period t or in
-- period 1. Their ranges lead past T: `Known t` says for which t there is a u t.
pub record UpDown (Known : ℕ → Type 0) (T : ℕ) (g : Generator) (u : ℕ → ℕ) : Type 0 where
  pub eq5 : Tini g <ℤ pos 0 → (t : ℕ) → 1 ≤ t → pos t ≤ℤ (pos g.TD +ℤ Tini g) → Known t → u t ≡ 0
  pub eq6 : pos 0 <ℤ Tini g → (t : ℕ) → 1 ≤ t → pos t ≤ℤ (pos g.TU -ℤ Tini g) → Known t → u t ≡ 1
  pub eq7 : (t : ℕ) → 2 ≤ t → t ≤ T → (j : ℕ) → 1 ≤ j → j ≤ g.TU - 1 → Known (t + j) → u t ≤ u (t - 1) + u (t + j)
  pub eq8 : Tini g <ℤ pos 0 → (j : ℕ) → 1 ≤ j → j ≤ g.TU - 1 → Known (1 + j) → u 1 ≤ u (1 + j)
  pub eq9 : (t : ℕ) → 2 ≤ t → t ≤ T → (j : ℕ) → 1 ≤ j → j ≤ g.TD - 1 → Known (t + j) → u (t + j) + u (t - 1) ≤ u t + 1
  pub eq10 : pos 0 <ℤ Tini g → (j : ℕ) → 1 ≤ j → j ≤ g.TD - 1 → Known (1 + j) → u (1 + j) ≤ u 1

-- with the paper's variables, u 1 to u T
abbrev pub ToT : ℕ → Generator → (ℕ → ℕ) → Type 0
ToT T g u = UpDown (λ t. t ≤ T) T g u

-- to the letter, with a u t for every t
abbrev pub Letter : ℕ → Generator → (ℕ → ℕ) → Type 0
Letter T g u = UpDown (λ t. Unit {0}) T g u

-- to the letter, with some statuses past T
pub record SomePast (T : ℕ) (g : Generator) (u : ℕ → ℕ) : Type 0 where
  pub past : ℕ → ℕ
  pub same : (t : ℕ) → 1 ≤ t → t ≤ T → past t ≡ u t
  pub letter : Letter T g past

-- (22): a status is 0 or 1
abbrev pub Bits : ℕ → (ℕ → ℕ) → Type 0
Bits T u = (t : ℕ) → 1 ≤ t → t ≤ T → u t ≤ 1

-- (11) and (12), from period t - 1 to period t
abbrev pub RampDown : Generator → (ℕ → ℕ) → (ℕ → ℕ) → ℕ → Type 0
RampDown g u p t = p (t - 1) ≤ p t + g.DR * u (t - 1) + g.pU * (1 - u t)

abbrev pub RampUp : Generator → (ℕ → ℕ) → (ℕ → ℕ) → ℕ → Type 0
RampUp g u p t = p t ≤ p (t - 1) + g.UR * u (t - 1) + g.pU * (1 - u (t - 1))

-- with the limits of outputs, (4), and the ramps, (11) and (12)
pub record UnitSource (T : ℕ) (g : Generator) (u p : ℕ → ℕ) : Type 0 where
  pub eq4 : (t : ℕ) → 1 ≤ t → t ≤ T → (u t * g.pL ≤ p t) × (p t ≤ g.pU * u t)
  pub eq5_10 : ToT T g u
  pub eq11 : (t : ℕ) → 2 ≤ t → t ≤ T → RampDown g u p t
  pub eq12 : (t : ℕ) → 2 ≤ t → t ≤ T → RampUp g u p t
  pub eq22 : Bits T u

-- ---- a problem, with u i t and p i t

-- with demand, (2), and spinning reserve, (3)
pub record Source (P : Instance) (u p : ℕ → ℕ → ℕ) : Type 0 where
  pub eq2 : (t : ℕ) → 1 ≤ t → t ≤ P.periods → nth P.demand t ≤ Σᵢ (λ i g. p i t) P.units
  pub eq3 : (t : ℕ) → 1 ≤ t → t ≤ P.periods → nth P.demand t + nth P.spare t ≤ Σᵢ (λ i g. g.pU * u i t) P.units
  pub eq4_12 : Every (λ i g. UnitSource P.periods g (u i) (p i)) P.units

-- ---- the costs of starts and stops, cu and cd

-- a status as 0 or 1
abbrev pub bit : Bool → ℕ
bit true = 1
bit false = 0

-- u, and the status before period 1 as u 0
abbrev pub from : Generator → (ℕ → ℕ) → ℕ → ℕ
from g u zero = bit g.on
from g u (suc t) = u (suc t)

-- the periods just spent off, after k periods in the status b
abbrev pub idle : Bool → ℕ → ℕ
idle true k = 0
idle false k = k

-- one period later
abbrev pub one_longer : ℕ → ℕ → ℕ
one_longer zero d = suc d
one_longer (suc u) d = 0

-- the same when period t begins, if they were d when period 1 began
abbrev pub downs : ℕ → (ℕ → ℕ) → ℕ → ℕ
downs d u zero = 0
downs d u (suc zero) = d
downs d u (suc (suc t)) = one_longer (u (suc t)) (downs d u (suc t))

-- the paper's downtime, in period t
abbrev pub downtime : Generator → (ℕ → ℕ) → ℕ → ℕ
downtime g u t = downs (idle g.on g.since) u t

-- what a form of (15) asks of a unit's u and cu
abbrev pub Fifteen : Type 1
Fifteen = ℕ → Generator → (ℕ → ℕ) → (ℕ → ℕ) → Type 0

-- (15) as printed: j = 1, .., TD + Tcold
abbrev pub Printed15 : Fifteen
Printed15 T g u cu = (t : ℕ) → g.TD + g.Tcold < t → t ≤ T → u t * g.Csc ≤ cu t + Σ₁ (g.TD + g.Tcold) (λ j. u (t - j)) * g.Csc

-- (15) repaired: j = 1, .., TD + Tcold + 1, for the same t, u 0 being the status before period 1
abbrev pub Repaired15 : Fifteen
Repaired15 T g u cu = (t : ℕ) → g.TD + g.Tcold < t → t ≤ T → u t * g.Csc ≤ cu t + Σ₁ (suc (g.TD + g.Tcold)) (λ j. from g u (t - j)) * g.Csc

-- (15) by its sentence: in period t, a unit on after a downtime of more than TD + Tcold costs Csc or more
abbrev pub Sentence15 : Fifteen
Sentence15 T g u cu = (t : ℕ) → g.TD + g.Tcold < t → t ≤ T → u t ≡ 1 → g.TD + g.Tcold < downtime g u t → g.Csc ≤ cu t

-- Hsc for a start, (13), (14); Csc for a cold one, (15), (16); Dc for a stop, (18), (19)
pub record Charges (F : Fifteen) (T : ℕ) (g : Generator) (u cu cd : ℕ → ℕ) : Type 0 where
  pub eq13 : (t : ℕ) → 2 ≤ t → t ≤ T → u t * g.Hsc ≤ cu t + u (t - 1) * g.Hsc
  pub eq14 : Tini g <ℤ pos 0 → 1 ≤ T → u 1 * g.Hsc ≤ cu 1
  pub eq15 : F T g u cu
  pub eq16 : Tini g <ℤ pos 0 → (t : ℕ) → 1 ≤ t → (pos (g.TD + g.Tcold) +ℤ Tini g +ℤ pos 1) <ℤ pos t → t ≤ g.TD + g.Tcold → t ≤ T
      → u t * g.Csc ≤ cu t + Σ₁ (t - 1) (λ j. u (t - j)) * g.Csc
  pub eq18 : (t : ℕ) → 2 ≤ t → t ≤ T → u (t - 1) * g.Dc ≤ cd t + u t * g.Dc
  pub eq19 : pos 0 <ℤ Tini g → 1 ≤ T → (1 - u 1) * g.Dc ≤ cd 1

-- (13) to (20) of a problem
abbrev pub Costs : Fifteen → Instance → (ℕ → ℕ → ℕ) → (ℕ → ℕ → ℕ) → (ℕ → ℕ → ℕ) → Type 0
Costs F P u cu cd = Every (λ i g. Charges F P.periods g (u i) (cu i) (cd i)) P.units

-- (1), in one period of one unit
abbrev pub term : Generator → ℕ → ℕ → ℕ → ℕ → ℕ
term g u p cu cd = (g.a * u + g.b * p + g.c * p * p) + cu + cd

-- (1)
abbrev pub objective : Instance → (ℕ → ℕ → ℕ) → (ℕ → ℕ → ℕ) → (ℕ → ℕ → ℕ) → (ℕ → ℕ → ℕ) → ℕ
objective P u p cu cd = Σᵢ (λ i g. Σ₁ P.periods (λ t. term g (u i t) (p i t) (cu i t) (cd i t))) P.units

-- ---- a schedule's p and u: on exactly when the output is above 0

-- the statuses of a row
abbrev pub u_row : List ℕ → ℕ → ℕ
u_row r t = bit (on (nth r t))

abbrev pub p_of : Schedule → ℕ → ℕ → ℕ
p_of s zero t = 0
p_of s (suc i) t = nth (get_or s i []) t

abbrev pub u_of : Schedule → ℕ → ℕ → ℕ
u_of s i t = bit (on (p_of s i t))
