-- Document 02, [3]: (11) and (12) as the paper prints them, read at t = 1 too.
use Rattle.std.specs.Prelude.{ℕ, zero, suc, ◌≤◌, pos, ◌<ℤ◌}
use Rattle.model.specs.declared.generator.Generator.{Generator}
use Rattle.model.specs.Instance.{Instance, Tini}
use Rattle.source.specs.Source.{Every, RampDown, RampUp, from}

-- p, and the output at midnight as p 0
abbrev pub from_p0 : Generator → (ℕ → ℕ) → ℕ → ℕ
from_p0 g p zero = g.p0
from_p0 g p (suc t) = p (suc t)

-- of one unit, u 0 being the status before period 1
pub record UnitMidnight (T : ℕ) (g : Generator) (u p : ℕ → ℕ) : Type 0 where
  pub eq11 : 1 ≤ T → RampDown g (from g u) (from_p0 g p) 1
  pub eq12 : 1 ≤ T → RampUp g (from g u) (from_p0 g p) 1

-- of the units on before period 1 ..
abbrev pub FromMidnight : Instance → (ℕ → ℕ → ℕ) → (ℕ → ℕ → ℕ) → Type 0
FromMidnight P u p = Every (λ i g. pos 0 <ℤ Tini g → UnitMidnight P.periods g (u i) (p i)) P.units

-- .. and of every unit, whether on or off before
abbrev pub AllFromMidnight : Instance → (ℕ → ℕ → ℕ) → (ℕ → ℕ → ℕ) → Type 0
AllFromMidnight P u p = Every (λ i g. UnitMidnight P.periods g (u i) (p i)) P.units
