-- The costs of starts and stops in the paper's words, and what (15) as printed adds to them.
use Rattle.std.specs.Prelude.{cond, ◌&&◌, ℕ, zero, suc, ◌+◌, ◌*◌, ◌-◌, leb, ltb, eqb}
use Rattle.model.specs.declared.generator.Generator.{Generator}
use Rattle.model.specs.Instance.{Instance, Schedule, sum_units}
use Rattle.source.specs.Source.{Σ₁, from, downtime, u_row}

-- from the status v, with the downtime d, to the status w: Hsc for a start with a downtime of at most TD + Tcold, else Csc
abbrev pub starting : Generator → ℕ → ℕ → ℕ → ℕ
starting g v d zero = 0
starting g zero d (suc w) = cond (leb d (g.TD + g.Tcold)) g.Hsc g.Csc
starting g (suc v) d (suc w) = 0

-- Dc for a stop
abbrev pub stopping : Generator → ℕ → ℕ → ℕ
stopping g zero w = 0
stopping g (suc v) zero = g.Dc
stopping g (suc v) (suc w) = 0

-- what they make of cu and cd in period t
abbrev pub start_cost : Generator → (ℕ → ℕ) → ℕ → ℕ
start_cost g u zero = 0
start_cost g u (suc t) = starting g (from g u t) (downtime g u (suc t)) (u (suc t))

abbrev pub stop_cost : Generator → (ℕ → ℕ) → ℕ → ℕ
stop_cost g u zero = 0
stop_cost g u (suc t) = stopping g (from g u t) (u (suc t))

-- 1 for a start in a period t past TD + Tcold after exactly TD + Tcold periods off
abbrev pub too_soon : Generator → ℕ → ℕ → ℕ → ℕ → ℕ
too_soon g t v d zero = 0
too_soon g t (suc v) d (suc w) = 0
too_soon g t zero d (suc w) = cond (ltb (g.TD + g.Tcold) t && eqb d (g.TD + g.Tcold)) 1 0

-- Csc - Hsc for each such start
abbrev pub surcharge : Generator → (ℕ → ℕ) → ℕ → ℕ
surcharge g u zero = 0
surcharge g u (suc t) = too_soon g (suc t) (from g u t) (downtime g u (suc t)) (u (suc t)) * (g.Csc - g.Hsc)

-- cu with (15) as printed
abbrev pub printed_cost : Generator → (ℕ → ℕ) → ℕ → ℕ
printed_cost g u t = start_cost g u t + surcharge g u t

-- the surcharges of a schedule
unfoldable pub surcharges : Instance → Schedule → ℕ
surcharges P s = sum_units (λ g r. Σ₁ P.periods (surcharge g (u_row r))) P.units s
