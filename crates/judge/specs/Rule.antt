-- The rules of one unit in one period, 21, 24 and 25, as one choice.
use Rattle.std.specs.Prelude.{Bool, List, ℕ}
use Rattle.std.proofs.Math.Option.{Option}
use Rattle.model.specs.declared.generator.Generator.{Generator}
use Rattle.model.specs.Instance.{Instance, Schedule}
use Rattle.model.specs.Breach.{Place, off_limits, off_ramp, first_place, first_unit}
use Rattle.judge.specs.declared.breach.Rule.{Rule}
use Rattle.judge.specs.declared.breach.Rule.TheVariants.{Limits, UpDown, Ramps}
use Rattle.judge.specs.Counts.{barred}

-- whether a unit's row breaks the rule in period t
abbrev pub broken_by : Rule → ℕ → Generator → List ℕ → Bool
broken_by Limits t g r = off_limits t g r
broken_by UpDown t g r = barred t g r
broken_by Ramps t g r = off_ramp t g r

-- the first period, and in it the first unit, that breaks it
abbrev pub place_of : Rule → Instance → Schedule → Option Place
place_of rule P s = first_place P.periods (λ t. first_unit (broken_by rule t) P.units s)
