-- Document 01, Rules for a schedule: start, stop and cost, (13) to (19) and (1).
use Rattle.std.specs.Prelude.{Bool, true, false, cond, List, [], ◌∷◌, ℕ, ◌+◌, ◌*◌, leb}
use Rattle.model.specs.declared.generator.Generator.{Generator}
use Rattle.model.specs.Instance.{Instance, Schedule, ◌at◌, sum, sum_units}
use Rattle.model.specs.Rules.{on, if_on, statuses, spent}

-- after k periods in the status b, the cost of the status d: Hsc or Csc for going on, Dc for going off
abbrev pub switch_cost : Generator → Bool → ℕ → Bool → ℕ
switch_cost g true k true = 0
switch_cost g true k false = g.Dc
switch_cost g false k true = cond (leb k (g.TD + g.Tcold)) g.Hsc g.Csc
switch_cost g false k false = 0

-- the starts and stops of a run of statuses, after k periods in b
abbrev pub switch_costs : Generator → Bool → ℕ → List Bool → ℕ
switch_costs g b k [] = 0
switch_costs g b k (d ∷ run) = switch_cost g b k d + switch_costs g d (spent b k d) run

-- a + b·p + c·p·p for a period on
abbrev pub fuel_cost : Generator → ℕ → ℕ
fuel_cost g p = if_on (on p) (g.a + g.b * p + g.c * p * p)

-- the cost of one unit's row of n outputs
unfoldable pub row_cost : ℕ → Generator → List ℕ → ℕ
row_cost n g r = sum n (λ t. fuel_cost g (r at t)) + switch_costs g g.on g.since (statuses r)

-- (1)
unfoldable pub cost : Instance → Schedule → ℕ
cost P s = sum_units (row_cost P.periods) P.units s
