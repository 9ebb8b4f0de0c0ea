use mathlib.Core.Path.{◌≡◌}
use lib.ListN.{length, take}
use Rattle.model.specs.Held.{pad, blank_generator}
use Rattle.problem.specs.Course.{fleet_due, no_units}
use Rattle.problem.specs.Storing.{read_from}
use Rattle.problem.proofs.Fleets.{remains}
use Rattle.problem.proofs.read_from_fleet.Given as goal

abbrev pub invariant-loop-k : goal.invariant-loop-k
invariant-loop-k l = (length l.generators ≡ 32) × ((pad blank_generator 32 (take l.k l.generators) ≡ l.generators)
    × (remains l.s l.periods l.units l.next (take l.periods l.demand) (take l.periods l.spare) l.k l.generators
    ≡ read_from l.s l.at 6 (fleet_due l.units (no_units l.periods (take l.periods l.demand) (take l.periods l.spare)))))
