-- `read_from_runs` meets its contract. The invariant: what is left to read, with the rows stored so far, gives what the whole gives.
use mathlib.Core.Path.{◌≡◌}
use mathlib.Core.List.{[]}
use lib.ListN.{length}
use Rattle.model.specs.Held.{view}
use Rattle.schedule.specs.Course.{runs_due}
use Rattle.schedule.specs.Refusals.{written}
use Rattle.schedule.specs.Storing.{read_from}
use Rattle.schedule.proofs.Runs.{Reading}
use Rattle.schedule.proofs.read_from_runs.Given as goal

abbrev pub invariant-loop-k : goal.invariant-loop-k
invariant-loop-k l = (length l.values ≡ 48) × Reading (view l.problem) l.text l.periods l.writer l.problem.units (read_from (view l.problem) l.text l.at 3 (runs_due l.problem.units (written l.writer []))) l.rows l.next l.k
