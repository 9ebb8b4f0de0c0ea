-- The demand of every period that has been passed is met.
use Rattle.judge.proofs.Shortage.{DemandMet}
use Rattle.judge.proofs.loads.find_unmet_demand.Given as goal

abbrev pub invariant-loop-t : goal.invariant-loop-t
invariant-loop-t l = DemandMet l.problem l.rows l.t
