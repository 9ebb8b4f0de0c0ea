-- The demand and spare of every period that has been passed are covered.
use Rattle.judge.proofs.Shortage.{SpareMet}
use Rattle.judge.proofs.loads.find_unmet_spare.Given as goal

abbrev pub invariant-loop-t : goal.invariant-loop-t
invariant-loop-t l = SpareMet l.problem l.rows l.t
