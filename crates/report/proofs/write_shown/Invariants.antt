-- The lines passed stand at the front, and with those to come they make the whole.
use Rattle.report.proofs.Stages.{Passed}
use Rattle.report.proofs.write_shown.Given as goal

abbrev pub invariant-loop-key : goal.invariant-loop-key
invariant-loop-key l = Passed l.shown l.key-index l.initial.buf l.buf l.n
