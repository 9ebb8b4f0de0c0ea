-- The values passed stand at the front, and with the ending of those to come they make the whole.
use Rattle.answer.proofs.InTurn.{Passed}
use Rattle.answer.proofs.write_ending.Given as goal

abbrev pub invariant-loop-f : goal.invariant-loop-f
invariant-loop-f l = Passed l.figures l.f-index l.initial.buf l.buf l.n
