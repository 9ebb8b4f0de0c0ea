-- An accepted problem is held, and nothing under it.
use Rattle.docket.proofs.holding.hold_problem.Goals as goal

pub returns-in-Ok : goal.returns-in-Ok
returns-in-Ok c = simp c.in-Ok.is
