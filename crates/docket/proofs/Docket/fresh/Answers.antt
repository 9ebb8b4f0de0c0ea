-- A fresh docket holds a blank problem, nothing, and rows of zeros.
use Rattle.docket.proofs.Docket.fresh.Goals as goal

pub returns : goal.returns
returns c = simp c.blank.ensures
