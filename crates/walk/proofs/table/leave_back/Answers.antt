-- `leave_back` meets its contract: the three runs one after the other; of leaving and a value that is not there, the lesser is leaving.
use mathlib.Core.Path.{sym}
use mathlib.Core.Bool.{false}
use Rattle.model.proofs.Coded.{lesser_none}
use Rattle.walk.proofs.Chains.{written_ext, backed_is}
use Rattle.walk.proofs.table.leave_back.Goals as goal

pub returns : goal.returns
returns c v =
    let a = c.args in
    backed_is _ _ _ a.begin a.end a.early a.last false v _ c.requires.0 c.requires.1 c.fill_states.ensures
    (written_ext _ _ _ _ _ _ (λ k. sym (lesser_none a.early)) c.fill_states-2.ensures) (sym (lesser_none a.last))

pub shape_of-states : goal.shape_of-states
shape_of-states c = (returns c 0).same
