-- `on_back` meets its contract: the states that cannot be left and the last are the states one period back.
use mathlib.Core.Path.{sym}
use mathlib.Core.Bool.{true, false}
use native.Mathlib.Omega.{arith}
use Rattle.model.proofs.Coded.{lesser_none}
use Rattle.walk.proofs.Chains.{written_none, backed_is, backed_chained}
use Rattle.walk.proofs.table.on_back.Goals as goal

pub keep_states-requires : goal.keep_states-requires
keep_states-requires g c =
    record { from_le_to = omega arith; good_cost = (c.requires.good_cost, λ k h. c.requires.in_bounds.1 k); valued = λ e k h i. (c.requires.valued e).1 k (omega arith) }

pub lesser_coded-requires : goal.lesser_coded-requires
lesser_coded-requires g c =
    record { good = (c.requires.good_cost, c.requires.in_bounds.1 _); valued = λ e. ((c.requires.valued e).0, (c.requires.valued e).1 _ (omega arith)) }

pub returns-then-allowed : goal.returns-then-allowed
returns-then-allowed g c need h =
    let a = c.args in
    rw c.if-allowed.true
    (backed_chained _ _ need _ a.leaving a.leaving true a.cost (omega arith) (omega arith)
    (backed_is _ _ _ _ _ a.leaving a.leaving true a.cost _ (omega arith) (omega arith) c.keep_states.ensures (written_none _ _ _)
    c.lesser_coded.ensures))

pub returns-else-allowed : goal.returns-else-allowed
returns-else-allowed g c need h =
    let a = c.args in
    rw c.if-allowed.false
    (backed_chained _ _ need _ a.leaving a.leaving false a.cost (omega arith) (omega arith)
    (backed_is _ _ _ _ _ a.leaving a.leaving false a.cost _ (omega arith) (omega arith) c.fill_states.ensures (written_none _ _ _)
    (sym (lesser_none a.leaving))))
