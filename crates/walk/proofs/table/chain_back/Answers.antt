-- `chain_back` meets its contract: the states that cannot be left, those that can, and the last are the states one period back.
use Rattle.std.proofs.Common.{arith, sym, ◌<◌, length}
use borrow.Author.Tests.{eqb-false}
use Rattle.walk.proofs.Chains.{backed_chained}
use Rattle.walk.proofs.table.chain_back.Goals as goal

pub returns-then-allowed : goal.returns-then-allowed
returns-then-allowed g c =
    let a = c.args in
    let some : 0 < length a.states.now = omega (arith, eqb-false (length a.states.now) 0 (sym c.if-is_empty.ensures)) in
    rw c.if-allowed.true (backed_chained _ _ a.need _ a.early a.last _ a.cost some c.first_early-begin.ensures c.keep_back.ensures)

pub returns-else-allowed : goal.returns-else-allowed
returns-else-allowed g c =
    let a = c.args in
    let some : 0 < length a.states.now = omega (arith, eqb-false (length a.states.now) 0 (sym c.if-is_empty.ensures)) in
    rw c.if-allowed.false (backed_chained _ _ a.need _ a.early a.last _ a.cost some c.first_early-begin.ensures (c.leave_back.ensures a.cost))
