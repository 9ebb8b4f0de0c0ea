-- `require_problem` meets its contract: a known problem is valid.
use mathlib.Core.Path.{◌≡◌, sym, ◌∙◌}
use borrow.Author.Rules.{rules}
use lib.ListN.{length}
use Rattle.model.proofs.Valid.{valid_is}
use Rattle.docket.proofs.HoldingAnswers.{knows_valid}
use Rattle.docket.proofs.Docket.require_problem.Goals as goal

pub returns-then-knows-clause-valid : goal.returns-then-knows-clause-valid
returns-then-knows-clause-valid c =
    let P = c.args.self.problem in
    let many : length P.generators ≡ 32 = search rules in
    (valid_is P (search rules) (search rules) many).0 (knows_valid c.args.self (sym c.knows.ensures ∙ c.if-knows.true))
