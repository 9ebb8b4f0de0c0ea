-- `units_taken` meets its contract: a known problem decides; under none there is no answer.
use mathlib.Core.Path.{sym, ap, ◌∙◌}
use Rattle.std.specs.Prelude.{Err}
use Rattle.std.proofs.lemmas.Result.{err_from_is_err_and}
use Rattle.docket.proofs.Questions.{asked_some, asked_none, told_known, told_none}
use Rattle.docket.proofs.Docket.units_taken.Goals as goal

pub returns-in_err-require_problem : goal.returns-in_err-require_problem
returns-in_err-require_problem c =
    let a = c.args in
    let h = asked_none a.self (sym c.require_problem.ensures.known ∙ c.in_err-require_problem.was) in
    let p = err_from_is_err_and c.from_residual.result c.from_residual.ensures.1 in
    p.1 ∙ ap Err (p.2 ∙ h.1) ∙ sym (told_none a.self h.0 a.period a.most a.fixed.now)

pub returns : goal.returns
returns c =
    let a = c.args in
    c.answer_taken.ensures ∙ sym (told_known a.self (asked_some a.self (sym c.require_problem.ensures.known ∙ c.in_ok-require_problem.was)) a.period a.most a.fixed.now)
