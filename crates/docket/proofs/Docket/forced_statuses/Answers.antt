-- `forced_statuses` meets its contract: a known problem decides; under none there is no answer.
use mathlib.Core.Path.{sym, ap, ◌∙◌}
use Rattle.std.specs.Prelude.{Err}
use Rattle.std.proofs.lemmas.Result.{err_from_is_err_and}
use Rattle.forced.specs.Answers.{Told}
use Rattle.docket.proofs.Questions.{asked_some, asked_none}
use Rattle.docket.proofs.ForcedAsked.{forced_known, forced_none}
use Rattle.docket.proofs.Docket.forced_statuses.Goals as goal

pub returns-in_err-require_problem : goal.returns-in_err-require_problem
returns-in_err-require_problem c =
    let a = c.args in
    let h = asked_none a.self (sym c.require_problem.ensures.known ∙ c.in_err-require_problem.was) in
    let p = err_from_is_err_and c.from_residual.result c.from_residual.ensures.1 in
    let e = sym (forced_none a.self a.q.now a.s.now a.fixed.now a.values.now a.stuck.now h.0) in
    record { answer = p.1 ∙ ap Err (p.2 ∙ h.1) ∙ ap (λ (d : Told). d.answer) e; values = ap (λ (d : Told). d.values) e; stuck = ap (λ (d : Told). d.stuck) e }

pub returns : goal.returns
returns c =
    let a = c.args in
    let known = asked_some a.self (sym c.require_problem.ensures.known ∙ c.in_ok-require_problem.was) in
    let e = sym (forced_known a.self a.q.now a.s.now a.fixed.now a.values.now a.stuck.now known) in
    let r = c.answer_forced.ensures in
    record { answer = r.answer ∙ ap (λ (d : Told). d.answer) e; values = r.values ∙ ap (λ (d : Told). d.values) e; stuck = r.stuck ∙ ap (λ (d : Told). d.stuck) e }
