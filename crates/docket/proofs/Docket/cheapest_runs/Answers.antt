-- `cheapest_runs` meets its contract: a known problem decides; under none there is no answer.
use mathlib.Core.Path.{sym, ap, ◌∙◌}
use Rattle.std.specs.Prelude.{Err}
use Rattle.std.proofs.lemmas.Result.{err_from_is_err_and}
use Rattle.runs.specs.declared.question.Unanswered.{Unanswered}
use Rattle.runs.specs.declared.drafting.NoRuns.TheVariants.{Question}
use Rattle.runs.specs.Drafts.{Drafted}
use Rattle.docket.proofs.Questions.{asked_some, asked_none}
use Rattle.docket.proofs.RunsAsked.{runs_known, runs_none}
use Rattle.docket.proofs.Docket.cheapest_runs.Goals as goal

pub returns-in_err-require_problem : goal.returns-in_err-require_problem
returns-in_err-require_problem c =
    let a = c.args in
    let h = asked_none a.self (sym c.require_problem.ensures.known ∙ c.in_err-require_problem.was) in
    let p = err_from_is_err_and c.from_residual.result c.from_residual.ensures.1 in
    let e = sym (runs_none a.self a.q.now a.s.now a.fixed.now a.rows.now a.short.now h.0) in
    record {
      answer = p.1 ∙ ap Err p.2 ∙ ap (λ (why : Unanswered). Err (Question why)) h.1 ∙ ap (λ (d : Drafted). d.answer) e;
      rows = ap (λ (d : Drafted). d.rows) e;
      short = ap (λ (d : Drafted). d.short) e;
    }

pub returns : goal.returns
returns c =
    let a = c.args in
    let known = asked_some a.self (sym c.require_problem.ensures.known ∙ c.in_ok-require_problem.was) in
    let e = sym (runs_known a.self a.q.now a.s.now a.fixed.now a.rows.now a.short.now known) in
    let r = c.answer_runs.ensures in
    record { answer = r.answer ∙ ap (λ (d : Drafted). d.answer) e; rows = r.rows ∙ ap (λ (d : Drafted). d.rows) e; short = r.short ∙ ap (λ (d : Drafted). d.short) e }
