-- The rows in the front of the array are judged, and the answer is what the rules say of them.
use native.Mathlib.Omega.{arith}
use mathlib.Core.Path.{◌≡◌, sym, ap, ◌∙◌}
use lib.ListN.{length}
use borrow.Author.Rules.{rules}
use Rattle.model.specs.Held.{view}
use Rattle.judge.specs.Rows.{schedule_of}
use Rattle.judge.specs.Judgement.{judgement}
use Rattle.schedule.specs.ReadAnswers.{in_arrays}
use Rattle.schedule.proofs.CutRows.{cut_take}
use Rattle.schedule.proofs.Ruling.{ruled_breaks, ruled_costs, accepted_held}
use Rattle.schedule.proofs.Runs.{rows_fit}
use Rattle.schedule.proofs.judge_rows.Goals as goal

pub overflow_mul-n : goal.overflow_mul-n
overflow_mul-n c = omega (arith, rows_fit c.args.problem c.requires.0 c.args.problem.units (omega arith))

pub slice_bounds-rows-end : goal.slice_bounds-rows-end
slice_bounds-rows-end c =
    let room : length c.args.rows ≡ 1536 = search rules in
    omega (arith, rows_fit c.args.problem c.requires.0 c.args.problem.units (omega arith))

pub returns-in-Err : goal.returns-in-Err
returns-in-Err c =
    let a = c.args in
    let judged = ap (judgement (view a.problem)) (sym (cut_take a.problem.units a.problem.periods a.rows)) ∙ sym c.judge.ensures ∙ c.in-Err.is in
    c.refuse_text.ensures ∙ ap in_arrays (ruled_breaks (view a.problem) (schedule_of a.problem a.rows) a.writer _ judged)

pub returns-in-Ok : goal.returns-in-Ok
returns-in-Ok c =
    let a = c.args in
    let judged = ap (judgement (view a.problem)) (sym (cut_take a.problem.units a.problem.periods a.rows)) ∙ sym c.judge.ensures ∙ c.in-Ok.is in
    accepted_held a.problem.units a.problem.periods a.rows a.writer _ c.requires.1
    ∙ ap in_arrays (ruled_costs (view a.problem) (schedule_of a.problem a.rows) a.writer _ judged)
