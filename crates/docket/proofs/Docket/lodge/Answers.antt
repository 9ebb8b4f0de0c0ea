-- `lodge` meets its contract: each case of the admission, whose text is of its kind, and whose problem is valid where one is known.
use Rattle.std.specs.Prelude.{Ok}
use mathlib.Core.Path.{◌≡◌, sym, ap, ◌∙◌}
use mathlib.Core.Bool.{Bool, true}
use lib.ListN.{length}
use Rattle.model.specs.Held.{Valid}
use Rattle.model.proofs.Valid.{valid_is}
use Rattle.docket.specs.Lodging.{admit, trusted}
use Rattle.docket.proofs.HoldingAnswers.{admitted_problem, admitted_schedule, admitted_tree, knows_valid, refused_lodged, problem_lodged, schedule_lodged, tree_lodged}
use borrow.Author.Rules.{rules}
use Rattle.docket.proofs.Docket.lodge.Goals as goal
use Rattle.docket.proofs.Docket.lodge.Tie as tie
use Rattle.docket.proofs.Docket.lodge.Reads as reads
use Rattle.docket.proofs.Docket.lodge.Lts as lts

-- the arrays have their lengths
loads : (c : lts.Start tie.the-claims reads.Pre reads.Post tie.handed_clauses) → (length c.args.self.problem.demand ≡ 48) × (length c.args.self.problem.spare ≡ 48)
loads c = (search rules, search rules)

many : (c : lts.Start tie.the-claims reads.Pre reads.Post tie.handed_clauses) → length c.args.self.problem.generators ≡ 32
many c = c.well_formed.0.1.1.1.0.1.1.1.1.1.1.0.1.0.1

-- so a known problem is valid
valid : (c : lts.Start tie.the-claims reads.Pre reads.Post tie.handed_clauses) → (trusted c.args.self).known ≡ true → Valid c.args.self.problem
valid c k = (valid_is c.args.self.problem (loads c).0 (loads c).1 (many c)).0 (knows_valid c.args.self k)

-- the admission, by what is known
known_by : (c : lts.After-admit tie.the-claims reads.Pre reads.Post tie.handed_clauses) → let a = c.args in admit (trusted a.self).known a.text.now ≡ c.admit.result
known_by c =
    ap (λ (b : Bool). admit b c.args.text.now) (sym c.knows.ensures)
    ∙ sym c.admit.ensures

pub lodge_problem-requires : goal.lodge_problem-requires
lodge_problem-requires c = (admitted_problem _ _ (known_by c.before.before ∙ c.in-Ok-Problem.is ∙ ap Ok c.in-Ok-Problem.field-0-is)).kind_is

pub lodge_schedule-requires : goal.lodge_schedule-requires
lodge_schedule-requires c =
    let m = admitted_schedule _ _ (known_by c.before.before ∙ c.in-Ok-Schedule.is ∙ ap Ok c.in-Ok-Schedule.field-0-is) in
    record { valid = valid c.before.before.before.before.before m.known_is; schedule = m.kind_is }

pub lodge_tree-requires : goal.lodge_tree-requires
lodge_tree-requires c =
    let m = admitted_tree _ _ (known_by c.before.before ∙ c.in-Ok-Tree.is ∙ ap Ok c.in-Ok-Tree.field-0-is) in
    record { valid = valid c.before.before.before.before.before m.known_is; text_len_bound = m.is_short; tree = m.kind_is }

pub returns-in-Err : goal.returns-in-Err
returns-in-Err c = sym (refused_lodged _ _ _ (known_by c.before.before ∙ c.in-Err.is))

pub returns-in-Ok-Problem : goal.returns-in-Ok-Problem
returns-in-Ok-Problem c = c.lodge_problem.ensures ∙ sym (problem_lodged _ _ (known_by c.before.before.before ∙ c.in-Ok-Problem.is ∙ ap Ok c.in-Ok-Problem.field-0-is))

pub returns-in-Ok-Schedule : goal.returns-in-Ok-Schedule
returns-in-Ok-Schedule c = c.lodge_schedule.ensures ∙ sym (schedule_lodged _ _ (known_by c.before.before.before ∙ c.in-Ok-Schedule.is ∙ ap Ok c.in-Ok-Schedule.field-0-is))

pub returns-in-Ok-Tree : goal.returns-in-Ok-Tree
returns-in-Ok-Tree c = c.lodge_tree.ensures ∙ sym (tree_lodged _ _ (known_by c.before.before.before ∙ c.in-Ok-Tree.is ∙ ap Ok c.in-Ok-Tree.field-0-is))
