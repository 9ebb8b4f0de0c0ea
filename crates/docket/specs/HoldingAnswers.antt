-- What the code of lodging follows: what is done with the answers of the readers of problems, schedules and trees.
use Rattle.std.specs.Prelude.{cond, List, ℕ, Some, Result, Ok, Err}
use Rattle.model.specs.declared.arrays.Problem.{Problem}
use Rattle.model.specs.declared.figures.TreeFigures.{TreeFigures}
use Rattle.refusal.specs.declared.Refusal.{Refusal}
use Rattle.schedule.specs.declared.Priced.{Priced}
use Rattle.tree.specs.declared.TreeRead.{TreeRead}
use Rattle.docket.specs.declared.Docket.{Docket}
use Rattle.docket.specs.declared.Lodged.{Lodged}
use Rattle.answer.specs.declared.Answer.TheVariants.{Refused, TextHeld, ScheduleHeld, SchedulePassed, TreeHeld, TreePassed}
use Rattle.docket.specs.Lodging.{lodged, with_held, with_problem, is_less, is_higher, bound_by}

-- a problem's text, read
abbrev pub hold_problem : Docket → Result Problem Refusal → Lodged
hold_problem was (Err r) = lodged was (Refused r)
hold_problem was (Ok p) = lodged (with_problem p) TextHeld

-- a schedule's, with its rows in an array
abbrev pub hold_rows : Docket → Priced → List ℕ → Lodged
hold_rows d s rows =
    cond (is_less s.cost d.held.cost)
    (lodged (with_held d (record { cost = Some (record { cost = s.cost; writer = s.writer }); bound = d.held.bound }) rows) (ScheduleHeld s.cost))
    (lodged d (SchedulePassed s.cost))

abbrev pub hold_schedule : Docket → Result Priced Refusal → List ℕ → Lodged
hold_schedule d (Err r) rows = lodged d (Refused r)
hold_schedule d (Ok s) rows = hold_rows d s rows

-- a tree's, with its figures
abbrev pub hold_figures : Docket → ℕ → TreeFigures → Lodged
hold_figures d w f =
    cond (is_higher f.bound d.held.bound)
    (lodged (with_held d (record { cost = d.held.cost; bound = bound_by f.bound w }) d.rows) (TreeHeld f))
    (lodged d (TreePassed f))

abbrev pub hold_tree : Docket → Result TreeRead Refusal → Lodged
hold_tree d (Err r) = lodged d (Refused r)
hold_tree d (Ok t) = hold_figures d t.writer t.figures
