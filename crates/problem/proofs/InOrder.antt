-- The numbers of a problem's lines are tried in document 01's order, whatever is due.
use mathlib.Core.Bool.{not}
use mathlib.Core.List.{[], ◌∷◌}
use Rattle.model.specs.Ranges.{ordered}
use Rattle.text.specs.Lines.{Line, end_problem}
use Rattle.text.specs.Tests.{◌if◌}
use Rattle.text.proofs.InOrder.{no_more, taken, InOrder, form_in_order, word_in_order, nothing_in_order}
use Rattle.problem.specs.Units.{unit_form, unit_of}
use Rattle.problem.specs.Refusals.{periods_form, units_form, demand_form, spare_form}
use Rattle.problem.specs.Course.{Due, periods_due, units_due, demand_due, spare_due, unit_due, end_due, nothing_due, tests}

pub in_order : (s : Due) (l : Line) → InOrder (tests s l)
in_order periods_due l = form_in_order periods_form l [] no_more
in_order (units_due T) l = form_in_order units_form l [] no_more
in_order (demand_due T I) l = form_in_order (demand_form T) l [] no_more
in_order (spare_due T I D) l = form_in_order (spare_form T) l [] no_more
in_order (unit_due n P) l = form_in_order unit_form l (15 if not (ordered (unit_of l)) ∷ []) (taken no_more)
in_order (end_due P) l = word_in_order end_problem l
in_order (nothing_due P) l = nothing_in_order
