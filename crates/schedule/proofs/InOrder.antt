-- The numbers of a schedule's lines are tried in document 01's order, whatever is due.
use mathlib.Core.List.{[]}
use Rattle.model.specs.Instance.{Instance}
use Rattle.text.specs.Lines.{Line, end_schedule}
use Rattle.text.specs.Writer.{writer_form}
use Rattle.text.proofs.InOrder.{no_more, InOrder, form_in_order, word_in_order, nothing_in_order}
use Rattle.schedule.specs.Refusals.{run_form}
use Rattle.schedule.specs.Course.{Due, writer_due, run_due, end_due, nothing_due, tests}

pub in_order : (P : Instance) (s : Due) (l : Line) → InOrder (tests P s l)
in_order P writer_due l = form_in_order writer_form l [] no_more
in_order P (run_due n v) l = form_in_order (run_form P.periods) l [] no_more
in_order P (end_due v) l = word_in_order end_schedule l
in_order P (nothing_due v) l = nothing_in_order
