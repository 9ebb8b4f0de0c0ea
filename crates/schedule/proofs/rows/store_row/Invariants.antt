-- `store_row` meets its contract. The invariant: the first t values are stored.
use mathlib.Core.Path.{◌≡◌}
use lib.Seq.{paste}
use Rattle.schedule.proofs.rows.store_row.Given as goal

abbrev pub invariant-loop-t : goal.invariant-loop-t
invariant-loop-t l = l.rows ≡ paste l.initial.rows l.from l.values l.t
