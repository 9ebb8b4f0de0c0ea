-- `store` meets its contract. The loop's invariant: the first i values are stored.
use mathlib.Core.Path.{◌≡◌}
use lib.Seq.{paste}
use Rattle.layout.proofs.copies.store.Given as goal

abbrev pub invariant-loop-i : goal.invariant-loop-i
invariant-loop-i g l = l.numbers ≡ paste l.initial.numbers l.from l.values l.i
