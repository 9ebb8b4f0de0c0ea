-- `lay_out` meets its contract. The loop's invariant: the first 98 + u * 16 numbers are stored.
use mathlib.Core.Path.{◌≡◌}
use lib.ListN.{length}
use Rattle.layout.proofs.Stored.{begun}
use Rattle.layout.proofs.lay_out.Given as goal

abbrev pub invariant-loop-u : goal.invariant-loop-u
invariant-loop-u l = (length l.numbers ≡ 610) × (l.numbers ≡ begun l.initial.numbers l.fn.problem.generators l.u)
