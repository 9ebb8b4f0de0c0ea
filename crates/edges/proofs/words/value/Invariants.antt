-- `value` meets its contract. The loop's invariant: the bytes that are left, after digits of this value, say what all say.
use Rattle.std.proofs.Common.{◌<◌}
use Rattle.edges.specs.Numbers.{limit}
use Rattle.edges.proofs.OrderNumbers.{Left}
use Rattle.edges.proofs.words.value.Given as goal

abbrev pub invariant-loop-b : goal.invariant-loop-b
invariant-loop-b l = (l.v < limit) × Left l.s l.b-index l.v
