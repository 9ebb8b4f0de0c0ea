-- `sum_offset` meets its contract. The loop's invariant: the sum is that of the periods passed.
use Rattle.std.proofs.Common.{◌≡◌, ◌+◌, ◌*◌, length}
use Rattle.model.specs.Instance.{◌at◌, sum as sum_of}
use Rattle.least.proofs.unit.sum_offset.Given as goal

abbrev pub invariant-loop-q : goal.invariant-loop-q
invariant-loop-q l = l.sum ≡ sum_of (length l.yielded) (λ i. (l.fn.q at i + l.fn.s at i) * l.unit.generator.pU)
