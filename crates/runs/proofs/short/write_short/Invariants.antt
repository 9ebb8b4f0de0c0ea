-- `write_short` meets its contract. The loop's invariant: the periods passed have their shortfalls.
use mathlib.Core.Path.{◌≡◌}
use Prim.Native.Nat.{ℕ, ◌<◌}
use Rattle.model.specs.Instance.{◌at◌}
use Rattle.layout.specs.Numbers.{instance_in}
use Rattle.runs.proofs.Columns.{short_at}
use Rattle.runs.proofs.short.write_short.Given as goal

abbrev pub invariant-loop-t : goal.invariant-loop-t
invariant-loop-t l = (k : ℕ) → k < l.t → l.short at k ≡ short_at (instance_in l.plan.numbers.now) l.rows k
