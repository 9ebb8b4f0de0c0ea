-- The count is that of the periods passed, the first from the output at midnight.
use mathlib.Core.Path.{◌≡◌}
use Prim.Native.Nat.{◌≤◌}
use Rattle.model.specs.Instance.{sum}
use Rattle.judge.proofs.Counts.{steep}
use Rattle.judge.proofs.ramps.count_off_ramp.Given as goal

abbrev pub invariant-loop-t : goal.invariant-loop-t
invariant-loop-t l = (l.n ≤ l.t) × (l.n ≡ sum l.t (steep l.up l.down l.midnight l.row))
