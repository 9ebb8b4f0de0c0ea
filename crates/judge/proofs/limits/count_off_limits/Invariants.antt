-- The count is that of the periods passed.
use mathlib.Core.Path.{◌≡◌}
use mathlib.Core.Bool.{not, ◌&&◌}
use Prim.Native.Nat.{◌≤◌}
use lib.Dec.{leb}
use Rattle.model.specs.Instance.{◌at◌, sum}
use Rattle.model.specs.Rules.{on}
use Rattle.judge.specs.Counts.{bit}
use Rattle.judge.proofs.limits.count_off_limits.Given as goal

abbrev pub invariant-loop-output : goal.invariant-loop-output
invariant-loop-output l =
    (l.n ≤ l.output-index) × (l.n ≡ sum l.output-index (λ i. bit (on (l.row at i) && not (leb l.low (l.row at i) && leb (l.row at i) l.high))))
