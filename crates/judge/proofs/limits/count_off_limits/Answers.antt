use mathlib.Core.Bool.{not, ◌&&◌}
use native.Mathlib.Omega.{arith}
use lib.Dec.{leb}
use Rattle.model.specs.Instance.{◌at◌}
use Rattle.model.specs.Rules.{on}
use Rattle.model.specs.Breach.{off_limits}
use Rattle.judge.specs.Counts.{bit}
use Rattle.judge.proofs.Sums.{sum_next}
use Rattle.judge.proofs.Counts.{bit_most}
use Rattle.judge.proofs.limits.count_off_limits.Goals as goal

pub loop-output-preserved : goal.loop-output-preserved
loop-output-preserved c =
    let a = c.args in
    let l = c.loop-output in
    let p = a.row.now at l.output-index in (
      omega (arith, c.count_off-n.ensures, l.invariant.0, bit_most (on p && not (leb a.g.pL p && leb p a.g.pU))),
      omega (arith, c.count_off-n.ensures, l.invariant.1, sum_next l.output-index (λ i. bit (off_limits i a.g a.row.now))),
    )
