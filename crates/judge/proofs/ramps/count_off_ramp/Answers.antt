use mathlib.Core.Path.{◌≡◌, sym, ap, ◌∙◌}
use Prim.Native.Nat.{ℕ, ◌-◌}
use native.Mathlib.Omega.{arith}
use lib.ListN.{length}
use Rattle.model.specs.Instance.{◌at◌, sum}
use Rattle.judge.proofs.Sums.{sum_next}
use Rattle.judge.proofs.Counts.{steep, steep_most, steep_later, steep_breaches}
use Rattle.judge.proofs.ramps.count_off_ramp.Goals as goal

pub loop-t-preserved : goal.loop-t-preserved
loop-t-preserved c =
    let a = c.args in
    let l = c.loop-t in
    let found = c.count_steep-n-in-loop-t.ensures in
    let k = found ∙ sym (steep_later a.unit.generator.UR a.unit.generator.DR a.unit.generator.p0 a.row.now l.t (omega arith)) in (
      omega (arith, found, l.invariant.0, steep_most a.unit.generator.UR a.unit.generator.DR (a.row.now at (l.t - 1)) (a.row.now at l.t)),
      omega (arith, k, l.invariant.1, sum_next l.t (steep a.unit.generator.UR a.unit.generator.DR a.unit.generator.p0 a.row.now)),
    )

pub returns : goal.returns
returns c =
    let a = c.args in
    let l = c.loop-t in
    let e : l.t ≡ length a.row.now = omega (arith, c.requires.1) in
    l.invariant.1
    ∙ ap (λ (n : ℕ). sum n (steep a.unit.generator.UR a.unit.generator.DR a.unit.generator.p0 a.row.now)) e
    ∙ steep_breaches a.unit.generator c.args.unit.good a.row.now (length a.row.now)
