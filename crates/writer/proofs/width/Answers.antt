-- The power of ten below n says how many digits n has; a number below 10 has one.
use native.Mathlib.Omega.{arith}
use Prim.Native.Nat.{◌*◌, ◌^◌, ◌≤◌, ◌<◌}
use Rattle.decimal.proofs.Digits.{width_small}
use Rattle.writer.proofs.Sizes.{width_is}
use Rattle.writer.proofs.width.Goals as goal

pub returns-then-n-lt10-clause-value : goal.returns-then-n-lt10-clause-value
returns-then-n-lt10-clause-value c = omega (arith, width_small c.args.n c.if-n-lt10.true)

pub returns-clause-value : goal.returns-clause-value
returns-clause-value c =
    let k = c.ilog10 in
    let low : 10 ^ k.result ≤ c.args.n = omega (arith, k.ensures.power_le) in
    let high : c.args.n < 10 * 10 ^ k.result = omega (arith, k.ensures.next_power_gt) in
    omega (arith, width_is k.result c.args.n low high)
