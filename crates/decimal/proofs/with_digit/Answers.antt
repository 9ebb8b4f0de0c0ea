-- `with_digit` meets its contract: below a tenth of the cap the value itself, and else the cap.
use native.Mathlib.Omega.{arith}
use Rattle.decimal.proofs.Digits.{digit_range}
use Rattle.decimal.proofs.with_digit.Goals as goal

pub overflow_sub-b : goal.overflow_sub-b
overflow_sub-b c =
    let b = digit_range c.args.b c.requires in
    omega arith

pub returns-then-v : goal.returns-then-v
returns-then-v c =
    let b = digit_range c.args.b c.requires in
    omega arith
