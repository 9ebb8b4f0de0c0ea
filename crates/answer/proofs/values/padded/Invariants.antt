-- The numbers passed stand at the front, and zeros behind them.
use Rattle.std.proofs.Common.{◌≡◌, take, replicate}
use Rattle.writer.specs.Written.{over}
use Rattle.answer.proofs.values.padded.Given as goal

abbrev pub invariant-loop-i : goal.invariant-loop-i
invariant-loop-i l = l.numbers ≡ over (take l.i l.first) (replicate 16 0)
