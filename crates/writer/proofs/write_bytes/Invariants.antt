-- The bytes passed stand at the front.
use Rattle.std.proofs.Common.{◌≡◌, take}
use Rattle.writer.specs.Written.{over}
use Rattle.writer.proofs.write_bytes.Given as goal

abbrev pub invariant-loop-i : goal.invariant-loop-i
invariant-loop-i l = l.buf ≡ over (take l.i l.bytes) l.initial.buf
