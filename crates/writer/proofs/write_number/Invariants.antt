use Prim.Native.Nat.{ℕ, ◌≤◌}
use mathlib.Core.Path.{◌≡◌}
use mathlib.Core.List.{List, ◌++◌}
use lib.ListN.{length, take, drop}
use Rattle.decimal.proofs.Digits.{fixed}
use Rattle.writer.proofs.write_number.Given as goal

abbrev pub invariant-loop-i : goal.invariant-loop-i
invariant-loop-i l = (t : List ℕ) × (fixed l.w l.n ≡ fixed l.i l.m ++ t) × (l.buf ≡ take l.i l.initial.buf ++ (t ++ drop l.w l.initial.buf)) × (l.i ≤ l.w) × (length l.buf ≡ length l.initial.buf)
