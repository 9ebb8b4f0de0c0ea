-- The loop's invariant: the digits from i on, after digits of this value, are those that stand at `at` after digits of value v.
use Prim.Native.Nat.{◌≤◌, max}
use mathlib.Core.Path.{◌≡◌}
use lib.ListN.{length}
use Rattle.decimal.specs.NumberRead.{read_cap, digits_after}
use Rattle.decimal.proofs.read_rest.Given as goal

abbrev pub invariant-loop-i : goal.invariant-loop-i
invariant-loop-i l = ((l.value ≤ read_cap) × (l.i ≤ max l.at (length l.s))) × (digits_after l.value l.s l.i ≡ digits_after l.v l.s l.at)
