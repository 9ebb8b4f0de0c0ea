-- The loop's invariant: the digits from at + k on, after digits of this value, are those that stand at `at`.
use Prim.Native.Nat.{◌+◌, ◌≤◌}
use mathlib.Core.Path.{◌≡◌}
use Rattle.decimal.specs.NumberRead.{read_cap, digits_after, digits_at}
use Rattle.decimal.proofs.read_first.Given as goal

abbrev pub invariant-loop-k : goal.invariant-loop-k
invariant-loop-k l = (l.value ≤ read_cap) × (digits_after l.value l.s (l.at + l.k) ≡ digits_at l.s l.at)
