use Prim.Native.Nat.{◌+◌, ◌≤◌, max}
use mathlib.Core.Path.{◌≡◌}
use lib.ListN.{length, drop}
use Rattle.text.specs.Lines.{begins}
use Rattle.text.proofs.starts.Given as goal

abbrev pub invariant-loop-j : goal.invariant-loop-j
invariant-loop-j l = (l.at + l.j ≤ max l.at (length l.s)) × (begins (drop l.j l.key) (drop (l.at + l.j) l.s) ≡ begins l.key (drop l.at l.s))
