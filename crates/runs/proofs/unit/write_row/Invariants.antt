-- `write_row` meets its contract. The loop's invariant: the outputs written, and behind them the row of the run that is left, are the row of the whole run.
use Prim.Native.Nat.{◌+◌, ◌≤◌}
use Rattle.runs.proofs.Forward.{Written}
use Rattle.runs.proofs.unit.write_row.Given as goal

abbrev pub invariant-loop-t : goal.invariant-loop-t
invariant-loop-t l = (1 ≤ l.k) × (l.k ≤ 1000 + l.t) × Written l.unit.generator l.q l.on l.off l.fixed l.row l.t l.status l.k
