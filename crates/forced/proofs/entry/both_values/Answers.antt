-- `both_values` meets its contract: there is a sum where both values are there.
use mathlib.Core.Path.{sym}
use mathlib.Core.Logic.{⊎_elim}
use native.Mathlib.Omega.{arith}
use Rattle.model.proofs.CodedSums.{both_some}
use Rattle.forced.proofs.JoinedEntries.{none_left, none_right}
use Rattle.forced.proofs.entry.both_values.Goals as goal

pub returns-then-y-eq0 : goal.returns-then-y-eq0
returns-then-y-eq0 c = let a = c.args in ⊎_elim (none_left a.x a.y) (λ h. none_right a.x a.y h.1) c.if-y-eq0.either

pub returns-else-y-eq0 : goal.returns-else-y-eq0
returns-else-y-eq0 c = let a = c.args in sym (both_some a.x a.y (omega arith) (omega arith))
