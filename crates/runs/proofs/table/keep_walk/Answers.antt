-- `keep_walk` meets its contract: the values after the last period are all ones.
use mathlib.Core.Path.{refl}
use Prim.Native.Nat.{◌+◌, ◌≤◌}
use Rattle.walk.proofs.Fronts.{front_at}
use Rattle.runs.proofs.Tables.{states_fit}
use Rattle.runs.proofs.table.keep_walk.Goals as goal

pub store_back-requires-clause-by_index : goal.store_back-requires-clause-by_index
store_back-requires-clause-by_index c =
    let up = c.args.unit.generator.TU in
    let down = c.args.unit.generator.TD + c.args.unit.generator.Tcold + 1 in
    let l : (up ≤ 48) × (down ≤ 97) = states_fit c.args.unit.generator c.args.unit.good (refl, refl) in
    (front_at 1 up 48 l.0, front_at 1 down 97 l.1)
