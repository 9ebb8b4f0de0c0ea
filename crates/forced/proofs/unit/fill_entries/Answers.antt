-- `fill_entries` meets its contract: the walk back is kept in a table of zeros, and the walk forward starts with nothing in its lists.
use mathlib.Core.Path.{◌≡◌, refl}
use mathlib.Core.Bool.{Bool, true, false, not}
use Prim.Native.Nat.{ℕ, ◌+◌, ◌≤◌, ◌<◌}
use native.Mathlib.Omega.{arith}
use lib.Dec.{T, leb, leb→le, nleb→lt}
use lib.ListN.{take, replicate, get_or-eq_default}
use Rattle.model.specs.Instance.{◌at◌}
use Rattle.walk.proofs.Fronts.{front_length, front_at}
use Rattle.runs.proofs.Tables.{states_fit}
use Rattle.runs.proofs.UnitRuns.{zeros_at}
use Rattle.forced.proofs.unit.fill_entries.Goals as goal

-- the front of an array of zeros has no other number anywhere
front-none : (n m : ℕ) → n ≤ m → (k : ℕ) → take n (replicate m 0) at k ≡ 0
front-none n m l k = go (leb n k) (λ t. leb→le n k t) (λ t. nleb→lt n k t)
  where
    go : (c : Bool) → (T c → n ≤ k) → (T (not c) → k < n) → take n (replicate m 0) at k ≡ 0
    go true f h = get_or-eq_default (take n (replicate m 0)) 0 {n = k} (omega (arith, front_length 0 n m l, f tt))
    go false f h = front_at 0 n m l k (h tt)

pub keep_walk-requires-clause-table_len : goal.keep_walk-requires-clause-table_len
keep_walk-requires-clause-table_len c = (refl, zeros_at 7105)

pub fill_forward-requires-clause-by_index : goal.fill_forward-requires-clause-by_index
fill_forward-requires-clause-by_index c =
    let up = c.args.unit.generator.TU in
    let down = c.args.unit.generator.TD + c.args.unit.generator.Tcold + 1 in
    let l : (up ≤ 48) × (down ≤ 97) = states_fit c.args.unit.generator c.args.unit.good (refl, refl) in
    (front-none up 48 l.0, front-none down 97 l.1)
