-- The front of an array that holds one number everywhere.
use mathlib.Core.Path.{◌≡◌, ◌∙◌}
use Prim.Native.Nat.{ℕ, ◌≤◌, ◌<◌}
use native.Mathlib.Omega.{arith}
use lib.ListN.{length, take, replicate, length-replicate, get_or-replicate}
use lib.Seq.{length-take-le, get_or-take}
use Rattle.model.specs.Instance.{◌at◌}

module _ (z n m : ℕ) (l : n ≤ m) where
  pub front_length : length (take n (replicate m z)) ≡ n
  front_length = length-take-le n (replicate m z) (rw length-replicate l)

  pub front_at : (k : ℕ) → k < n → take n (replicate m z) at k ≡ z
  front_at k i = get_or-take n (replicate m z) k 0 i ∙ get_or-replicate m k z 0 (omega arith)
