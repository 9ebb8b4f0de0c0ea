-- What holds of each number of a list holds of all.
use Prim.Native.Nat.{ℕ, suc, ◌<◌}
use native.Mathlib.Omega.{arith}
use mathlib.Core.List.{List, [], ◌∷◌}
use lib.ListN.{length, get_or}
use Rattle.model.specs.Ranges.{All}

pub all_from : (R : ℕ → Type 0) (vs : List ℕ) → ((i : ℕ) → i < length vs → R (get_or vs i 0)) → All R vs
all_from R [] h = tt
all_from R (v ∷ vs) h = (h 0 (omega arith), all_from R vs (λ i k. h (suc i) (omega arith)))
