-- Document 02, [5] and [7]: the multipliers and the fixed statuses that a question about a problem names.
use Rattle.std.specs.Prelude.{Bool, ◌&&◌, List, ℕ, ◌*◌, eqb, leb, length}
use Rattle.model.specs.Ranges.{every}
use Rattle.walk.specs.Marks.{is_status}

-- a multiplier
abbrev pub is_price : ℕ → Bool
is_price v = leb v 1000000000

-- I-as-T statuses
abbrev pub statuses_in : ℕ → ℕ → List ℕ → Bool
statuses_in T I fixed = eqb (length fixed) (I * T) && every is_status fixed

-- T multipliers of either kind, and I-as-T statuses
abbrev pub asked_in : ℕ → ℕ → List ℕ → List ℕ → List ℕ → Bool
asked_in T I q s fixed = eqb (length q) T && (eqb (length s) T && (every is_price q && (every is_price s && statuses_in T I fixed)))
