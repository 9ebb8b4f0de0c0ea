-- A list of zeros is within every range that begins at 0.
use Prim.Native.Nat.{ℕ, zero, suc}
use native.Mathlib.Omega.{arith}
use lib.ListN.{replicate}
use Rattle.model.specs.Ranges.{All, Between}

pub zeros_in : (most n : ℕ) → All (λ v. Between 0 v most) (replicate n 0)
zeros_in most zero = tt
zeros_in most (suc n) = ((omega arith, omega arith), zeros_in most n)
