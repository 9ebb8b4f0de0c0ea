-- The arrays of the struct Problem hold a well-formed problem whole: what is padded is taken away again.
use mathlib.Core.Path.{◌≡◌, refl}
use mathlib.Core.List.{List}
use Prim.Native.Nat.{ℕ, ◌-◌, ◌≤◌}
use native.Mathlib.Omega.{arith}
use lib.ListN.{length, take, replicate, length-append, length-replicate}
use lib.Seq.{take_at}
use Rattle.model.specs.Instance.{Instance}
use Rattle.model.specs.Ranges.{WellFormed}
use Rattle.model.specs.Held.{view, held, pad, blank_generator, Valid}

module _ {A : Type 0} (z : A) (n : ℕ) (l : List A) where
  -- what was padded, without the padding
  pub take_pad : (k : ℕ) → length l ≡ k → take k (pad z n l) ≡ l
  unfolding pad
  take_pad k e = take_at l (replicate (n - length l) z) k e

  -- a list that fits is padded to the whole length
  pub length_pad : length l ≤ n → length (pad z n l) ≡ n
  unfolding pad
  length_pad h = simp (length-append, length-replicate) (omega arith)

pub view_held : (P : Instance) → WellFormed P → view (held P) ≡ P
unfolding view held
view_held P W =
    rw (
      take_pad 0 48 P.demand P.periods W.demand_long,
      take_pad 0 48 P.spare P.periods W.spare_long,
      take_pad blank_generator 32 P.units (length P.units) refl,
    ) refl

-- what is held is valid
pub held_valid : (P : Instance) → WellFormed P → Valid (held P)
unfolding held
held_valid P W = record { units_fit = W.units_in.1; well_formed = rw (view_held P W) W }
