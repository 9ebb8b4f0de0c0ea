-- The difference of two natural numbers as a signed 64-bit number.
use mathlib.Core.Path.{◌≡◌, ap₂, ◌∙◌}
use mathlib.Core.Bool.{Bool, true, false, cond}
use Prim.Native.Nat.{ℕ, zero, suc, ◌-◌, ◌^◌, ◌<◌}
use native.Mathlib.Omega.{arith}
use lib.Dec.{ltb}
use lib.IntN.{pos, negsuc, ◌-ℤ◌}
use mir.Syntax.{w64}
use mir.Val.{SFits, to_z, of_z}
use mir.ValLaws.{to_z_pos, to_z-of_z}

pub pos_fits : (x : ℕ) → x < 2 ^ 63 → SFits w64 (pos x)
pos_fits x h = record { sfits = h }

sub_fits : (x y : ℕ) → x < 2 ^ 63 → y < 2 ^ 63 → SFits w64 (pos x -ℤ pos y)
sub_fits x zero h k = record { sfits = omega arith }
sub_fits x (suc y) h k = go (ltb x (suc y))
  where
    go : (t : Bool) → SFits w64 (cond t (negsuc (suc y - suc x)) (pos (x - suc y)))
    go true = record { sfits = omega arith }
    go false = record { sfits = omega arith }

pub read_sub_fits : (x y : ℕ) → x < 2 ^ 63 → y < 2 ^ 63 → SFits w64 (to_z w64 x -ℤ to_z w64 y)
read_sub_fits x y h k = rw (to_z_pos w64 x h, to_z_pos w64 y k) (sub_fits x y h k)

pub read_sub : (x y : ℕ) → x < 2 ^ 63 → y < 2 ^ 63 → to_z w64 (of_z w64 (to_z w64 x -ℤ to_z w64 y)) ≡ pos x -ℤ pos y
read_sub x y h k = to_z-of_z w64 (to_z w64 x -ℤ to_z w64 y) (read_sub_fits x y h k) ∙ ap₂ ◌-ℤ◌ (to_z_pos w64 x h) (to_z_pos w64 y k)
