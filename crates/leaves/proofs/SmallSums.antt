-- Sums of small values as signed 64-bit numbers, and small answers.
use mathlib.Core.Path.{◌≡◌}
use mathlib.Core.Bool.{Bool, true, false, cond}
use Prim.Native.Nat.{ℕ, suc, ◌-◌, ◌^◌, ◌≤◌, ◌<◌}
use native.Mathlib.Omega.{arith}
use lib.Dec.{ltb}
use lib.IntN.{ℤ, pos, negsuc, sub_ℕ, ◌+ℤ◌}
use lib.Signed.{mag}
use mir.Syntax.{w64}
use mir.Val.{SFits}
use Rattle.model.proofs.Integers.{up, down}
use Rattle.least.specs.UnitLeasts.{Least}
use Rattle.std.specs.Prelude.{None, Some}
use Rattle.leaves.specs.Limits.{Small, SmallLeast}

mag_either : (t : Bool) (x y k : ℕ) → x < k → y < k → mag (cond t (negsuc x) (pos y)) < k
mag_either true x y k h j = h
mag_either false x y k h j = j

mag_sub : (a b k : ℕ) → a < k → b ≤ k → mag (sub_ℕ a b) < k
mag_sub a b k h j = mag_either (ltb a b) (b - suc a) (a - b) k (omega arith) (omega arith)

mag_add : (x y : ℤ) → Small x → Small y → mag (x +ℤ y) < 2 ^ 62
mag_add (pos a) (pos b) h j = omega arith
mag_add (pos a) (negsuc b) h j = mag_sub a (suc b) (2 ^ 62) (omega arith) (omega arith)
mag_add (negsuc a) (pos b) h j = mag_sub b (suc a) (2 ^ 62) (omega arith) (omega arith)
mag_add (negsuc a) (negsuc b) h j = omega arith

pub add_fits : (x y : ℤ) → Small x → Small y → SFits w64 (x +ℤ y)
add_fits x y h j = record { sfits = omega (arith, mag_add x y h j) }

-- what is small in naturals
pub small_of : (z : ℤ) → up z ≤ 100_000_000_000_000_000 → down z ≤ 100_000_000_000_000_000 → Small z
small_of (pos a) h j = omega arith
small_of (negsuc a) h j = omega arith

-- ---- answers

pub small_least : (b : Bool) (z : ℤ) → Small z → SmallLeast (cond b None (Some z))
small_least true z h = tt
small_least false z h = h

pub small_told : (l : Least) (v : ℤ) → Some v ≡ l → SmallLeast l → Small v
small_told None v e h = absurd (let i : ◌≡◌ {A = ℕ} 0 1 = cc in omega arith)
small_told (Some w) v e h =
    let i : v ≡ w = cc in
    rw i h
