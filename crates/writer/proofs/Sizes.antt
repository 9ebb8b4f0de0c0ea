-- A whole number and its size: below 0 the figure is the size behind a minus, from 0 up the size. How many digits there are between two powers of ten.
use Rattle.std.specs.Prelude.{unsigned_abs}
use Prim.Native.Nat.{ℕ, zero, suc, ◌*◌, ◌/◌, ◌≤◌, ◌<◌, ◌^◌}
use native.Mathlib.Nat.{pow-suc}
use native.Mathlib.Omega.{arith}
use mathlib.Core.Path.{◌≡◌, refl}
use mathlib.Core.Bool.{true, false}
use borrow.Author.Tests.{ltb-true}
use lib.ListN.{length}
use lib.IntN.{ℤ, pos, negsuc}
use lib.Signed.{lt_z}
use Rattle.decimal.specs.Decimal.{digits}
use Rattle.decimal.proofs.Digits.{width_small, width_large}
use Rattle.writer.specs.Written.{figure_of}
use Rattle.writer.specs.declared.Figure.TheVariants.{Number, Minus}

pub minus_is : (a : ℤ) → lt_z a (pos 0) ≡ true → Minus (unsigned_abs a) ≡ figure_of a
unfolding figure_of
minus_is (pos n) e = let k : n < 0 = ltb-true n 0 e in absurd (omega arith)
minus_is (negsuc n) e = refl

pub number_is : (a : ℤ) → lt_z a (pos 0) ≡ false → Number (unsigned_abs a) ≡ figure_of a
unfolding figure_of
number_is (pos n) e = refl
number_is (negsuc n) e = let z : ◌≡◌ {A = ℕ} 0 1 = cc in absurd (omega arith)

-- from 10 to the k on and below ten times that, there are k + 1 digits
pub width_is : (k n : ℕ) → 10 ^ k ≤ n → n < 10 * 10 ^ k → length (digits n) ≡ suc k
width_is zero n h l = width_small n l
width_is (suc k) n h l =
    let low : 10 ^ k * 10 ≤ n = rw pow-suc at h in
    let high : n < 10 * (10 ^ k * 10) = rw pow-suc at l in
    omega (arith, width_large n (omega arith), width_is k (n / 10) (omega arith) (omega arith))
