-- What one unit adds by the byte of its status, and how many units add something.
use mathlib.Core.Path.{◌≡◌, refl, ap, ◌∙◌}
use mathlib.Core.Bool.{Bool, true, false, cond}
use mathlib.Core.List.{List, [], ◌∷◌}
use Prim.Native.Nat.{ℕ, zero, suc, ◌+◌, ◌-◌, ◌*◌, ◌/◌, ◌%◌, ◌≤◌, ◌<◌}
use native.Mathlib.Omega.{arith}
use borrow.Author.Tests.{eqb-true, eqb-false}
use lib.Bits.{differ, bit_xor, xor_step, xor_zero_r}
use lib.Dec.{eqb}
use lib.ListN.{length}
use Rattle.model.specs.declared.generator.Generator.{Generator}
use Rattle.model.specs.Above.{Mark, free, fixed, Marks, rest}
use Rattle.model.specs.Largest.{total}
use Rattle.model.specs.Leaf.{unless_off, usable}
use Rattle.walk.specs.Marks.{mark_of}

-- the lowest binary digit turned over
differ_one : (d : ℕ) → d < 2 → differ d 1 ≡ 1 - d
differ_one zero h = refl
differ_one (suc zero) h = refl
differ_one (suc (suc d)) h = absurd (omega arith)

xor_one : (x : ℕ) → bit_xor x 1 ≡ x / 2 * 2 + (1 - x % 2)
xor_one x = xor_step x 1 ∙ ap (λ (k : ℕ). k * 2 + differ (x % 2) 1) (xor_zero_r (x / 2)) ∙ ap (λ (k : ℕ). x / 2 * 2 + k) (differ_one (x % 2) (omega arith))

-- the quotient by 256 is 1, and 0 only where the byte fixes off
pub not_off_quotient : (x : ℕ) → x ≤ 255 → (bit_xor x 1 + 255) / 256 ≡ length (unless_off (mark_of x) 0 [])
unfolding mark_of
not_off_quotient x h = one (eqb x 1) refl
  where
    two : (b : Bool) → 1 ≡ length (unless_off (cond b (fixed true) free) 0 [])
    two true = refl
    two false = refl

    one : (b : Bool) → eqb x 1 ≡ b → (bit_xor x 1 + 255) / 256 ≡ length (unless_off (cond b (fixed false) (cond (eqb x 2) (fixed true) free)) 0 [])
    one true e = omega (arith, xor_one x, eqb-true x 1 e)
    one false e = omega (arith, h, xor_one x, eqb-false x 1 e, two (eqb x 2))

-- so often it adds its pU
pub unless_off_times : (m : Mark) (v : ℕ) → v * length (unless_off m 0 []) ≡ total (unless_off m v [])
unless_off_times free v = omega arith
unless_off_times (fixed true) v = omega arith
unless_off_times (fixed false) v = omega arith

pub unless_off_most : (m : Mark) (v : ℕ) → v * length (unless_off m 0 []) ≤ v
unless_off_most free v = omega arith
unless_off_most (fixed true) v = omega arith
unless_off_most (fixed false) v = omega arith

unless_off_length : (m : Mark) (x : ℕ) (l : List ℕ) → length (unless_off m x l) ≤ suc (length l)
unless_off_length free x l = omega arith
unless_off_length (fixed true) x l = omega arith
unless_off_length (fixed false) x l = omega arith

-- they are no more than the units
pub usable_length : (gs : List Generator) (m : Marks) (t : ℕ) → length (usable gs m t) ≤ length gs
unfolding usable
usable_length [] m t = omega arith
usable_length (g ∷ gs) m t = omega (arith, usable_length gs (rest m) t, unless_off_length (m 0 t) g.pU (usable gs (rest m) t))
