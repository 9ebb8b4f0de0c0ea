-- What is below 0 by a number of less than 2^62 fits an i64, and is that number behind a minus.
use mathlib.Core.Path.{◌≡◌, ap, subst, sym, ◌∙◌}
use mathlib.Core.Bool.{Bool, cond}
use Prim.Native.Nat.{ℕ, zero, suc, ◌-◌, ◌<◌}
use native.Mathlib.Omega.{arith}
use lib.IntN.{pos, negsuc, ◌-ℤ◌}
use borrow.Author.Tests.{lt-ltb}
use mir.Syntax.{w64}
use mir.Val.{SFits}
use Rattle.state.specs.Layout.{size_room}

pub minus_is : (n : ℕ) → pos 0 -ℤ pos (suc n) ≡ negsuc n
minus_is n =
    let less : suc n - 1 ≡ n = omega arith in
    ap (λ (t : Bool). cond t (negsuc (suc n - 1)) (pos (0 - suc n))) (lt-ltb 0 (suc n) (omega arith)) ∙ ap negsuc less

pub minus_fits : (n : ℕ) → n < size_room → SFits w64 (pos 0 -ℤ pos n)
minus_fits zero h = record { sfits = omega arith }
minus_fits (suc n) h = subst (SFits w64) (sym (minus_is n)) (record { sfits = omega (arith, h) })
