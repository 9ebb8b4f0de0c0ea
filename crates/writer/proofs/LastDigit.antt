-- Digits written from the last to the first.
use Prim.Native.Nat.{ℕ, zero, suc, ◌+◌, ◌-◌, ◌/◌, ◌%◌, ◌≤◌, ◌<◌}
use native.Mathlib.Omega.{arith}
use mathlib.Core.Path.{◌≡◌, refl, sym, ap, ◌∙◌}
use mathlib.Core.List.{List, [], ◌∷◌, ◌++◌, append_assoc}
use lib.ListN.{length, take, drop, set}
use Rattle.decimal.specs.Decimal.{digits}
use Rattle.decimal.proofs.Digits.{fixed, digits_fixed}
use Rattle.writer.specs.Written.{over}

-- ---- a digit alone

pub set_first : (b : List ℕ) (d : ℕ) → 0 < length b → set b 0 d ≡ over (d ∷ []) b
set_first [] d h = absurd (omega arith)
set_first (y ∷ b) d h = refl

-- ---- a digit, from the last to the first

set_front : (b x : List ℕ) (j d : ℕ) → j < length b → set (take (suc j) b ++ x) j d ≡ take j b ++ (d ∷ x)
set_front [] x j d h = absurd (omega arith)
set_front (y ∷ b) x zero d h = refl
set_front (y ∷ b) x (suc j) d h = ap (λ (l : List ℕ). y ∷ l) (set_front b x j d (omega arith))

pub set_step : (b x : List ℕ) (i d : ℕ) → 0 < i → i ≤ length b → set (take i b ++ x) (i - 1) d ≡ take (i - 1) b ++ (d ∷ x)
set_step b x zero d h k = absurd (omega arith)
set_step b x (suc j) d h k =
    let e : suc j - 1 ≡ j = omega arith in
    rw e (set_front b x j d k)

pub fixed_step : (i m : ℕ) (t : List ℕ) → 0 < i → fixed i m ++ t ≡ fixed (i - 1) (m / 10) ++ ((48 + m % 10) ∷ t)
fixed_step zero m t h = absurd (omega arith)
fixed_step (suc j) m t h =
    let e : suc j - 1 ≡ j = omega arith in
    rw e (append_assoc (fixed j (m / 10)) ((48 + m % 10) ∷ []) t)

-- all digits are written
pub number_done : (b t buf : List ℕ) (n w i m : ℕ) → w ≡ length (digits n) → i ≤ 0 → fixed w n ≡ fixed i m ++ t → buf ≡ take i b ++ (t ++ drop w b) → buf ≡ over (digits n) b
number_done b t buf n w zero m e h q p =
    let d : t ≡ digits n = sym q ∙ ap (λ (k : ℕ). fixed k n) e ∙ sym (digits_fixed n) in
    p ∙ ap (λ (x : List ℕ). x ++ drop w b) d ∙ ap (λ (k : ℕ). digits n ++ drop k b) e
number_done b t buf n w (suc i) m e h q p = absurd (omega arith)
