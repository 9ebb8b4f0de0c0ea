-- Laws of tests: a test that holds is true, and tests that are joined.
use mathlib.Core.Path.{◌≡◌, refl}
use mathlib.Core.Bool.{Bool, true, false, ◌&&◌, beq}
use Prim.Native.Nat.{ℕ}
use native.Mathlib.Omega.{arith}
use lib.Dec.{T}

pub T_true : (b : Bool) → T b → b ≡ true
T_true true t = refl
T_true false t = absurd t

pub true_T : (b : Bool) → b ≡ true → T b
true_T true e = tt
true_T false e = absurd (let z : ◌≡◌ {A = ℕ} 0 1 = cc in omega arith)

pub T_false : (b : Bool) → (T b → ⊥) → b ≡ false
T_false true f = absurd (f tt)
T_false false f = refl

pub T_and : (a b : Bool) → T a → T b → T (a && b)
T_and true b p q = q
T_and false b p q = absurd p

pub T_and_l : (a b : Bool) → T (a && b) → T a
T_and_l true b p = tt
T_and_l false b p = p

pub T_and_r : (a b : Bool) → T (a && b) → T b
T_and_r true b p = p
T_and_r false b p = absurd p

pub beq_refl : (b : Bool) → T (beq b b)
beq_refl true = tt
beq_refl false = tt

pub beq_eq : (a b : Bool) → T (beq a b) → b ≡ a
beq_eq true true h = refl
beq_eq true false h = absurd h
beq_eq false true h = absurd h
beq_eq false false h = refl
