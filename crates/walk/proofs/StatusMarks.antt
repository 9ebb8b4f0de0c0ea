-- A byte of a fixed status, tested: all but 1 allow on, all but 2 allow off.
use mathlib.Core.Path.{◌≡◌, refl}
use mathlib.Core.Bool.{Bool, true, false, not, cond}
use Prim.Native.Nat.{ℕ}
use native.Mathlib.Omega.{arith}
use lib.Dec.{T, eqb, eqb→eq}
use Rattle.model.specs.Above.{free, fixed, allows}
use Rattle.walk.specs.Marks.{mark_of}

pub allows_on : (x : ℕ) → allows (mark_of x) true ≡ not (eqb x 1)
unfolding mark_of
allows_on x = go (eqb x 1) (eqb x 2)
  where
    go : (a b : Bool) → allows (cond a (fixed false) (cond b (fixed true) free)) true ≡ not a
    go true b = refl
    go false true = refl
    go false false = refl

pub allows_off : (x : ℕ) → allows (mark_of x) false ≡ not (eqb x 2)
unfolding mark_of
allows_off x = go (eqb x 1) (eqb x 2) (λ a b. omega (arith, eqb→eq x 1 a, eqb→eq x 2 b))
  where
    go : (a b : Bool) → (T a → T b → ⊥) → allows (cond a (fixed false) (cond b (fixed true) free)) false ≡ not b
    go true true h = absurd (h tt tt)
    go true false h = refl
    go false true h = refl
    go false false h = refl

-- a byte 0 allows both
pub free_allows : (x : ℕ) → x ≡ 0 → (d : Bool) → allows (mark_of x) d ≡ true
unfolding mark_of
free_allows x e d = rw e
