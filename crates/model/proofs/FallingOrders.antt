-- Document 02, [2]: `falling` is the falling order, and no other list is. Inserting exchanges members and loses none; and two falling orders of one
-- list have the same head, since the head of each is a member of the other, so at most the other's head.
use mathlib.Core.Path.{◌≡◌, refl, sym, ◌∙◌, ap₂}
use mathlib.Core.Bool.{Bool, true, false, not, cond}
use mathlib.Core.List.{List, [], ◌∷◌}
use Prim.Native.Nat.{ℕ, zero, suc, ◌+◌, ◌≤◌, ◌<◌, min, max}
use native.Mathlib.Nat.{min-eq_left, min-eq_right, max-eq_left, max-eq_right}
use native.Mathlib.Omega.{arith}
use borrow.Author.Tests.{eq-eqb}
use lib.Dec.{T, eqb, eqb→eq, leb, leb→le, nleb→lt}
use lib.ListN.{length}
use Rattle.model.specs.Instance.{◌at◌}
use Rattle.model.specs.Largest.{insert, falling, copies, FallingOrder}
use Rattle.model.proofs.Largest.{Falling, bound_of, falling_falls}

-- ---- the members stay

-- the larger and the smaller of two are the two
exchange : (f : ℕ → ℕ) (x y : ℕ) → f (max x y) + f (min x y) ≡ f x + f y
exchange f x y = go (leb x y) (leb→le x y) (nleb→lt x y)
  where
    go : (b : Bool) → (T b → x ≤ y) → (T (not b) → y < x) → f (max x y) + f (min x y) ≡ f x + f y
    go true g h = rw (max-eq_right (g tt), min-eq_left (g tt)) (omega arith)
    go false g h = let i : y ≤ x = omega (arith, h tt) in rw (max-eq_left i, min-eq_right i) refl

insert_copies : (x y : ℕ) (l : List ℕ) → copies x (insert y l) ≡ cond (eqb x y) 1 0 + copies x l
insert_copies x y [] = refl
insert_copies x y (z ∷ l) = omega (arith, insert_copies x (min y z) l, exchange (λ v. cond (eqb x v) 1 0) y z)

falling_copies : (x : ℕ) (l : List ℕ) → copies x (falling l) ≡ copies x l
unfolding falling
falling_copies x [] = refl
falling_copies x (y ∷ l) = omega (arith, insert_copies x y (falling l), falling_copies x l)

-- ---- they fall: none is above the one before it, or, the same, they are the largest first from a bound

abbrev Falls : List ℕ → Type 0
Falls l = (i : ℕ) → suc i < length l → l at (suc i) ≤ l at i

each_falls : (b : ℕ) (l : List ℕ) → Falling b l → Falls l
each_falls b [] h i k = absurd (omega arith)
each_falls b (y ∷ []) h i k = absurd (omega arith)
each_falls b (y ∷ z ∷ l) h zero k = h.1.0
each_falls b (y ∷ z ∷ l) h (suc i) k = each_falls y (z ∷ l) h.1 i (omega arith)

from_bound : (b : ℕ) (l : List ℕ) → l at 0 ≤ b → Falls l → Falling b l
from_bound b [] h f = tt
from_bound b (y ∷ []) h f = (h, tt)
from_bound b (y ∷ z ∷ l) h f = (h, from_bound y (z ∷ l) (f 0 (omega arith)) (λ i k. f (suc i) (omega arith)))

pub falling_is : (l : List ℕ) → FallingOrder l (falling l)
falling_is l = record { falls = each_falls (bound_of l) (falling l) (falling_falls l); same = λ x. falling_copies x l }

-- ---- and no other list is that

-- the head is a member
head_copies : (x : ℕ) (l : List ℕ) → 0 < copies x (x ∷ l)
head_copies x l = rw (eq-eqb x x refl) (omega arith)

-- and no member is above a bound
copies_below : (b x : ℕ) (l : List ℕ) → Falling b l → 0 < copies x l → x ≤ b
copies_below b x [] h k = absurd (omega arith)
copies_below b x (y ∷ l) h k = go (eqb x y) (eqb→eq x y) k (copies_below y x l h.1)
  where
    go : (c : Bool) → (T c → x ≡ y) → 0 < cond c 1 0 + copies x l → (0 < copies x l → x ≤ y) → x ≤ b
    go true e k ih = omega (arith, e tt, h.0)
    go false e k ih = omega (arith, ih (omega arith), h.0)

-- so a head that another list has too is at most that list's head
head_below : (x y : ℕ) (k l : List ℕ) → Falling y l → copies x (x ∷ k) ≡ copies x (y ∷ l) → x ≤ y
head_below x y k l h e = copies_below y x (y ∷ l) (omega arith, h) (omega (arith, head_copies x k))

-- two falling lists with the same members are the same
copies_one : (a b : ℕ) (k l : List ℕ) → Falling a k → Falling b l → ((x : ℕ) → copies x k ≡ copies x l) → k ≡ l
copies_one a b [] [] h i s = refl
copies_one a b [] (y ∷ l) h i s = absurd (omega (arith, head_copies y l, s y))
copies_one a b (x ∷ k) [] h i s = absurd (omega (arith, head_copies x k, s x))
copies_one a b (x ∷ k) (y ∷ l) h i s =
    let e : x ≡ y = omega (arith, head_below x y k l i.1 (s x), head_below y x l k h.1 (sym (s y))) in
    ap₂ ◌∷◌ e (copies_one x y k l h.1 i.1 (λ z. omega (arith, rw e at (s z))))

pub falling_one : (l o : List ℕ) → FallingOrder l o → o ≡ falling l
falling_one l o F =
    copies_one (o at 0) (bound_of l) o (falling l) (from_bound (o at 0) o (omega arith) F.falls) (falling_falls l)
    (λ x. F.same x ∙ sym (falling_copies x l))
