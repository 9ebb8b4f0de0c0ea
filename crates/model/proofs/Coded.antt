-- Laws of coded values: 0 where there is none, v + 1 for the value v. All by the cases of the code.
use mathlib.Core.Path.{◌≡◌, refl}
use mathlib.Core.Logic.{◌⊎◌, inl, inr}
use Prim.Native.Nat.{ℕ, zero, suc, ◌+◌, ◌≤◌, ◌<◌, min}
use native.Mathlib.Omega.{arith}
use Rattle.model.specs.Walk.{plus, lesser}

-- ---- plus

pub plus_some : (k v : ℕ) → 0 < v → plus k v ≡ k + v
unfolding plus
plus_some k zero h = absurd (omega arith)
plus_some k (suc v) h = refl

pub plus_inv : (k v : ℕ) → 0 < plus k v → 0 < v
unfolding plus
plus_inv k zero h = h
plus_inv k (suc v) h = omega arith

pub plus_most : (k v M : ℕ) → v ≤ M → plus k v ≤ k + M
unfolding plus
plus_most k zero M h = omega arith
plus_most k (suc v) M h = omega arith

-- ---- lesser

-- it is there if one of the two is, and then no more than that one
pub lesser_left : (x y : ℕ) → 0 < x → (0 < lesser x y) × (lesser x y ≤ x)
unfolding lesser
lesser_left zero y h = absurd (omega arith)
lesser_left (suc x) zero h = omega arith
lesser_left (suc x) (suc y) h = omega arith

pub lesser_right : (x y : ℕ) → 0 < y → (0 < lesser x y) × (lesser x y ≤ y)
unfolding lesser
lesser_right zero y h = omega arith
lesser_right (suc x) zero h = absurd (omega arith)
lesser_right (suc x) (suc y) h = omega arith

-- and it is one of the two
pub lesser_one : (x y : ℕ) → (lesser x y ≡ x) ⊎ (lesser x y ≡ y)
unfolding lesser
lesser_one zero y = inr refl
lesser_one (suc x) zero = inl refl
lesser_one (suc x) (suc y) = smaller (suc x) (suc y)
  where
    smaller : (a b : ℕ) → (min a b ≡ a) ⊎ (min a b ≡ b)
    smaller zero b = inl (omega arith)
    smaller (suc a) zero = inr (omega arith)
    smaller (suc a) (suc b) = up (smaller a b)
      where
        up : (min a b ≡ a) ⊎ (min a b ≡ b) → (min (suc a) (suc b) ≡ suc a) ⊎ (min (suc a) (suc b) ≡ suc b)
        up (inl e) = inl (omega arith)
        up (inr e) = inr (omega arith)

pub lesser_none : (x : ℕ) → lesser x 0 ≡ x
unfolding lesser
lesser_none zero = refl
lesser_none (suc x) = refl

pub lesser_comm : (x y : ℕ) → lesser x y ≡ lesser y x
unfolding lesser
lesser_comm zero zero = refl
lesser_comm zero (suc y) = refl
lesser_comm (suc x) zero = refl
lesser_comm (suc x) (suc y) = omega arith

pub lesser_some : (x y : ℕ) → 0 < x → 0 < y → lesser x y ≡ min x y
unfolding lesser
lesser_some zero y h k = absurd (omega arith)
lesser_some (suc x) zero h k = absurd (omega arith)
lesser_some (suc x) (suc y) h k = refl

pub lesser_most : (x y M : ℕ) → x ≤ M → y ≤ M → lesser x y ≤ M
unfolding lesser
lesser_most zero y M h k = k
lesser_most (suc x) zero M h k = h
lesser_most (suc x) (suc y) M h k = omega arith

-- ---- two that bound each other are the same

pub coded_same : (x y : ℕ) → (0 < x → (0 < y) × (y ≤ x)) → (0 < y → (0 < x) × (x ≤ y)) → x ≡ y
coded_same zero zero f h = refl
coded_same zero (suc y) f h = absurd (omega (arith, (h (omega arith)).0))
coded_same (suc x) zero f h = absurd (omega (arith, (f (omega arith)).0))
coded_same (suc x) (suc y) f h = omega (arith, (f (omega arith)).1, (h (omega arith)).1)
