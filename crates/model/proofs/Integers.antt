-- The integers read in naturals: z is `up z` less `down z`. A law of `≤ℤ` or `+ℤ` is then one of sums and orders of naturals.
use mathlib.Core.Path.{◌≡◌, ap}
use mathlib.Core.Bool.{Bool, true, false, not, cond}
use mathlib.Core.List.Memᴰ
use mathlib.Core.List.{List, [], ◌∷◌, Memᴰ}
use mathlib.Core.Logic.{◌⊎◌, inl, inr}
use Prim.Native.Nat.{ℕ, zero, suc, ◌+◌, ◌-◌, ◌≤◌, ◌<◌, min}
use native.Mathlib.Omega.{arith}
use lib.Dec.{T, ltb, leb→le, le→leb, nleb→lt, ltb→lt, lt→ltb, nltb→le}
use lib.IntN.{ℤ, pos, negsuc, sub_ℕ, ◌+ℤ◌, ◌-ℤ◌}
use lib.Signed.{le_z, lt_z, ◌≤ℤ◌, ≤ℤ_refl, le_z_yes, lt_z_no}
use Rattle.model.specs.Leaf.{minℤ, least}

abbrev pub up : ℤ → ℕ
up (pos n) = n
up (negsuc n) = 0

abbrev pub down : ℤ → ℕ
down (pos n) = 0
down (negsuc n) = suc n

-- ---- the order, in naturals

pub le→nat : (x y : ℤ) → x ≤ℤ y → up x + down y ≤ up y + down x
le→nat (pos a) (pos b) h = omega (arith, leb→le a b h.le)
le→nat (pos a) (negsuc b) h = absurd h.le
le→nat (negsuc a) (pos b) h = omega arith
le→nat (negsuc a) (negsuc b) h = omega (arith, leb→le b a h.le)

pub nat→le : (x y : ℤ) → up x + down y ≤ up y + down x → x ≤ℤ y
nat→le (pos a) (pos b) h = record { le = le→leb a b (omega arith) }
nat→le (pos a) (negsuc b) h = absurd (omega arith)
nat→le (negsuc a) (pos b) h = record { le = tt }
nat→le (negsuc a) (negsuc b) h = record { le = le→leb b a (omega arith) }

-- a less b
pub subℕ_nat : (a b : ℕ) → up (sub_ℕ a b) + b ≡ a + down (sub_ℕ a b)
subℕ_nat a b = go (ltb a b) (λ t. ltb→lt a b t) (λ t. nltb→le a b t)
  where
    go : (c : Bool) → (T c → a < b) → (T (not c) → b ≤ a)
        → up (cond c (negsuc (b - suc a)) (pos (a - b))) + b ≡ a + down (cond c (negsuc (b - suc a)) (pos (a - b)))
    go true f g = let h : a < b = f tt in omega arith
    go false f g = let h : b ≤ a = g tt in omega arith

pub +ℤ-nat : (x y : ℤ) → up (x +ℤ y) + (down x + down y) ≡ (up x + up y) + down (x +ℤ y)
+ℤ-nat (pos a) (pos b) = omega arith
+ℤ-nat (pos a) (negsuc b) = omega (arith, subℕ_nat a (suc b))
+ℤ-nat (negsuc a) (pos b) = omega (arith, subℕ_nat b (suc a))
+ℤ-nat (negsuc a) (negsuc b) = omega arith

-- `pos a -ℤ pos b` is a less b
pub -ℤ-nat : (a b : ℕ) → up (pos a -ℤ pos b) + b ≡ a + down (pos a -ℤ pos b)
-ℤ-nat a zero = omega arith
-ℤ-nat a (suc b) = subℕ_nat a (suc b)

-- ---- laws

pub ≤ℤ-trans : (x y z : ℤ) → x ≤ℤ y → y ≤ℤ z → x ≤ℤ z
≤ℤ-trans x y z h k = nat→le x z (omega (arith, le→nat x y h, le→nat y z k))

-- the test fails only where the order is the other way
total : (x y : ℤ) → T (not (le_z x y)) → y ≤ℤ x
total (pos a) (pos b) t = nat→le (pos b) (pos a) (omega (arith, nleb→lt a b t))
total (pos a) (negsuc b) t = nat→le (negsuc b) (pos a) (omega arith)
total (negsuc a) (pos b) t = absurd t
total (negsuc a) (negsuc b) t = nat→le (negsuc b) (negsuc a) (omega (arith, nleb→lt b a t))

pub min_left : (x y : ℤ) → minℤ x y ≤ℤ x
min_left x y = go (le_z x y) (λ t. t)
  where
    go : (c : Bool) → (T (not c) → T (not (le_z x y))) → cond c x y ≤ℤ x
    go true f = ≤ℤ_refl x
    go false f = total x y (f tt)

pub min_right : (x y : ℤ) → minℤ x y ≤ℤ y
min_right x y = go (le_z x y) (λ t. t)
  where
    go : (c : Bool) → (T c → T (le_z x y)) → cond c x y ≤ℤ y
    go true f = record { le = f tt }
    go false f = ≤ℤ_refl y

-- ---- the least of a list

pub least_le : {x : ℤ} (l : List ℤ) → Memᴰ x l → least l ≤ℤ x
least_le [] m = absurd (Memᴰ.not-nil m)
least_le {x} (y ∷ []) m = rw (Memᴰ.eq_of_singleton m) (≤ℤ_refl y)
least_le {x} (y ∷ (z ∷ l)) m = go (least_le (z ∷ l)) (Memᴰ.cases_cons m)
  where
    go : (Memᴰ x (z ∷ l) → least (z ∷ l) ≤ℤ x) → (x ≡ y) ⊎ Memᴰ x (z ∷ l) → minℤ y (least (z ∷ l)) ≤ℤ x
    go ih (inl e) = rw e (min_left y (least (z ∷ l)))
    go ih (inr k) = ≤ℤ-trans (minℤ y (least (z ∷ l))) (least (z ∷ l)) x (min_right y (least (z ∷ l))) (ih k)

-- ---- the strict test, in naturals

pub ltZ→nat : (x y : ℤ) → T (lt_z x y) → up x + down y < up y + down x
ltZ→nat (pos a) (pos b) h = omega (arith, ltb→lt a b h)
ltZ→nat (pos a) (negsuc b) h = absurd h
ltZ→nat (negsuc a) (pos b) h = omega arith
ltZ→nat (negsuc a) (negsuc b) h = omega (arith, ltb→lt b a h)

pub nat→ltZ : (x y : ℤ) → up x + down y < up y + down x → T (lt_z x y)
nat→ltZ (pos a) (pos b) h = lt→ltb a b (omega arith)
nat→ltZ (pos a) (negsuc b) h = absurd (omega arith)
nat→ltZ (negsuc a) (pos b) h = tt
nat→ltZ (negsuc a) (negsuc b) h = lt→ltb b a (omega arith)

pub nltZ→nat : (x y : ℤ) → T (not (lt_z x y)) → up y + down x ≤ up x + down y
nltZ→nat x y h = le→nat y x (lt_z_no h)

-- two integers are equal if they are in naturals
pub nat→eq : (x y : ℤ) → up x + down y ≡ up y + down x → x ≡ y
nat→eq (pos a) (pos b) h = ap pos (omega arith)
nat→eq (pos a) (negsuc b) h = absurd (omega arith)
nat→eq (negsuc a) (pos b) h = absurd (omega arith)
nat→eq (negsuc a) (negsuc b) h = ap negsuc (omega arith)

-- the smaller of two, shifted by k
pub min_shift : (x y : ℤ) (a b k : ℕ) → up x + k ≡ a + down x → up y + k ≡ b + down y → up (minℤ x y) + k ≡ min a b + down (minℤ x y)
min_shift x y a b k h j = go (le_z x y) (λ t. le→nat x y (le_z_yes t)) (λ t. le→nat y x (total x y t))
  where
    go : (c : Bool) → (T c → up x + down y ≤ up y + down x) → (T (not c) → up y + down x ≤ up x + down y)
        → up (cond c x y) + k ≡ min a b + down (cond c x y)
    go true f g = let e : up x + down y ≤ up y + down x = f tt in omega arith
    go false f g = let e : up y + down x ≤ up x + down y = g tt in omega arith
