-- The least of a list of integers is the member that is at most every member.
use mathlib.Core.Path.{◌≡◌, refl}
use mathlib.Core.Bool.{Bool, true, false, cond}
use mathlib.Core.List.Memᴰ
use mathlib.Core.List.{List, [], ◌∷◌, Memᴰ}
use native.Mathlib.Omega.{arith}
use lib.IntN.{ℤ}
use lib.Signed.{le_z, ◌≤ℤ◌}
use Rattle.model.specs.Leaf.{least}
use Rattle.model.proofs.Integers.{le→nat, nat→eq, least_le}

pub ≤ℤ-antisym : (x y : ℤ) → x ≤ℤ y → y ≤ℤ x → x ≡ y
≤ℤ-antisym x y h k = nat→eq x y (omega (arith, le→nat x y h, le→nat y x k))

-- of a list that is not empty the least is a member
pub least_mem : (x : ℤ) (l : List ℤ) → Memᴰ (least (x ∷ l)) (x ∷ l)
least_mem x [] = Memᴰ.head refl
least_mem x (y ∷ l) = go (le_z x (least (y ∷ l))) (least_mem y l)
  where
    go : (c : Bool) → Memᴰ (least (y ∷ l)) (y ∷ l) → Memᴰ (cond c x (least (y ∷ l))) (x ∷ (y ∷ l))
    go true k = Memᴰ.head refl
    go false k = Memᴰ.tail k

pub least_is : (l : List ℤ) (z : ℤ) → Memᴰ z l → ((x : ℤ) → Memᴰ x l → z ≤ℤ x) → least l ≡ z
least_is [] z m h = absurd (Memᴰ.not-nil m)
least_is (x ∷ l) z m h = ≤ℤ-antisym (least (x ∷ l)) z (least_le (x ∷ l) m) (h (least (x ∷ l)) (least_mem x l))
