-- Row i of a list that is cut into rows of n outputs is the part of n outputs from i times n on; rows of n outputs, joined, are as long
-- as so many times n.
use mathlib.Core.Path.{◌≡◌, refl, ap, ◌∙◌}
use mathlib.Core.List.{List, [], ◌∷◌, ◌++◌, flatten}
use Prim.Native.Nat.{ℕ, zero, suc, ◌+◌, ◌*◌, ◌≤◌, ◌<◌}
use native.Mathlib.Nat.{zero-mul, mul-le-mul_right}
use native.Mathlib.Omega.{arith}
use lib.ListN.{length, get_or, take, drop, length-append, length-drop}
use lib.Seq.{drop-drop, length-take-le}
use Rattle.model.specs.Instance.{Schedule}
use Rattle.model.specs.Ranges.{All}
use Rattle.judge.specs.Rows.{cut_rows}

abbrev pub row : ℕ → List ℕ → ℕ → List ℕ
row n l i = take n (drop (i * n) l)

pub cut_long : (k n : ℕ) (l : List ℕ) → length (cut_rows k n l) ≡ k
unfolding cut_rows
cut_long zero n l = refl
cut_long (suc k) n l = ap suc (cut_long k n (drop n l))

pub cut_rows_at : (k n : ℕ) (l : List ℕ) (i : ℕ) → i < k → get_or (cut_rows k n l) i [] ≡ row n l i
unfolding cut_rows
cut_rows_at zero n l i h = absurd (omega arith)
cut_rows_at (suc k) n l zero h = rw (zero-mul n) refl
cut_rows_at (suc k) n l (suc i) h =
    let e : n + i * n ≡ suc i * n = omega arith in
    cut_rows_at k n (drop n l) i (omega arith) ∙ ap (take n) (drop-drop (i * n) n l ∙ ap (λ (m : ℕ). drop m l) e)

-- k rows of n outputs: row i lies inside
pub within : (k n : ℕ) (l : List ℕ) (i : ℕ) → length l ≡ k * n → i < k → i * n + n ≤ length l
within k n l i e h = omega (arith, mul-le-mul_right n h)

pub row_long : (k n : ℕ) (l : List ℕ) (i : ℕ) → length l ≡ k * n → i < k → length (row n l i) ≡ n
row_long k n l i e h = length-take-le n (drop (i * n) l) (omega (arith, length-drop (i * n) l, within k n l i e h))

pub joined_long : (n : ℕ) (s : Schedule) → All (λ r. length r ≡ n) s → length (flatten s) ≡ length s * n
unfolding flatten
joined_long n [] h = omega arith
joined_long n (r ∷ s) h = omega (arith, length-append r (flatten s), h.0, joined_long n s h.1)

module _ {A : Type 0} (R : A → Type 0) where
  pub all_at : (l : List A) (d : A) → All R l → (i : ℕ) → i < length l → R (get_or l i d)
  all_at [] d h i k = absurd (omega arith)
  all_at (x ∷ l) d h zero k = h.0
  all_at (x ∷ l) d h (suc i) k = all_at l d h.1 i (omega arith)

  pub all_take : (n : ℕ) (l : List A) → All R l → All R (take n l)
  all_take zero l h = tt
  all_take (suc n) [] h = tt
  all_take (suc n) (x ∷ l) h = (h.0, all_take n l h.1)

  pub all_drop : (n : ℕ) (l : List A) → All R l → All R (drop n l)
  all_drop zero l h = h
  all_drop (suc n) [] h = tt
  all_drop (suc n) (x ∷ l) h = all_drop n l h.1

  pub all_append : (l m : List A) → All R l → All R m → All R (l ++ m)
  all_append [] m h k = k
  all_append (x ∷ l) m h k = (h.0, all_append l m h.1 k)
