-- Rows cut out of a list are those of its front, and joined they are the front.
use Prim.Native.Nat.{ℕ, zero, suc, ◌+◌, ◌*◌}
use native.Mathlib.Nat.{zero-mul, zero-add, suc-add}
use native.Mathlib.Omega.{arith}
use mathlib.Core.Path.{◌≡◌, refl, sym, ap, ◌∙◌}
use mathlib.Core.List.{List, [], ◌∷◌, ◌++◌, append_assoc, flatten}
use lib.ListN.{length, take, drop}
use lib.Seq.{take-take, take-add, drop-drop, take_at, drop_at, take-nil}
use Rattle.model.specs.Instance.{Schedule}
use Rattle.model.specs.Ranges.{All}
use Rattle.judge.specs.Rows.{cut_rows}
use Rattle.judge.proofs.Rows.{row}

drop_take : {A : Type 0} (n m : ℕ) (l : List A) → drop n (take (n + m) l) ≡ take m (drop n l)
drop_take zero m l = rw zero-add
drop_take (suc n) m [] = rw suc-add (sym (take-nil m))
drop_take (suc n) m (x ∷ l) = rw suc-add (drop_take n m l)

more : (k n : ℕ) → suc k * n ≡ n + k * n
more k n = omega arith

pub cut_take : (k n : ℕ) (l : List ℕ) → cut_rows k n (take (k * n) l) ≡ cut_rows k n l
unfolding cut_rows
cut_take zero n l = refl
cut_take (suc k) n l = rw (more k n, take-take n (n + k * n) l (omega arith), drop_take n (k * n) l, cut_take k n (drop n l)) refl

pub joined_front : (k n : ℕ) (l : List ℕ) → flatten (cut_rows k n l) ≡ take (k * n) l
unfolding cut_rows flatten
joined_front zero n l = rw zero-mul refl
joined_front (suc k) n l = rw (more k n, take-add n (k * n) l, joined_front k n (drop n l)) refl

-- one row more
pub cut_last : (k n : ℕ) (l : List ℕ) → cut_rows (suc k) n l ≡ cut_rows k n l ++ (row n l k ∷ [])
unfolding cut_rows
cut_last zero n l = rw zero-mul refl
cut_last (suc k) n l =
    let e : drop (k * n) (drop n l) ≡ drop (suc k * n) l = drop-drop (k * n) n l ∙ ap (λ (m : ℕ). drop m l) (sym (more k n)) in
    ap (λ (s : Schedule). take n l ∷ s) (cut_last k n (drop n l) ∙ ap (λ (r : List ℕ). cut_rows k n (drop n l) ++ (take n r ∷ [])) e)

-- rows that are joined, with anything after them, are cut out again
pub cut_front : (n : ℕ) (s : Schedule) (z : List ℕ) → All (λ r. length r ≡ n) s → cut_rows (length s) n (flatten s ++ z) ≡ s
unfolding cut_rows flatten
cut_front n [] z h = refl
cut_front n (r ∷ s) z h =
    rw (append_assoc r (flatten s) z, take_at r (flatten s ++ z) n h.0, drop_at r (flatten s ++ z) n h.0, cut_front n s z h.1)
