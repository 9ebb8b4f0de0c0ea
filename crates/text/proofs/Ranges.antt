-- Numbers within their ranges, one by one; and numbers of one range, by the count of those outside it.
use Prim.Native.Nat.{ℕ, suc, ◌+◌, ◌≤◌, ◌<◌}
use native.Mathlib.Numerals.{add-one}
use native.Mathlib.Omega.{arith}
use mathlib.Core.Path.{◌≡◌, refl, sym, ap, ◌∙◌}
use mathlib.Core.Bool.{Bool, true, false, ◌&&◌}
use mathlib.Core.List.{List, [], ◌∷◌}
use lib.ListN.{length, drop, get_or, replicate, drop_of_length-le}
use lib.Seq.{drop-cons}
use lib.Dec.{leb}
use borrow.Author.Tests.{le-leb, lt-leb, ne_eqb}
use Rattle.text.specs.Forms.{all_within}
use Rattle.std.specs.Prelude.{cond, not, eqb, filter}
use Rattle.std.specs.List.{count_by}
use Rattle.std.proofs.lemmas.List.Sums.{length-filter}

module _ (v ls hs : List ℕ) (i : ℕ) where
  module _ (h : i < length v) (h₁ : length v ≤ length ls) (h₂ : length v ≤ length hs) where
    at_i : all_within (drop i v) (drop i ls) (drop i hs)
        ≡ (leb (get_or ls i 0) (get_or v i 0) && (leb (get_or v i 0) (get_or hs i 0) && all_within (drop (suc i) v) (drop (suc i) ls) (drop (suc i) hs)))
    at_i =
        ap (λ (x : List ℕ). all_within x (drop i ls) (drop i hs)) (drop-cons v i 0 h)
        ∙ ap (λ (x : List ℕ). all_within (get_or v i 0 ∷ drop (suc i) v) x (drop i hs)) (drop-cons ls i 0 (omega arith))
        ∙ ap (λ (x : List ℕ). all_within (get_or v i 0 ∷ drop (suc i) v) (get_or ls i 0 ∷ drop (suc i) ls) x) (drop-cons hs i 0 (omega arith))

    pub too_small : get_or v i 0 < get_or ls i 0 → all_within (drop i v) (drop i ls) (drop i hs) ≡ false
    too_small k = at_i ∙ simp (lt-leb (get_or ls i 0) (get_or v i 0) k)

    pub too_large : get_or ls i 0 ≤ get_or v i 0 → get_or hs i 0 < get_or v i 0 → all_within (drop i v) (drop i ls) (drop i hs) ≡ false
    too_large l k = at_i ∙ simp (le-leb (get_or ls i 0) (get_or v i 0) l, lt-leb (get_or v i 0) (get_or hs i 0) k)

    pub in_range : get_or ls i 0 ≤ get_or v i 0 → get_or v i 0 ≤ get_or hs i 0
        → all_within (drop i v) (drop i ls) (drop i hs) ≡ all_within (drop (i + 1) v) (drop (i + 1) ls) (drop (i + 1) hs)
    in_range l k = at_i ∙ simp (le-leb (get_or ls i 0) (get_or v i 0) l, le-leb (get_or v i 0) (get_or hs i 0) k, add-one)

  pub all_past : length v ≤ i → all_within (drop i v) (drop i ls) (drop i hs) ≡ true
  all_past h = ap (λ (x : List ℕ). all_within x (drop i ls) (drop i hs)) (drop_of_length-le v h)

-- ---- one range

-- those that lie outside, as a list
none_left : (lo hi : ℕ) (v : List ℕ)
    → eqb (length (filter (λ x. not (leb lo x && leb x hi)) v)) 0 ≡ all_within v (replicate (length v) lo) (replicate (length v) hi)
none_left lo hi [] = refl
none_left lo hi (x ∷ v) = go (leb lo x) (leb x hi) (none_left lo hi v)
  where
    go : (a b : Bool) → eqb (length (filter (λ y. not (leb lo y && leb y hi)) v)) 0 ≡ all_within v (replicate (length v) lo) (replicate (length v) hi)
        → eqb (length (cond (not (a && b)) (x ∷ filter (λ y. not (leb lo y && leb y hi)) v) (filter (λ y. not (leb lo y && leb y hi)) v))) 0
        ≡ (a && (b && all_within v (replicate (length v) lo) (replicate (length v) hi)))
    go true true e = e
    go true false e = ne_eqb (suc (length (filter (λ y. not (leb lo y && leb y hi)) v))) 0 (λ z. omega arith)
    go false b e = ne_eqb (suc (length (filter (λ y. not (leb lo y && leb y hi)) v))) 0 (λ z. omega arith)

-- none is outside it exactly when each number is within it
pub none_outside : (lo hi : ℕ) (v : List ℕ)
    → eqb (count_by (λ x. not (leb lo x && leb x hi)) v) 0 ≡ all_within v (replicate (length v) lo) (replicate (length v) hi)
none_outside lo hi v = ap (λ (n : ℕ). eqb n 0) (sym (length-filter (λ x. not (leb lo x && leb x hi)) v)) ∙ none_left lo hi v
