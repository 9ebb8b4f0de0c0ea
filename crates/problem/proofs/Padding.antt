-- An array that is filled from the front: a list, and the same value after it.
use Prim.Native.Nat.{ℕ, suc, ◌+◌, ◌-◌, ◌<◌}
use native.Mathlib.Numerals.{add-one}
use native.Mathlib.Omega.{arith}
use mathlib.Core.Path.{◌≡◌, sym, ap, ◌∙◌}
use mathlib.Core.List.{List, [], ◌∷◌, ◌++◌, append_assoc}
use lib.ListN.{length, take, drop, set, replicate, length-take, length-append}
use lib.Seq.{take-suc-set, set_split, drop_at, drop-cons}
use Rattle.model.specs.Held.{pad}

module _ {A : Type 0} (z : A) (n : ℕ) where
  -- nothing is stored yet
  pub pad_none : (x : A) → x ≡ z → pad z n (take 0 (replicate n x)) ≡ replicate n x
  unfolding pad
  pad_none x e = let q : n - 0 ≡ n = omega arith in λ i. replicate (q i) (sym e i)

  module _ (l : List A) (k : ℕ) (long : length l ≡ n) (h : k < n) (padded : pad z n (take k l) ≡ l) where
    -- past what is stored stands z
    past_stored : drop (suc k) l ≡ replicate (n - (k + 1)) z
    unfolding pad
    past_stored =
        let t : length (take k l) ≡ k = length-take k l ∙ omega arith in
        let q : n - k ≡ suc (n - (k + 1)) = omega arith in
        let d : drop k l ≡ z ∷ replicate (n - (k + 1)) z = ap (drop k) (sym padded) ∙ drop_at (take k l) (replicate (n - length (take k l)) z) k t ∙ ap (λ (m : ℕ). replicate (n - m) z) t ∙ ap (λ (m : ℕ). replicate m z) q in
        ap (drop 1) (sym (drop-cons l k z (omega arith)) ∙ d)

    -- one more is stored
    pub pad_set : (x : A) → pad z n (take (k + 1) (set l k x)) ≡ set l k x
    unfolding pad
    pad_set x =
        let f : take (k + 1) (set l k x) ≡ take k l ++ (x ∷ []) = ap (λ (m : ℕ). take m (set l k x)) (add-one k) ∙ take-suc-set l k x (omega arith) in
        let m : n - length (take k l ++ (x ∷ [])) ≡ n - (k + 1) = omega (arith, length-append (take k l) (x ∷ []), length-take k l) in
        ap (λ (y : List A). y ++ replicate (n - length y) z) f
        ∙ ap (λ (j : ℕ). (take k l ++ (x ∷ [])) ++ replicate j z) m
        ∙ append_assoc (take k l) (x ∷ []) (replicate (n - (k + 1)) z)
        ∙ ap (λ (y : List A). take k l ++ (x ∷ y)) (sym past_stored)
        ∙ sym (set_split l k x (omega arith))
