-- Membership in the lists of all runs and all rows.
use mathlib.Core.Path.{◌≡◌, refl, sym, subst}
use mathlib.Core.Bool.{Bool, true, false, not, cond, ◌&&◌}
use mathlib.Core.Logic.{◌⊎◌, inl, inr}
use mathlib.Core.List.Memᴰ
use mathlib.Core.List.{List, [], ◌∷◌, ◌++◌, map, Memᴰ}
use Prim.Native.Nat.{ℕ, zero, suc, ◌+◌, ◌≤◌, ◌<◌}
use native.Mathlib.Nat.{suc_inj, eq-or-lt_of_le}
use native.Mathlib.Omega.{arith}
use lib.Dec.{T}
use lib.ListN.{length, get_or}
use Rattle.model.specs.Leaf.{gather, words, those, none_of, range}

module _ {A B : Type 0} where
  pub mem_gather : (f : A → List B) (l : List A) {a : A} {b : B} → Memᴰ a l → Memᴰ b (f a) → Memᴰ b (gather f l)
  mem_gather f [] m k = absurd (Memᴰ.not-nil m)
  mem_gather f (x ∷ l) {a} {b} m k = go (λ j. mem_gather f l j k) (Memᴰ.cases_cons m)
    where
      go : (Memᴰ a l → Memᴰ b (gather f l)) → (a ≡ x) ⊎ Memᴰ a l → Memᴰ b (f x ++ gather f l)
      go ih (inl e) = Memᴰ.append_left (gather f l) (subst (λ (y : A). Memᴰ b (f y)) e k)
      go ih (inr j) = Memᴰ.append_right (f x) (ih j)

module _ {A : Type 0} where
  pub mem_words : (al : List A) (d : A) (n : ℕ) (w : List A) → length w ≡ n → ((t : ℕ) → t < n → Memᴰ (get_or w t d) al) → Memᴰ w (words al n)
  mem_words al d zero [] e h = Memᴰ.head refl
  mem_words al d zero (a ∷ w) e h = absurd (omega arith)
  mem_words al d (suc n) [] e h = absurd (omega arith)
  mem_words al d (suc n) (a ∷ w) e h =
      mem_gather (λ a. map (λ w. a ∷ w) (words al n)) al (h 0 (omega arith))
      (Memᴰ.map (λ w. a ∷ w) (mem_words al d n w (suc_inj e) (λ t l. h (suc t) (omega arith))))

  pub mem_those : (p : A → Bool) (l : List A) {x : A} → Memᴰ x l → T (p x) → Memᴰ x (those p l)
  mem_those p [] m t = absurd (Memᴰ.not-nil m)
  mem_those p (y ∷ l) {x} m t = go (p y) (λ e. subst (λ (z : A). T (p z)) e t) (λ k. mem_those p l k t) (Memᴰ.cases_cons m)
    where
      go : (c : Bool) → (x ≡ y → T c) → (Memᴰ x l → Memᴰ x (those p l)) → (x ≡ y) ⊎ Memᴰ x l
          → Memᴰ x (cond c (y ∷ those p l) (those p l))
      go true f ih (inl e) = Memᴰ.head e
      go true f ih (inr k) = Memᴰ.tail (ih k)
      go false f ih (inl e) = absurd (f e)
      go false f ih (inr k) = ih k

  pub none_of_not : (p : A → Bool) (l : List A) {x : A} → T (none_of p l) → Memᴰ x l → T (p x) → ⊥
  none_of_not p [] n m t = Memᴰ.not-nil m
  none_of_not p (y ∷ l) {x} n m t = go (p y) (λ e. subst (λ (z : A). T (p z)) e t) n (λ k j. none_of_not p l k j t) (Memᴰ.cases_cons m)
    where
      go : (c : Bool) → (x ≡ y → T c) → T (not c && none_of p l) → (T (none_of p l) → Memᴰ x l → ⊥) → (x ≡ y) ⊎ Memᴰ x l → ⊥
      go true f n ih m = n
      go false f n ih (inl e) = f e
      go false f n ih (inr k) = ih n k

pub mem_range : (k m : ℕ) (p : ℕ) → k ≤ p → p < k + m → Memᴰ p (range k m)
mem_range k zero p h l = absurd (omega arith)
mem_range k (suc m) p h l = go (λ j. mem_range (suc k) m p j (omega arith)) (eq-or-lt_of_le h)
  where
    go : (k < p → Memᴰ p (range (suc k) m)) → (k ≡ p) ⊎ (k < p) → Memᴰ p (k ∷ range (suc k) m)
    go ih (inl e) = Memᴰ.head (sym e)
    go ih (inr j) = Memᴰ.tail (ih j)
