-- A member is better than the first of the best exactly when it is better than all, so comparing with what is held is comparing with all that
-- came before. Of a list only one member is the first of the best: it is what is held after it.
use mathlib.Core.Path.{◌≡◌, refl, sym, ap, subst, ◌∙◌}
use mathlib.Core.Bool.{Bool, true, false, not, cond}
use mathlib.Core.Option.{Option, none, some}
use mathlib.Core.Logic.{◌⊎◌, inl, inr}
use mathlib.Core.List.Memᴰ
use mathlib.Core.List.{List, [], ◌∷◌, ◌++◌, Memᴰ}
use Prim.Native.Nat.{ℕ}
use native.Mathlib.Omega.{arith}
use lib.Dec.{T, ltb→lt, lt→ltb, nltb→le}
use Rattle.model.specs.Ranges.{every}
use Rattle.model.specs.Figures.{Bound}
use Rattle.model.specs.Best.{First}
use Rattle.model.proofs.Lists.{take, held_after, IsFirst, cheaper, raises, higher_trans, higher_weak}
use Rattle.model.proofs.Tests.{T_and, T_and_l, T_and_r}

-- ---- tests of every member

same_test : (a b : Bool) → (T a → T b) → (T b → T a) → a ≡ b
same_test true true f g = refl
same_test true false f g = absurd (f tt)
same_test false true f g = absurd (g tt)
same_test false false f g = refl

module _ {A : Type 0} (p : A → Bool) where
  every_mem : (l : List A) → ((x : A) → Memᴰ x l → T (p x)) → T (every p l)
  every_mem [] h = tt
  every_mem (y ∷ l) h = T_and (p y) (every p l) (h y (Memᴰ.head refl)) (every_mem l (λ x m. h x (Memᴰ.tail m)))

  mem_every : (l : List A) → T (every p l) → (x : A) → Memᴰ x l → T (p x)
  mem_every [] t x m = absurd (Memᴰ.not-nil m)
  mem_every (y ∷ l) t x m = go (Memᴰ.cases_cons m) (λ k. mem_every l (T_and_r (p y) (every p l) t) x k)
    where
      go : (x ≡ y) ⊎ Memᴰ x l → (Memᴰ x l → T (p x)) → T (p x)
      go (inl e) ih = subst (λ (z : A). T (p z)) (sym e) (T_and_l (p y) (every p l) t)
      go (inr k) ih = ih k

module _ {A : Type 0} (better : A → A → Bool) where
  -- the first of the best is one of the list
  pub first_mem : (h : A) (l : List A) → First better h l → Memᴰ h l
  first_mem h l f = subst (λ (k : List A). Memᴰ h k) (sym f.parts) (Memᴰ.append_right f.before (Memᴰ.head refl))

  -- none is held, or it is better than what is
  abbrev pub beats : Option A → A → Bool
  beats none x = true
  beats (some h) x = better x h

  -- ---- what is held after two lists, and after one more

  pub held_both : (o : Option A) (a b : List A) → held_after better o (a ++ b) ≡ held_after better (held_after better o a) b
  held_both o [] b = refl
  held_both o (x ∷ a) b = held_both (take better o x) a b

  -- ---- one first of the best

  -- where none is better what is held stays
  stays : (h : A) (l : List A) → ((x : A) → Memᴰ x l → T (not (better x h))) → held_after better (some h) l ≡ some h
  stays h [] n = refl
  stays h (x ∷ l) n = go (better x h) (n x (Memᴰ.head refl)) (stays h l (λ y m. n y (Memᴰ.tail m)))
    where
      go : (c : Bool) → T (not c) → held_after better (some h) l ≡ some h → held_after better (cond c (some x) (some h)) l ≡ some h
      go true t ih = absurd t
      go false t ih = ih

  -- what is held is none or a member
  abbrev Among : Option A → List A → Type 0
  Among none l = Unit {0}
  Among (some x) l = Memᴰ x l

  -- one that beats all of them is held next
  beats_taken : (o : Option A) (l : List A) (h : A) → Among o l → ((x : A) → Memᴰ x l → T (better h x)) → take better o h ≡ some h
  beats_taken none l h m w = refl
  beats_taken (some x) l h m w = go (better h x) (w x m)
    where
      go : (c : Bool) → T c → cond c (some h) (some x) ≡ some h
      go true t = refl
      go false t = absurd t

  module _ (trans : (x y z : A) → T (better x y) → T (better y z) → T (better x z))
      (weak : (x h y : A) → T (better x h) → T (not (better y h)) → T (better x y))
      (firsts : (l : List A) → IsFirst better (held_after better none l) l) where
    -- comparing with what is held is comparing with all
    pub beats_every : (o : Option A) (l : List A) → IsFirst better o l → (x : A) → beats o x ≡ every (better x) l
    beats_every none l e x = rw e refl
    beats_every (some h) l f x = same_test (better x h) (every (better x) l)
        (λ b. every_mem (better x) l (λ y m. all y b (Memᴰ.append_cases f.before (subst (λ (k : List A). Memᴰ y k) f.parts m))))
        (λ t. mem_every (better x) l t h (first_mem h l f))
      where
        all : (y : A) → T (better x h) → Memᴰ y f.before ⊎ Memᴰ y (h ∷ f.after) → T (better x y)
        all y b (inl m) = trans x h y b (f.worse y m)
        all y b (inr m) = tail (Memᴰ.cases_cons m)
          where
            tail : (y ≡ h) ⊎ Memᴰ y f.after → T (better x y)
            tail (inl e) = rw e b
            tail (inr k) = weak x h y b (f.no_better y k)

    held_among : (l : List A) → Among (held_after better none l) l
    held_among l = go (held_after better none l) (firsts l)
      where
        go : (o : Option A) → IsFirst better o l → Among o l
        go none e = tt
        go (some h) f = first_mem h l f

    -- the first of the best is what is held
    pub first_held : (h : A) (l : List A) → First better h l → held_after better none l ≡ some h
    first_held h l f =
        ap (held_after better none) f.parts
        ∙ held_both none f.before (h ∷ f.after)
        ∙ ap (λ (o : Option A). held_after better o f.after) (beats_taken (held_after better none f.before) f.before h (held_among f.before) f.worse)
        ∙ stays h f.after f.no_better

    -- so it is one
    pub one_first : (h k : A) (l : List A) → First better h l → First better k l → h ≡ k
    one_first h k l f g = let e = sym (first_held h l f) ∙ first_held k l g in cc

-- ---- by cost and by bound

module _ {A : Type 0} (cost : A → ℕ) where
  pub cheaper_trans : (x y z : A) → T (cheaper cost x y) → T (cheaper cost y z) → T (cheaper cost x z)
  cheaper_trans x y z h k = lt→ltb (cost x) (cost z) (omega (arith, ltb→lt (cost x) (cost y) h, ltb→lt (cost y) (cost z) k))

  pub cheaper_weak : (x h y : A) → T (cheaper cost x h) → T (not (cheaper cost y h)) → T (cheaper cost x y)
  cheaper_weak x h y k n = lt→ltb (cost x) (cost y) (omega (arith, ltb→lt (cost x) (cost h) k, nltb→le (cost y) (cost h) n))

module _ {A : Type 0} (bound : A → Bound) where
  pub raises_trans : (x y z : A) → T (raises bound x y) → T (raises bound y z) → T (raises bound x z)
  raises_trans x y z = higher_trans (bound x) (bound y) (bound z)

  pub raises_weak : (x h y : A) → T (raises bound x h) → T (not (raises bound y h)) → T (raises bound x y)
  raises_weak x h y = higher_weak (bound x) (bound h) (bound y)
