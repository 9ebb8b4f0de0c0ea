-- What is held after a list is the first of the best. Each member is compared with what is held so far, and a step keeps 'the first of
-- the best so far'.
use mathlib.Core.Path.{◌≡◌, refl, ◌∙◌, ap, subst}
use mathlib.Core.Bool.{Bool, true, false, not, cond}
use mathlib.Core.Option.{Option, none, some}
use mathlib.Core.Logic.{◌⊎◌, inl, inr}
use mathlib.Core.List.Memᴰ
use mathlib.Core.List.{List, [], ◌∷◌, ◌++◌, append_assoc, append-nil, Memᴰ}
use Prim.Native.Nat.{ℕ}
use native.Mathlib.Omega.{arith}
use lib.Dec.{T, ltb, ltb→lt, lt→ltb, nltb→le}
use Rattle.model.specs.Best.{First, higher}
use Rattle.model.specs.Figures.{Bound}
use Rattle.std.specs.Prelude.{None as never, Some as number}
use Rattle.model.proofs.Integers.{ltZ→nat, nat→ltZ, nltZ→nat}

module _ {A : Type 0} (better : A → A → Bool) where
  -- a member is held if none is held or it is better; otherwise nothing changes
  abbrev pub take : Option A → A → Option A
  take none x = some x
  take (some h) x = cond (better x h) (some x) (some h)

  -- what is held after a list, from what was held before it
  abbrev pub held_after : Option A → List A → Option A
  held_after o [] = o
  held_after o (x ∷ l) = held_after (take o x) l

  -- nothing is held of an empty list, and of any other the first of the best
  abbrev pub IsFirst : Option A → List A → Type 0
  IsFirst none l = l ≡ []
  IsFirst (some h) l = First better h l

  module _ (trans : (x y z : A) → T (better x y) → T (better y z) → T (better x z))
      (weak : (x h y : A) → T (better x h) → T (not (better y h)) → T (better x y)) where
    step : (o : Option A) (l : List A) (x : A) → IsFirst o l → IsFirst (take o x) (l ++ (x ∷ []))
    step none l x e = record {
      before = [];
      after = [];
      parts = ap (λ (k : List A). k ++ (x ∷ [])) e;
      worse = λ y m. absurd (Memᴰ.not-nil m);
      no_better = λ y m. absurd (Memᴰ.not-nil m);
    }
    step (some h) l x f = go (better x h) (λ t. t) (λ t. t)
      where
        older : (y : A) → T (better x h) → Memᴰ y f.before ⊎ Memᴰ y (h ∷ f.after) → T (better x y)
        older y b (inl m) = trans x h y b (f.worse y m)
        older y b (inr m) = tail (Memᴰ.cases_cons m)
          where
            tail : (y ≡ h) ⊎ Memᴰ y f.after → T (better x y)
            tail (inl e) = rw e b
            tail (inr k) = weak x h y b (f.no_better y k)

        newer : (y : A) → T (not (better x h)) → Memᴰ y f.after ⊎ Memᴰ y (x ∷ []) → T (not (better y h))
        newer y n (inl m) = f.no_better y m
        newer y n (inr m) = rw (Memᴰ.eq_of_singleton m) n

        go : (c : Bool) → (T c → T (better x h)) → (T (not c) → T (not (better x h))) → IsFirst (cond c (some x) (some h)) (l ++ (x ∷ []))
        go true b n = record {
          before = l;
          after = [];
          parts = refl;
          worse = λ y m. older y (b tt) (Memᴰ.append_cases f.before (subst (λ (k : List A). Memᴰ y k) f.parts m));
          no_better = λ y m. absurd (Memᴰ.not-nil m);
        }
        go false b n = record {
          before = f.before;
          after = f.after ++ (x ∷ []);
          parts = ap (λ (k : List A). k ++ (x ∷ [])) f.parts ∙ append_assoc f.before (h ∷ f.after) (x ∷ []);
          worse = f.worse;
          no_better = λ y m. newer y (n tt) (Memᴰ.append_cases f.after m);
        }

    from : (o : Option A) (past l : List A) → IsFirst o past → IsFirst (held_after o l) (past ++ l)
    from o past [] h = rw (append-nil past) h
    from o past (x ∷ l) h = rw (← (append_assoc past (x ∷ []) l)) (from (take o x) (past ++ (x ∷ [])) l (step o past x h))

    -- what is held after a whole list
    pub held_first : (l : List A) → IsFirst (held_after none l) l
    held_first l = from none [] l refl

-- ---- by cost, the least

module _ {A : Type 0} (cost : A → ℕ) where
  abbrev pub cheaper : A → A → Bool
  cheaper x y = ltb (cost x) (cost y)

  pub held_least : (l : List A) → IsFirst cheaper (held_after cheaper none l) l
  held_least =
      held_first cheaper
      (λ x y z h k. lt→ltb (cost x) (cost z) (omega (arith, ltb→lt (cost x) (cost y) h, ltb→lt (cost y) (cost z) k)))
      (λ x h y k n. lt→ltb (cost x) (cost y) (omega (arith, ltb→lt (cost x) (cost h) k, nltb→le (cost y) (cost h) n)))

-- ---- by bound, the highest

pub higher_trans : (x y z : Bound) → T (higher x y) → T (higher y z) → T (higher x z)
higher_trans never y never h k = go y k
  where
    go : (y : Bound) → T (higher y never) → ⊥
    go never k = k
    go (number y) k = k
higher_trans never y (number z) h k = tt
higher_trans (number x) never z h k = absurd h
higher_trans (number x) (number y) never h k = absurd k
higher_trans (number x) (number y) (number z) h k = nat→ltZ z x (omega (arith, ltZ→nat y x h, ltZ→nat z y k))

pub higher_weak : (x h y : Bound) → T (higher x h) → T (not (higher y h)) → T (higher x y)
higher_weak never never y k n = absurd k
higher_weak never (number h) never k n = absurd n
higher_weak never (number h) (number y) k n = tt
higher_weak (number x) never y k n = absurd k
higher_weak (number x) (number h) never k n = absurd n
higher_weak (number x) (number h) (number y) k n = nat→ltZ y x (omega (arith, ltZ→nat h x k, nltZ→nat h y n))

module _ {A : Type 0} (bound : A → Bound) where
  abbrev pub raises : A → A → Bool
  raises x y = higher (bound x) (bound y)

  pub held_highest : (l : List A) → IsFirst raises (held_after raises none l) l
  held_highest =
      held_first raises (λ x y z. higher_trans (bound x) (bound y) (bound z)) (λ x h y. higher_weak (bound x) (bound h) (bound y))
