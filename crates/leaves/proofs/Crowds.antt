-- Crowd: what its test says (document 02, [1]), and how many units are fixed on and how many not fixed off, unit by unit, with their sizes.
use mathlib.Core.Path.{◌≡◌, refl, sym, ◌∙◌, ap, ap₂}
use mathlib.Core.Bool.{Bool, true, false, not, cond, ◌||◌}
use mathlib.Core.List.{List, [], ◌∷◌}
use mathlib.Core.Logic.{◌↔◌, ◌⊎◌, inl, inr}
use mathlib.Core.Option.{Option, none, some}
use Prim.Native.Nat.{ℕ, zero, suc, ◌+◌, ◌<◌}
use native.Mathlib.Omega.{arith}
use borrow.Author.Tests.{eqb-true, lt-ltb, ltb-true}
use lib.Dec.{eqb, ltb}
use lib.ListN.{length, take}
use Rattle.model.specs.declared.generator.Generator.{Generator}
use Rattle.model.specs.Instance.{Instance, ◌at◌}
use Rattle.model.specs.Above.{Mark, free, fixed, Marks, rest, Above, AboveMost}
use Rattle.model.specs.Leaf.{unless_off, usable, if_fixed_on, fixed_on, not_off, Crowded}
use Rattle.walk.specs.Marks.{mark_of, upper_begin, lower_begin, most_of, above_of}
use Rattle.walk.proofs.AboveMarks.{most_here, least_here}
use Rattle.leaves.specs.LeafLeasts.{above_most, crowd_at, counted}

-- ---- what the test says

pub above_most_is : (n : ℕ) (K : Option ℕ) → (above_most n K ≡ true) ↔ AboveMost n K
above_most_is n none = (λ e. absurd (let i : ◌≡◌ {A = ℕ} 0 1 = cc in omega arith), λ h. absurd h)
above_most_is n (some K) = (λ e. ltb-true K n e, λ h. lt-ltb K n h)

either : (b c : Bool) → (b || c) ≡ true → (b ≡ true) ⊎ (c ≡ true)
either true c e = inl refl
either false c e = inr e

or_right : (b c : Bool) → c ≡ true → (b || c) ≡ true
or_right true c e = refl
or_right false c e = e

-- the test holds exactly where the definition does
pub crowd_is : (P : Instance) (A : Above) (t : ℕ) → (crowd_at P A t ≡ true) ↔ Crowded P A t
crowd_is P A t = ((λ e. there (either over under e)), (λ h. back h))
  where
    over : Bool
    over = above_most (fixed_on P.units A.marks t) (A.most t)

    under : Bool
    under = ltb (not_off P.units A.marks t) (A.least t)

    there : (over ≡ true) ⊎ (under ≡ true) → Crowded P A t
    there (inl e) = inl ((above_most_is (fixed_on P.units A.marks t) (A.most t)).0 e)
    there (inr e) = inr (ltb-true (not_off P.units A.marks t) (A.least t) e)

    back : Crowded P A t → (over || under) ≡ true
    back (inl h) = ap (λ (b : Bool). b || under) ((above_most_is (fixed_on P.units A.marks t) (A.most t)).1 h)
    back (inr h) = or_right over under (lt-ltb (not_off P.units A.marks t) (A.least t) h)

-- ---- one byte

-- fixed on, and not fixed off
abbrev pub is_on : Mark → Bool
is_on free = false
is_on (fixed d) = d

pub on_byte : (x : ℕ) → eqb x 2 ≡ is_on (mark_of x)
unfolding mark_of
on_byte x = go (eqb x 1) refl (eqb x 2) refl
  where
    go : (b : Bool) → eqb x 1 ≡ b → (c : Bool) → eqb x 2 ≡ c → c ≡ is_on (cond b (fixed false) (cond c (fixed true) free))
    go true e true h = absurd (omega (arith, eqb-true x 1 e, eqb-true x 2 h))
    go true e false h = refl
    go false e true h = refl
    go false e false h = refl

abbrev pub may_be_on : Mark → Bool
may_be_on free = true
may_be_on (fixed d) = d

pub may_byte : (x : ℕ) → not (eqb x 1) ≡ may_be_on (mark_of x)
unfolding mark_of
may_byte x = go (eqb x 1) (eqb x 2)
  where
    go : (b c : Bool) → not b ≡ may_be_on (cond b (fixed false) (cond c (fixed true) free))
    go true c = refl
    go false true = refl
    go false false = refl

pub fixed_on_counted : (l : List Generator) (m : Marks) (t : ℕ) → counted is_on l m t ≡ fixed_on l m t
unfolding fixed_on
fixed_on_counted [] m t = refl
fixed_on_counted (g ∷ l) m t = ap₂ ◌+◌ (one (m 0 t)) (fixed_on_counted l (rest m) t)
  where
    one : (x : Mark) → cond (is_on x) 1 0 ≡ if_fixed_on x
    one free = refl
    one (fixed true) = refl
    one (fixed false) = refl

pub not_off_counted : (l : List Generator) (m : Marks) (t : ℕ) → counted may_be_on l m t ≡ not_off l m t
unfolding usable
not_off_counted [] m t = refl
not_off_counted (g ∷ l) m t = omega (arith, one (m 0 t) g.pU (usable l (rest m) t), not_off_counted l (rest m) t)
  where
    one : (x : Mark) (v : ℕ) (k : List ℕ) → length (unless_off x v k) ≡ cond (may_be_on x) 1 0 + length k
    one free v k = omega arith
    one (fixed true) v k = omega arith
    one (fixed false) v k = omega arith

-- ---- one unit more

pub counted_more : (p : Mark → Bool) (u : ℕ) (l : List Generator) (m : Marks) (t : ℕ) → u < length l → counted p (take (suc u) l) m t ≡ counted p (take u l) m t + cond (p (m u t)) 1 0
counted_more p u [] m t h = absurd (omega arith)
counted_more p zero (g ∷ l) m t h = omega arith
counted_more p (suc u) (g ∷ l) m t h = omega (arith, counted_more p u l (rest m) t (omega arith))

-- ---- both tests

module _ (P : Instance) (bytes : List ℕ) (t : ℕ) (l : t < P.periods) where
  abbrev under : Bool
  under = ltb (not_off P.units (above_of P bytes).marks t) ((above_of P bytes).least t)

  module _ (n : ℕ) (e : n ≡ fixed_on P.units (above_of P bytes).marks t) where
    over_is : above_most n (most_of (bytes at (upper_begin + t))) ≡ above_most (fixed_on P.units (above_of P bytes).marks t) ((above_of P bytes).most t)
    over_is = ap₂ above_most e (most_here P.periods bytes t l)

    -- n units are fixed on, and k not fixed off
    pub crowd_over : (b : Bool) → b ≡ true → b ≡ above_most n (most_of (bytes at (upper_begin + t))) → b ≡ crowd_at P (above_of P bytes) t
    crowd_over b e h = e ∙ ap (λ (b : Bool). b || under) (sym e ∙ h ∙ over_is)

    pub crowd_under : false ≡ above_most n (most_of (bytes at (upper_begin + t))) → (k : ℕ) → k ≡ not_off P.units (above_of P bytes).marks t
        → (j : ℕ) → j ≡ bytes at (lower_begin + t) → ltb k j ≡ crowd_at P (above_of P bytes) t
    crowd_under h k e j i = ap₂ ltb e (i ∙ least_here P.periods bytes t l) ∙ ap (λ (b : Bool). b || under) (h ∙ over_is)
