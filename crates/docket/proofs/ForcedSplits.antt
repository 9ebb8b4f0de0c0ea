-- What forcing a status does to the question and to the leaf: the marks with it fixed are those of the bytes with its byte set; and with it fixed the value of a price leaf differs by
-- as much as the entry from the unit's least value, or a unit is stuck.
use mathlib.Core.Path.{◌≡◌, refl, sym, ap, ap₂, fun_ext, ◌∙◌}
use mathlib.Core.Bool.{Bool, true, false, cond, ◌&&◌, ◌||◌}
use mathlib.Core.List.{List, [], ◌∷◌}
use mathlib.Core.Option.{none, some}
use Prim.Native.Nat.{ℕ, zero, suc, ◌<◌}
use native.Mathlib.Omega.{arith}
use borrow.Author.Tests.{eqb-true, eq-eqb, ne_eqb}
use lib.Dec.{T, eqb, eqb-suc-suc}
use lib.IntN.{ℤ, pos, ◌+ℤ◌}
use lib.ListN.{length, get_or, set}
use lib.Seq.{get_or-set_same, get_or-set_other}
use Rattle.model.specs.declared.generator.Generator.{Generator}
use Rattle.model.specs.Instance.{Instance, ◌at◌}
use Rattle.model.specs.Above.{Mark, fixed, Marks, mark, rest, allows}
use Rattle.model.specs.Leaf.{is_stuck, any_stuck, unit_least, units_least, requirement, leaf_value}
use Rattle.model.specs.Forced.{force, forced_least, value_number, stuck_number}
use Rattle.model.specs.Held.{blank_generator}
use Rattle.model.proofs.Integers.{up, down, +ℤ-nat, nat→eq}
use Rattle.walk.specs.Marks.{mark_of, marks_of}
use Rattle.docket.specs.Requested.{status_byte}

-- ---- as bytes

byte_again : (d : Bool) → mark_of (status_byte (fixed d)) ≡ fixed d
unfolding mark_of
byte_again true = refl
byte_again false = refl

pub forced_bytes : (bytes : List ℕ) (t : ℕ) → t < length bytes → (d : Bool) → marks_of (set bytes t (status_byte (fixed d))) ≡ force t d (marks_of bytes)
forced_bytes bytes t l d = fun_ext (λ i. go i (eqb t i) refl)
  where
    b : ℕ
    b = status_byte (fixed d)

    go : (i : ℕ) (c : Bool) → eqb t i ≡ c → mark_of (set bytes t b at i) ≡ cond c (fixed d) (mark_of (bytes at i))
    go i true e = ap (λ (k : ℕ). mark_of (set bytes t b at k)) (sym (eqb-true t i e)) ∙ ap mark_of (get_or-set_same bytes t b 0 l) ∙ byte_again d
    go i false e = ap mark_of (get_or-set_other bytes t i b 0 (λ k. other (eq-eqb t i (omega (arith, k)))))
      where
        other : eqb t i ≡ true → ⊥
        other k = let z : ◌≡◌ {A = ℕ} 0 1 = cc in omega arith

-- ---- the marks of one unit and of the others

module _ (t : ℕ) (d : Bool) (m : Marks) where
  first_forced : mark 0 t d m 0 ≡ force t d (m 0)
  first_forced = fun_ext (λ i. ap (λ (c : Bool). cond (c && eqb t i) (fixed d) (m 0 i)) (eq-eqb 0 0 refl))

  rest_free : rest (mark 0 t d m) ≡ rest m
  rest_free = fun_ext (λ v. fun_ext (λ i. ap (λ (c : Bool). cond (c && eqb t i) (fixed d) (m (suc v) i)) (ne_eqb 0 (suc v) (λ e. omega arith))))

  first_free : (u : ℕ) → mark (suc u) t d m 0 ≡ m 0
  first_free u = fun_ext (λ i. ap (λ (c : Bool). cond (c && eqb t i) (fixed d) (m 0 i)) (ne_eqb (suc u) 0 (λ e. omega arith)))

  rest_forced : (u : ℕ) → rest (mark (suc u) t d m) ≡ mark u t d (rest m)
  rest_forced u = fun_ext (λ v. fun_ext (λ i. ap (λ (c : Bool). cond (c && eqb t i) (fixed d) (m (suc v) i)) (eqb-suc-suc u v)))

-- ---- the units

swapped : (x y z : ℤ) → (x +ℤ y) +ℤ z ≡ (z +ℤ y) +ℤ x
swapped x y z = nat→eq ((x +ℤ y) +ℤ z) ((z +ℤ y) +ℤ x) (omega (arith, +ℤ-nat x y, +ℤ-nat (x +ℤ y) z, +ℤ-nat z y, +ℤ-nat (z +ℤ y) x))

before : (x y z y' z' : ℤ) → y +ℤ z ≡ y' +ℤ z' → (x +ℤ y) +ℤ z ≡ (x +ℤ y') +ℤ z'
before x y z y' z' e =
    nat→eq ((x +ℤ y) +ℤ z) ((x +ℤ y') +ℤ z')
    (omega (arith, ap up e, ap down e, +ℤ-nat y z, +ℤ-nat y' z', +ℤ-nat x y, +ℤ-nat (x +ℤ y) z, +ℤ-nat x y', +ℤ-nat (x +ℤ y') z'))

behind : (x y z x' z' : ℤ) → x +ℤ z ≡ x' +ℤ z' → (x +ℤ y) +ℤ z ≡ (x' +ℤ y) +ℤ z'
behind x y z x' z' e =
    nat→eq ((x +ℤ y) +ℤ z) ((x' +ℤ y) +ℤ z')
    (omega (arith, ap up e, ap down e, +ℤ-nat x z, +ℤ-nat x' z', +ℤ-nat x y, +ℤ-nat (x +ℤ y) z, +ℤ-nat x' y, +ℤ-nat (x' +ℤ y) z'))

T_left : (a b : Bool) → T a → T (a || b)
T_left true b t = tt
T_left false b t = absurd t

T_right : (a b : Bool) → T b → T (a || b)
T_right true b t = tt
T_right false b t = t

module _ (n : ℕ) (q s : ℕ → ℕ) (t : ℕ) (d : Bool) where
  units_forced : (gs : List Generator) (m : Marks) (a : Generator) (u : ℕ) → u < length gs
      → units_least n q s gs (mark u t d m) +ℤ unit_least n q s (get_or gs u a) (m u) ≡ units_least n q s gs m +ℤ unit_least n q s (get_or gs u a) (force t d (m u))
  unfolding units_least
  units_forced [] m a u h = absurd (omega arith)
  units_forced (g ∷ gs) m a zero h =
      ap₂ (λ (f : ℕ → Mark) (M : Marks). (unit_least n q s g f +ℤ units_least n q s gs M) +ℤ unit_least n q s g (m 0)) (first_forced t d m) (rest_free t d m)
      ∙ swapped (unit_least n q s g (force t d (m 0))) (units_least n q s gs (rest m)) (unit_least n q s g (m 0))
  units_forced (g ∷ gs) m a (suc u) h =
      ap₂ (λ (f : ℕ → Mark) (M : Marks). (unit_least n q s g f +ℤ units_least n q s gs M) +ℤ unit_least n q s (get_or gs u a) (m (suc u))) (first_free t d m u) (rest_forced t d m u)
      ∙ before (unit_least n q s g (m 0)) (units_least n q s gs (mark u t d (rest m))) (unit_least n q s (get_or gs u a) (m (suc u))) (units_least n q s gs (rest m))
      (unit_least n q s (get_or gs u a) (force t d (m (suc u)))) (units_forced gs (rest m) a u (omega arith))

  stuck_forced : (gs : List Generator) (m : Marks) (a : Generator) (u : ℕ) → u < length gs → T (is_stuck n (get_or gs u a) (force t d (m u))) → T (any_stuck n gs (mark u t d m))
  stuck_forced [] m a u h k = absurd (omega arith)
  stuck_forced (g ∷ gs) m a zero h k = T_left (is_stuck n g (mark 0 t d m 0)) (any_stuck n gs (rest (mark 0 t d m))) (rw (first_forced t d m) k)
  stuck_forced (g ∷ gs) m a (suc u) h k =
      T_right (is_stuck n g (mark (suc u) t d m 0)) (any_stuck n gs (rest (mark (suc u) t d m))) (rw (rest_forced t d m u) (stuck_forced gs (rest m) a u (omega arith) k))

-- ---- the leaf

module _ (P : Instance) (m : Marks) (q s : ℕ → ℕ) (u : ℕ) (u<I : u < length P.units) (t : ℕ) (d : Bool) where
  abbrev T' : ℕ
  T' = P.periods

  abbrev g : Generator
  g = get_or P.units u blank_generator

  -- where the entry has the value z
  pub leaf_raised : (z : ℤ) → forced_least T' q s g (m u) t d ≡ some z → leaf_value P (mark u t d m) q s +ℤ unit_least T' q s g (m u) ≡ leaf_value P m q s +ℤ z
  unfolding leaf_value
  leaf_raised z e =
      behind (units_least T' q s P.units (mark u t d m)) (pos (requirement P q s)) (unit_least T' q s g (m u)) (units_least T' q s P.units m) z
      (units_forced T' q s t d P.units m blank_generator u u<I ∙ ap (λ (x : ℤ). units_least T' q s P.units m +ℤ x) (least_is (allows (m u t) d) (is_stuck T' g (force t d (m u))) e))
    where
      least_is : (a b : Bool) → cond a (cond b none (some (unit_least T' q s g (force t d (m u))))) none ≡ some z → unit_least T' q s g (force t d (m u)) ≡ z
      least_is true true k = absurd (omega (arith, ap stuck_number k))
      least_is true false k = ap value_number k
      least_is false b k = absurd (omega (arith, ap stuck_number k))

  -- where it says stuck, and the status is not fixed the other way
  pub leaf_stuck : T (allows (m u t) d) → forced_least T' q s g (m u) t d ≡ none → T (any_stuck T' P.units (mark u t d m))
  leaf_stuck h e = stuck_forced T' q s t d P.units m blank_generator u u<I (is (allows (m u t) d) (is_stuck T' g (force t d (m u))) h e)
    where
      is : (a b : Bool) → T a → cond a (cond b none (some (unit_least T' q s g (force t d (m u))))) none ≡ none → T b
      is true true k e = tt
      is true false k e = absurd (omega (arith, ap stuck_number e))
      is false b k e = absurd k
