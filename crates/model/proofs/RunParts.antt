-- Runs one after the other: what a run keeps, agrees with and costs is what its front does, and what its rear does from the state in which the front ends. By
-- induction on the front.
use mathlib.Core.Path.{◌≡◌, refl, sym, ◌∙◌, ap, fun_ext, subst}
use mathlib.Core.Bool.{Bool, true, false, ◌&&◌}
use mathlib.Core.List.{List, [], ◌∷◌, ◌++◌}
use Prim.Native.Nat.{ℕ, suc, ◌+◌, ◌-◌, ◌≤◌, ◌<◌}
use native.Mathlib.Nat.{suc-add, add-zero}
use native.Mathlib.Omega.{arith}
use lib.Dec.{T}
use lib.ListN.{length, get_or, take, drop, length-append, take-append-drop}
use lib.Seq.{length-take-le, take_all, take-suc}
use Rattle.model.specs.declared.generator.Generator.{Generator}
use Rattle.model.specs.Rules.{permits, spent, keeps}
use Rattle.model.specs.Cost.{switch_cost}
use Rattle.model.specs.Above.{Mark, allows, agrees}
use Rattle.model.specs.Ends.{last, lasted}
use Rattle.model.specs.ForcedWalk.{may}
use Rattle.model.proofs.Tests.{T_and, T_and_l, T_and_r}
use Rattle.model.proofs.WalkRuns.{later, run_total, Obeying, obeying_first, obeying_cons}
use Rattle.model.proofs.WalkPeriods.{from, from_zero}

and_assoc : (x y z : Bool) → ((x && y) && z) ≡ (x && (y && z))
and_assoc true y z = refl
and_assoc false y z = refl

-- ---- a run after a run

-- the state in which they end
pub last_append : (b : Bool) (r r' : List Bool) → last b (r ++ r') ≡ last (last b r) r'
last_append b [] r' = refl
last_append b (d ∷ r) r' = last_append d r r'

pub lasted_append : (b : Bool) (k : ℕ) (r r' : List Bool) → lasted b k (r ++ r') ≡ lasted (last b r) (lasted b k r) r'
lasted_append b k [] r' = refl
lasted_append b k (d ∷ r) r' = lasted_append d (spent b k d) r r'

-- (5) to (10)
pub keeps_append : (g : Generator) (b : Bool) (k : ℕ) (r r' : List Bool) → keeps g b k (r ++ r') ≡ (keeps g b k r && keeps g (last b r) (lasted b k r) r')
keeps_append g b k [] r' = refl
keeps_append g b k (d ∷ r) r' =
    ap (λ (x : Bool). permits g b k d && x) (keeps_append g d (spent b k d) r r')
    ∙ sym (and_assoc (permits g b k d) (keeps g d (spent b k d) r) (keeps g (last d r) (lasted d (spent b k d) r) r'))

-- from period t on the first is period t
from_first : {A : Type 0} (t : ℕ) (f : ℕ → A) → from t f 0 ≡ f t
from_first t f = ap f (add-zero t)

-- and from t on of the periods after the first is from t + 1 on
later_from : {A : Type 0} (t : ℕ) (f : ℕ → A) → from t (later f) ≡ from (suc t) f
later_from t f = fun_ext (λ i. ap f (sym (suc-add t i)))

-- the marks
pub agrees_append : (m : ℕ → Mark) (r r' : List Bool) → agrees m (r ++ r') ≡ (agrees m r && agrees (from (length r) m) r')
agrees_append m [] r' = ap (λ (f : ℕ → Mark). agrees f r') (sym (from_zero m))
agrees_append m (d ∷ r) r' =
    ap (λ (x : Bool). allows (m 0) d && x) (agrees_append (later m) r r')
    ∙ sym (and_assoc (allows (m 0) d) (agrees (later m) r) (agrees (from (length r) (later m)) r'))
    ∙ ap (λ (f : ℕ → Mark). agrees m (d ∷ r) && agrees f r') (later_from (length r) m)

-- the cost
pub total_append : (g : Generator) (w : ℕ → Bool → ℕ) (b : Bool) (k : ℕ) (r r' : List Bool)
    → run_total g w b k (r ++ r') ≡ run_total g w b k r + run_total g (from (length r) w) (last b r) (lasted b k r) r'
total_append g w b k [] r' = omega (arith, ap (λ (f : ℕ → Bool → ℕ). run_total g f b k r') (from_zero w))
total_append g w b k (d ∷ r) r' =
    omega (arith, total_append g (later w) d (spent b k d) r r', ap rear (later_from (length r) w))
  where
    rear : (ℕ → Bool → ℕ) → ℕ
    rear f = run_total g f (last d r) (lasted d (spent b k d) r) r'

-- with the front's length by its number
pub total_parts : (g : Generator) (w : ℕ → Bool → ℕ) (b : Bool) (k t : ℕ) (r r' : List Bool) → length r ≡ t
    → run_total g w b k (r ++ r') ≡ run_total g w b k r + run_total g (from t w) (last b r) (lasted b k r) r'
total_parts g w b k t r r' e = total_append g w b k r r' ∙ ap (λ (x : ℕ). run_total g w b k r + run_total g (from x w) (last b r) (lasted b k r) r') e

-- ---- both obey, and a run that obeys is a front and a rear that do

module _ (t j : ℕ) (g : Generator) (m : ℕ → Mark) (b : Bool) (k : ℕ) (r r' : List Bool) where
  pub obeying_append : Obeying t g m b k r → Obeying j g (from t m) (last b r) (lasted b k r) r' → Obeying (t + j) g m b k (r ++ r')
  obeying_append o o' = record {
    long = length-append r r' ∙ omega (arith, o.long, o'.long);
    times = subst T (sym (keeps_append g b k r r')) (T_and (keeps g b k r) (keeps g (last b r) (lasted b k r) r') o.times o'.times);
    marked = subst T (sym (agrees_append m r r')) (T_and (agrees m r) (agrees (from (length r) m) r') o.marked rear);
  }
    where
      rear : T (agrees (from (length r) m) r')
      rear = subst (λ (x : ℕ). T (agrees (from x m) r')) (sym o.long) o'.marked

  front_obeying : length r ≡ t → Obeying (t + j) g m b k (r ++ r') → Obeying t g m b k r
  front_obeying e o = record {
    long = e;
    times = T_and_l (keeps g b k r) (keeps g (last b r) (lasted b k r) r') (subst T (keeps_append g b k r r') o.times);
    marked = T_and_l (agrees m r) (agrees (from (length r) m) r') (subst T (agrees_append m r r') o.marked);
  }

  rear_obeying : length r ≡ t → Obeying (t + j) g m b k (r ++ r') → Obeying j g (from t m) (last b r) (lasted b k r) r'
  rear_obeying e o = record {
    long = omega (arith, e, o.long, length-append r r');
    times = T_and_r (keeps g b k r) (keeps g (last b r) (lasted b k r) r') (subst T (keeps_append g b k r r') o.times);
    marked = subst (λ (x : ℕ). T (agrees (from x m) r')) e (T_and_r (agrees m r) (agrees (from (length r) m) r') (subst T (agrees_append m r r') o.marked));
  }

-- the first t statuses of a run of n, and the rest of it
pub record Parts (n t : ℕ) (g : Generator) (m : ℕ → Mark) (b : Bool) (k : ℕ) (run front rear : List Bool) : Type 0 where
  pub is : run ≡ front ++ rear
  pub first : Obeying t g m b k front
  pub then : Obeying (n - t) g (from t m) (last b front) (lasted b k front) rear

pub obeying_parts : (n t : ℕ) → t ≤ n → (g : Generator) (m : ℕ → Mark) (b : Bool) (k : ℕ) (run : List Bool) → Obeying n g m b k run
    → Parts n t g m b k run (take t run) (drop t run)
obeying_parts n t l g m b k run o = record {
  is = whole;
  first = front_obeying t (n - t) g m b k (take t run) (drop t run) short cut;
  then = rear_obeying t (n - t) g m b k (take t run) (drop t run) short cut;
}
  where
    whole : run ≡ take t run ++ drop t run
    whole = sym (take-append-drop t run)

    short : length (take t run) ≡ t
    short = length-take-le t run (omega (arith, o.long))

    sum : n ≡ t + (n - t)
    sum = omega arith

    cut : Obeying (t + (n - t)) g m b k (take t run ++ drop t run)
    cut = subst (λ (r : List Bool). Obeying (t + (n - t)) g m b k r) whole (subst (λ (x : ℕ). Obeying x g m b k run) sum o)

-- ---- one status more

pub last_snoc : (b : Bool) (r : List Bool) (d : Bool) → last b (r ++ (d ∷ [])) ≡ d
last_snoc b r d = last_append b r (d ∷ [])

pub lasted_snoc : (b : Bool) (k : ℕ) (r : List Bool) (d : Bool) → lasted b k (r ++ (d ∷ [])) ≡ spent (last b r) (lasted b k r) d
lasted_snoc b k r d = lasted_append b k r (d ∷ [])

pub total_snoc : (g : Generator) (w : ℕ → Bool → ℕ) (b : Bool) (k t : ℕ) (r : List Bool) (d : Bool) → length r ≡ t
    → run_total g w b k (r ++ (d ∷ [])) ≡ run_total g w b k r + (switch_cost g (last b r) (lasted b k r) d + w t d)
total_snoc g w b k t r d e =
    omega (arith, total_parts g w b k t r (d ∷ []) e, ap (λ (f : Bool → ℕ). f d) (from_first t w))

-- a run up to and with period t ends in its status of that period
pub last_take : (b : Bool) (run : List Bool) (t : ℕ) → t < length run → last b (take (suc t) run) ≡ get_or run t false
last_take b run t l = ap (last b) (take-suc run t false l) ∙ last_snoc b (take t run) (get_or run t false)

pub last_is : (b : Bool) (r : List Bool) (t : ℕ) → length r ≡ suc t → last b r ≡ get_or r t false
last_is b r t e = ap (last b) (sym (take_all (suc t) r (omega (arith, e)))) ∙ last_take b r t (omega (arith, e))

module _ (t : ℕ) (g : Generator) (m : ℕ → Mark) (b : Bool) (k : ℕ) where
  pub obeying_snoc : (r : List Bool) (d : Bool) → Obeying t g m b k r → may g (m t) (last b r) (lasted b k r) d → Obeying (suc t) g m b k (r ++ (d ∷ []))
  obeying_snoc r d o p =
      let n : t + 1 ≡ suc t = omega arith in
      let p' : may g (from t m 0) (last b r) (lasted b k r) d = subst (λ (x : Mark). may g x (last b r) (lasted b k r) d) (sym (from_first t m)) p in
      let one : Obeying 1 g (from t m) (last b r) (lasted b k r) (d ∷ []) = obeying_cons p' (record { long = refl; times = tt; marked = tt }) in
      subst (λ (x : ℕ). Obeying x g m b k (r ++ (d ∷ []))) n (obeying_append t 1 g m b k r (d ∷ []) o one)

  -- a run of t + 1 statuses is one of t and its last
  pub obeying_last : (run : List Bool) → Obeying (suc t) g m b k run
      → (r : List Bool) × (d : Bool) × (run ≡ r ++ (d ∷ [])) × Obeying t g m b k r × may g (m t) (last b r) (lasted b k r) d
  obeying_last run o =
      let p = obeying_parts (suc t) t (omega arith) g m b k run o in
      let one : suc t - t ≡ 1 = omega arith in
      let s = single (drop t run) (subst (λ (n : ℕ). Obeying n g (from t m) c j (drop t run)) one p.then) in
      let is : run ≡ take t run ++ (s.0 ∷ []) = p.is ∙ ap (λ (r : List Bool). take t run ++ r) s.1 in
      (take t run, s.0, is, p.first, subst (λ (a : Mark). may g a c j s.0) (from_first t m) s.2)
    where
      c : Bool
      c = last b (take t run)

      j : ℕ
      j = lasted b k (take t run)

      single : (r : List Bool) → Obeying 1 g (from t m) c j r → (d : Bool) × (r ≡ d ∷ []) × may g (from t m 0) c j d
      single [] q = absurd (omega (arith, q.long))
      single (d ∷ []) q = (d, refl, obeying_first q)
      single (d ∷ (x ∷ r)) q = absurd (omega (arith, q.long))
