-- The units that a schedule has on in a period are some of those not fixed off, and all of those fixed on are among them: so short and crowd hold
-- above no schedule that meets the rules.
use mathlib.Core.Path.{◌≡◌, refl, sym, ap, subst}
use mathlib.Core.Bool.{Bool, true, false}
use mathlib.Core.List.{List, [], ◌∷◌}
use mathlib.Core.Logic.{inl, inr}
use mathlib.Core.Option.{Option, none, some}
use Prim.Native.Nat.{ℕ, suc, ◌+◌, ◌≤◌, ◌<◌}
use native.Mathlib.Omega.{arith}
use lib.Dec.{T}
use lib.ListN.{length}
use Rattle.model.specs.declared.generator.Generator.{Generator}
use Rattle.model.specs.Instance.{Instance, Schedule, ◌at◌, sum_units, Each}
use Rattle.model.specs.Rules.{on, if_on, capacity, Row, MeetsPrinted}
use Rattle.model.specs.Above.{Mark, free, fixed, Marks, Above, rest, allows, AtMost, AboveMost}
use Rattle.model.specs.Largest.{total, Choice, nothing, taken, left, LargestSum}
use Rattle.model.specs.Leaf.{unless_off, usable, summed, available, if_fixed_on, fixed_on, not_off, Crowded}
use Rattle.model.specs.Agreement.{Follows, running, Agrees}
use Rattle.model.proofs.Largest.{choice_none, largest_is}

-- ---- what is available

module _ (P : Instance) (A : Above) (t : ℕ) where
  -- where an upper count stands, the largest sum of as many of the pU not fixed off
  pub available_counted : (K : ℕ) → A.most t ≡ some K → LargestSum K (usable P.units A.marks t) (available P A t)
  unfolding available
  available_counted K e =
      let l = usable P.units A.marks t in
      subst (λ (o : Option ℕ). LargestSum K l (summed o l)) (sym e) (largest_is K l)

  -- where none does, the sum of all
  pub available_free : A.most t ≡ none → available P A t ≡ total (usable P.units A.marks t)
  unfolding available
  available_free e = ap (λ (o : Option ℕ). summed o (usable P.units A.marks t)) e

-- ---- the units that run

abbrev before_if : Bool → ℕ → List ℕ → List ℕ
before_if true x l = x ∷ l
before_if false x l = l

-- their pU, by unit number
abbrev on_caps : List Generator → Schedule → ℕ → List ℕ
on_caps [] rs t = []
on_caps (g ∷ gs) [] t = []
on_caps (g ∷ gs) (r ∷ rs) t = before_if (on (r at t)) g.pU (on_caps gs rs t)

caps_total : (gs : List Generator) (rs : Schedule) (t : ℕ) → total (on_caps gs rs t) ≡ sum_units (λ g r. if_on (on (r at t)) g.pU) gs rs
caps_total [] rs t = refl
caps_total (g ∷ gs) [] t = refl
caps_total (g ∷ gs) (r ∷ rs) t = omega (arith, one (on (r at t)), caps_total gs rs t)
  where
    one : (b : Bool) → total (before_if b g.pU (on_caps gs rs t)) ≡ if_on b g.pU + total (on_caps gs rs t)
    one true = refl
    one false = omega arith

caps_few : (gs : List Generator) (rs : Schedule) (t : ℕ) → length (on_caps gs rs t) ≤ running rs t
caps_few [] rs t = omega arith
caps_few (g ∷ gs) [] t = omega arith
caps_few (g ∷ gs) (r ∷ rs) t = omega (arith, one (on (r at t)), caps_few gs rs t)
  where
    one : (b : Bool) → length (before_if b g.pU (on_caps gs rs t)) ≡ if_on b 1 + length (on_caps gs rs t)
    one true = omega arith
    one false = omega arith

-- they are a choice of those not fixed off
caps_chosen : (gs : List Generator) (m : Marks) (rs : Schedule) (t : ℕ) → Follows m rs → Choice (on_caps gs rs t) (usable gs m t)
unfolding usable
caps_chosen [] m rs t h = nothing
caps_chosen (g ∷ gs) m [] t h = choice_none (unless_off (m 0 t) g.pU (usable gs (rest m) t))
caps_chosen (g ∷ gs) m (r ∷ rs) t h = one (m 0 t) (on (r at t)) (h 0 t) (caps_chosen gs (rest m) rs t (λ u. h (suc u)))
  where
    one : (x : Mark) (b : Bool) → T (allows x b) → Choice (on_caps gs rs t) (usable gs (rest m) t)
        → Choice (before_if b g.pU (on_caps gs rs t)) (unless_off x g.pU (usable gs (rest m) t))
    one free true k c = taken c
    one free false k c = left c
    one (fixed true) true k c = taken c
    one (fixed true) false k c = absurd k
    one (fixed false) true k c = absurd k
    one (fixed false) false k c = c

choice_total : {c l : List ℕ} → Choice c l → total c ≤ total l
choice_total nothing = omega arith
choice_total (taken h) = omega (arith, choice_total h)
choice_total (left h) = omega (arith, choice_total h)

-- ---- how many run

-- those fixed on do
fixed_run : (n : ℕ) (gs : List Generator) (m : Marks) (rs : Schedule) (t : ℕ) → Each (Row n) gs rs → Follows m rs → fixed_on gs m t ≤ running rs t
unfolding fixed_on
fixed_run n [] m rs t e h = omega arith
fixed_run n (g ∷ gs) m [] t e h = absurd e
fixed_run n (g ∷ gs) m (r ∷ rs) t e h = omega (arith, one (m 0 t) (on (r at t)) (h 0 t), fixed_run n gs (rest m) rs t e.1 (λ u. h (suc u)))
  where
    one : (x : Mark) (b : Bool) → T (allows x b) → if_fixed_on x ≤ if_on b 1
    one free b k = omega arith
    one (fixed true) true k = omega arith
    one (fixed true) false k = absurd k
    one (fixed false) b k = omega arith

-- those that do are not fixed off
run_usable : (n : ℕ) (gs : List Generator) (m : Marks) (rs : Schedule) (t : ℕ) → Each (Row n) gs rs → Follows m rs → running rs t ≤ not_off gs m t
unfolding usable
run_usable n [] m [] t e h = omega arith
run_usable n [] m (r ∷ rs) t e h = absurd e
run_usable n (g ∷ gs) m [] t e h = absurd e
run_usable n (g ∷ gs) m (r ∷ rs) t e h = one (m 0 t) (on (r at t)) (h 0 t) (run_usable n gs (rest m) rs t e.1 (λ u. h (suc u)))
  where
    one : (x : Mark) (b : Bool) → T (allows x b) → running rs t ≤ not_off gs (rest m) t
        → if_on b 1 + running rs t ≤ length (unless_off x g.pU (usable gs (rest m) t))
    one free true k i = omega arith
    one free false k i = omega arith
    one (fixed true) true k i = omega arith
    one (fixed true) false k i = absurd k
    one (fixed false) true k i = absurd k
    one (fixed false) false k i = omega arith

-- ---- the leaves, of a schedule that meets the rules and agrees with what stands above

module _ (P : Instance) (s : Schedule) (M : MeetsPrinted P s) (A : Above) (h : Agrees A s) where
  -- no short leaf holds: the capacity is there, and of no more units than the upper count
  pub short_excludes : (t : ℕ) → t < P.periods → available P A t < P.demand at t + P.spare at t → ⊥
  unfolding capacity available
  short_excludes t l k = go (A.most t) (h.few t) k
    where
      chosen : Choice (on_caps P.units s t) (usable P.units A.marks t)
      chosen = caps_chosen P.units A.marks s t h.follows

      go : (o : Option ℕ) → AtMost (running s t) o → summed o (usable P.units A.marks t) < P.demand at t + P.spare at t → ⊥
      go none w j = omega (arith, j, M.meets_spare t l, caps_total P.units s t, choice_total chosen)
      go (some K) w j =
          let most = (largest_is K (usable P.units A.marks t)).most (on_caps P.units s t) chosen (omega (arith, w, caps_few P.units s t)) in
          omega (arith, j, M.meets_spare t l, caps_total P.units s t, most)

  -- no crowd leaf holds: those fixed on run, and those that run are not fixed off
  pub crowd_excludes : (t : ℕ) → Crowded P A t → ⊥
  crowd_excludes t (inl k) = go (A.most t) (h.few t) k
    where
      go : (o : Option ℕ) → AtMost (running s t) o → AboveMost (fixed_on P.units A.marks t) o → ⊥
      go none w j = j
      go (some K) w j = omega (arith, j, w, fixed_run P.periods P.units A.marks s t M.rows h.follows)
  crowd_excludes t (inr k) = omega (arith, k, h.enough t, run_usable P.periods P.units A.marks s t M.rows h.follows)
