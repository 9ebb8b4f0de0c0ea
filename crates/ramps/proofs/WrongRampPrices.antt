-- Document 02, [6]: readings of the priced differences that are not the one asked, each refuted by a row on which the values differ; and, of those that
-- would give a figure that a schedule undercuts, by such a schedule. A reading is a pair of differences of one step, of (12) and of (11).
use mathlib.Core.Path.{◌≡◌, refl, ap, ap₂, subst, fun_ext}
use mathlib.Core.Bool.{Bool, true, false, not, cond, ◌&&◌}
use mathlib.Core.List.{List, [], ◌∷◌, map}
use Prim.Native.Nat.{ℕ, zero, suc, pred, ◌+◌}
use native.Mathlib.Nat.{mul-add, mul-le-mul_left}
use native.Mathlib.Omega.{arith}
use lib.Dec.{T, eqb}
use lib.IntN.{ℤ, pos, neg_ℤ, ◌+ℤ◌, ◌-ℤ◌, ◌*ℤ◌, +ℤ_comm}
use lib.Signed.{le_z, ◌≤ℤ◌, ≤ℤ_refl}
use Rattle.model.specs.declared.generator.Generator.{Generator}
use Rattle.model.specs.Instance.{Instance, Schedule, ◌at◌}
use Rattle.model.specs.Rules.{on, if_on, output, capacity, Meets}
use Rattle.model.specs.Cost.{row_cost, cost}
use Rattle.model.specs.Breach.{first_breach}
use Rattle.model.specs.Above.{Marks, root, rest}
use Rattle.model.specs.Leaf.{rows_of, minℤ, least, revenue, value, requirement}
use Rattle.model.specs.Ramps.{over_rise, over_fall, sumℤ, ramp_charge, ramp_value, ramp_least, Steps, rest_steps, ramp_leasts, ramp_leaf_value}
use Rattle.model.specs.Examples.{line}
use Rattle.model.specs.RampExamples.{slow}
use Rattle.model.proofs.Integers.{up, down, le→nat, nat→le, +ℤ-nat, -ℤ-nat, ≤ℤ-trans, min_left, min_right}
use Rattle.model.proofs.Judging.{judge_none}
use Rattle.model.proofs.RampSums.{scaled_nat}
use Rattle.model.proofs.Sides.{agrees_root}
use Rattle.model.proofs.RampLeaf.{ramp_below}

-- ---- a leaf's value by a reading

abbrev Difference : Type 0
Difference = Generator → ℕ → ℕ → ℤ

module _ (rise fall : Difference) where
  abbrev charge : ℕ → (ℕ → ℕ) → (ℕ → ℕ) → Generator → List ℕ → ℤ
  charge n x y g r = sumℤ (pred n) (λ t. (pos (x t) *ℤ rise g (r at t) (r at suc t)) +ℤ (pos (y t) *ℤ fall g (r at t) (r at suc t)))

  abbrev charged : ℕ → (ℕ → ℕ) → (ℕ → ℕ) → (ℕ → ℕ) → (ℕ → ℕ) → Generator → List ℕ → ℤ
  charged n q s x y g r = value n q s g r +ℤ charge n x y g r

  abbrev charged_leasts : ℕ → (ℕ → ℕ) → (ℕ → ℕ) → Steps → Steps → List Generator → Marks → ℤ
  charged_leasts n q s x y [] m = pos 0
  charged_leasts n q s x y (g ∷ gs) m =
      least (map (charged n q s (x 0) (y 0) g) (rows_of n g (m 0))) +ℤ charged_leasts n q s (rest_steps x) (rest_steps y) gs (rest m)

  abbrev charged_leaf : Instance → Marks → (ℕ → ℕ) → (ℕ → ℕ) → Steps → Steps → ℤ
  charged_leaf P m q s x y = charged_leasts P.periods q s x y P.units m +ℤ pos (requirement P q s)

-- the reading asked
right : (n : ℕ) (q s x y : ℕ → ℕ) (g : Generator) (r : List ℕ) → ramp_value n q s x y g r ≡ charged over_rise over_fall n q s x y g r
unfolding ramp_value ramp_charge
right n q s x y g r = refl

right_leasts : (n : ℕ) (q s : ℕ → ℕ) (x y : Steps) (gs : List Generator) (m : Marks)
    → ramp_leasts n q s x y gs m ≡ charged_leasts over_rise over_fall n q s x y gs m
unfolding ramp_leasts ramp_least ramp_value ramp_charge
right_leasts n q s x y [] m = refl
right_leasts n q s x y (g ∷ gs) m =
    ap (λ (z : ℤ). ramp_least n q s (x 0) (y 0) g (m 0) +ℤ z) (right_leasts n q s (rest_steps x) (rest_steps y) gs (rest m))

right_leaf : (P : Instance) (m : Marks) (q s : ℕ → ℕ) (x y : Steps) → ramp_leaf_value P m q s x y ≡ charged_leaf over_rise over_fall P m q s x y
unfolding ramp_leaf_value
right_leaf P m q s x y = ap (λ (z : ℤ). z +ℤ pos (requirement P q s)) (right_leasts P.periods q s x y P.units m)

-- ---- wrong differences

-- (12) with UR whatever the status, with nothing after a period off, and with the status of the second period
abbrev rise_always : Difference
rise_always g p p' = pos p' -ℤ (pos p +ℤ pos g.UR +ℤ pos (if_on (not (on p)) g.pU))

abbrev rise_bare : Difference
rise_bare g p p' = pos p' -ℤ (pos p +ℤ pos (if_on (on p) g.UR))

abbrev rise_late : Difference
rise_late g p p' = pos p' -ℤ (pos p +ℤ pos (if_on (on p') g.UR) +ℤ pos (if_on (not (on p')) g.pU))

-- (11) with nothing where the unit goes off, with the status of the first period for pU, and with that of the second for DR
abbrev fall_bare : Difference
fall_bare g p p' = (pos p -ℤ pos (if_on (on p) g.DR)) -ℤ pos p'

abbrev fall_early : Difference
fall_early g p p' = (pos p -ℤ pos (if_on (on p) g.DR) -ℤ pos (if_on (not (on p)) g.pU)) -ℤ pos p'

abbrev fall_late : Difference
fall_late g p p' = (pos p -ℤ pos (if_on (on p') g.DR) -ℤ pos (if_on (not (on p')) g.pU)) -ℤ pos p'

-- a difference where the unit is on in both periods, and nothing where it is not; and the right side less the left
abbrev when_on : Difference → Difference
when_on d g p p' = cond (on p && on p') (d g p p') (pos 0)

abbrev turned : Difference → Difference
turned d g p p' = neg_ℤ (d g p p')

-- a difference above 0 alone, as though only steps that break the ramps had a price
abbrev clipped : Difference → Difference
clipped d g p p' = cond (le_z (d g p p') (pos 0)) (pos 0) (d g p p')

-- ---- the row 6, 0, 6 of RampExamples, whose value is -147

abbrev prices : ℕ → ℕ
prices t = (20 ∷ 1 ∷ 20 ∷ []) at t

abbrev reserve_prices : ℕ → ℕ
reserve_prices t = (0 ∷ 1 ∷ 0 ∷ []) at t

abbrev up_prices : ℕ → ℕ
up_prices t = (2 ∷ 3 ∷ []) at t

abbrev down_prices : ℕ → ℕ
down_prices t = (1 ∷ 4 ∷ []) at t

abbrev six : Difference → Difference → ℤ
six rise fall = charged rise fall 3 prices reserve_prices up_prices down_prices slow (6 ∷ 0 ∷ 6 ∷ [])

-- a reading gives the value asked, of every row
abbrev AsAsked : Difference → Difference → Type 0
AsAsked rise fall = (n : ℕ) (q s x y : ℕ → ℕ) (g : Generator) (r : List ℕ) → ramp_value n q s x y g r ≡ charged rise fall n q s x y g r

-- so of this one
asked_six : (rise fall : Difference) → AsAsked rise fall → T (eqb 147 (down (six rise fall)))
unfolding ramp_value ramp_charge value revenue row_cost
asked_six rise fall h = subst (λ (z : ℤ). T (eqb 147 (down z))) (h 3 prices reserve_prices up_prices down_prices slow (6 ∷ 0 ∷ 6 ∷ [])) tt

pub asked : (six over_rise over_fall ≡ neg_ℤ (pos 147)) × AsAsked over_rise over_fall
unfolding value revenue row_cost
asked = (refl, right)

pub exchanged : (six over_fall over_rise ≡ neg_ℤ (pos 134)) × (AsAsked over_fall over_rise → ⊥)
unfolding value revenue row_cost
exchanged = (refl, asked_six over_fall over_rise)

pub always : (six rise_always over_fall ≡ neg_ℤ (pos 156)) × (AsAsked rise_always over_fall → ⊥)
unfolding value revenue row_cost
always = (refl, asked_six rise_always over_fall)

pub bare : (six rise_bare over_fall ≡ neg_ℤ (pos 129)) × (AsAsked rise_bare over_fall → ⊥) × (six over_rise fall_bare ≡ neg_ℤ (pos 141)) × (AsAsked over_rise fall_bare → ⊥)
unfolding value revenue row_cost
bare = (refl, asked_six rise_bare over_fall, refl, asked_six over_rise fall_bare)

pub other_status : (six rise_late over_fall ≡ neg_ℤ (pos 144)) × (AsAsked rise_late over_fall → ⊥)
    × (six over_rise fall_early ≡ neg_ℤ (pos 165)) × (AsAsked over_rise fall_early → ⊥)
    × (six over_rise fall_late ≡ neg_ℤ (pos 153)) × (AsAsked over_rise fall_late → ⊥)
unfolding value revenue row_cost
other_status = (refl, asked_six rise_late over_fall, refl, asked_six over_rise fall_early, refl, asked_six over_rise fall_late)

pub only_when_on : (six (when_on over_rise) (when_on over_fall) ≡ neg_ℤ (pos 103)) × (AsAsked (when_on over_rise) (when_on over_fall) → ⊥)
unfolding value revenue row_cost
only_when_on = (refl, asked_six (when_on over_rise) (when_on over_fall))

pub only_breaches : (six (clipped over_rise) (clipped over_fall) ≡ neg_ℤ (pos 103)) × (AsAsked (clipped over_rise) (clipped over_fall) → ⊥)
unfolding value revenue row_cost
only_breaches = (refl, asked_six (clipped over_rise) (clipped over_fall))

pub turned_round : (six (turned over_rise) (turned over_fall) ≡ neg_ℤ (pos 59)) × (AsAsked (turned over_rise) (turned over_fall) → ⊥)
unfolding value revenue row_cost
turned_round = (refl, asked_six (turned over_rise) (turned over_fall))

-- ---- a figure that a schedule undercuts

-- every leaf's value by a reading is at most the cost of every schedule that meets the rules
abbrev Safe : Difference → Difference → Type 0
Safe rise fall = (P : Instance) (sch : Schedule) → Meets P sch → (q s : ℕ → ℕ) (x y : Steps) → charged_leaf rise fall P root.marks q s x y ≤ℤ pos (cost P sch)

pub asked_safe : Safe over_rise over_fall
asked_safe P sch M q s x y = rw (← right_leaf P root.marks q s x y) (ramp_below P sch M.printed root (agrees_root sch) q s x y)

-- outputs 1 to 4 at 2 each, DR 1 and UR 1; off before and, with TD 2, in period 1; on before and, with TU 2, in period 1
abbrev starting : Instance
starting = record { periods = 2; demand = 0 ∷ 4 ∷ []; spare = 0 ∷ 0 ∷ []; units = line 0 2 0 1 4 1 2 false 1 1 1 0 0 0 0 0 ∷ [] }

abbrev stopping : Instance
stopping = record { periods = 2; demand = 4 ∷ 0 ∷ []; spare = 0 ∷ 0 ∷ []; units = line 0 2 0 1 4 2 1 true 1 1 1 0 0 0 0 4 ∷ [] }

-- off, then 4; 4, then off: both cost 8
start_meets : Meets starting ((0 ∷ 4 ∷ []) ∷ [])
unfolding first_breach output capacity
start_meets = (judge_none starting ((0 ∷ 4 ∷ []) ∷ []) (refl, (refl, tt))).0 refl

stop_meets : Meets stopping ((4 ∷ 0 ∷ []) ∷ [])
unfolding first_breach output capacity
stop_meets = (judge_none stopping ((4 ∷ 0 ∷ []) ∷ []) (refl, (refl, tt))).0 refl

both_cost : (cost starting ((0 ∷ 4 ∷ []) ∷ []) ≡ 8) × (cost stopping ((4 ∷ 0 ∷ []) ∷ []) ≡ 8)
unfolding cost row_cost
both_cost = (refl, refl)

-- a leaf of each, whose value as asked is 8 and 7: the prices 0, 3 and 0, 1 for reserve, and 1 for the rise; the prices 3, 0, and 1 for the fall
abbrev start_leaf : Difference → ℤ
start_leaf rise = charged_leaf rise over_fall starting root.marks (λ t. (0 ∷ 3 ∷ []) at t) (λ t. (0 ∷ 1 ∷ []) at t) (λ u t. 1) (λ u t. 0)

abbrev stop_leaf : Difference → ℤ
stop_leaf fall = charged_leaf over_rise fall stopping root.marks (λ t. (3 ∷ 0 ∷ []) at t) (λ t. 0) (λ u t. 0) (λ u t. 1)

leaves_asked : (start_leaf over_rise ≡ pos 8) × (stop_leaf over_fall ≡ pos 7)
unfolding value revenue requirement rows_of row_cost
leaves_asked = (refl, refl)

start_safe : (rise : Difference) → Safe rise over_fall → start_leaf rise ≤ℤ pos 8
start_safe rise h = rw both_cost.0 at (h starting ((0 ∷ 4 ∷ []) ∷ []) start_meets (λ t. (0 ∷ 3 ∷ []) at t) (λ t. (0 ∷ 1 ∷ []) at t) (λ u t. 1) (λ u t. 0))

stop_safe : (fall : Difference) → Safe over_rise fall → stop_leaf fall ≤ℤ pos 8
stop_safe fall h = rw both_cost.1 at (h stopping ((4 ∷ 0 ∷ []) ∷ []) stop_meets (λ t. (3 ∷ 0 ∷ []) at t) (λ t. 0) (λ u t. 0) (λ u t. 1))

-- 12 and 11; 11 and 11
pub bare_unsafe : (start_leaf rise_bare ≡ pos 12) × (Safe rise_bare over_fall → ⊥) × (stop_leaf fall_bare ≡ pos 11) × (Safe over_rise fall_bare → ⊥)
unfolding value revenue requirement rows_of row_cost
bare_unsafe = (refl, (λ h. (start_safe rise_bare h).le), refl, (λ h. (stop_safe fall_bare h).le))

pub other_status_unsafe : (start_leaf rise_late ≡ pos 11) × (Safe rise_late over_fall → ⊥) × (stop_leaf fall_early ≡ pos 11) × (Safe over_rise fall_early → ⊥)
unfolding value revenue requirement rows_of row_cost
other_status_unsafe = (refl, (λ h. (start_safe rise_late h).le), refl, (λ h. (stop_safe fall_early h).le))

-- with the sides turned round, 12 for the start, at 1 for the fall
turned_leaf : charged_leaf (turned over_rise) (turned over_fall) starting root.marks (λ t. (0 ∷ 3 ∷ []) at t) (λ t. 0) (λ u t. 0) (λ u t. 1) ≡ pos 12
unfolding value revenue requirement rows_of row_cost
turned_leaf = refl

pub turned_unsafe : Safe (turned over_rise) (turned over_fall) → ⊥
turned_unsafe h =
    let k = h starting ((0 ∷ 4 ∷ []) ∷ []) start_meets (λ t. (0 ∷ 3 ∷ []) at t) (λ t. 0) (λ u t. 0) (λ u t. 1) in
    let j : pos 12 ≤ℤ pos 8 = rw (turned_leaf, both_cost.0) at k in
    j.le

-- ---- safe, so that only the value tells it from the one asked

-- differences that are nowhere more than those asked: the leaf's value is not more either
scaled_le : (k : ℕ) (z w : ℤ) → z ≤ℤ w → (pos k *ℤ z) ≤ℤ (pos k *ℤ w)
scaled_le k z w h =
    nat→le (pos k *ℤ z) (pos k *ℤ w)
    (omega (
      arith,
      scaled_nat k z (up z) (down z) refl,
      scaled_nat k w (up w) (down w) refl,
      mul-add k (up z) (down w),
      mul-add k (up w) (down z),
      mul-le-mul_left k (le→nat z w h),
    ))

sum_of_le : (a b c d : ℤ) → a ≤ℤ c → b ≤ℤ d → (a +ℤ b) ≤ℤ (c +ℤ d)
sum_of_le a b c d h k = nat→le (a +ℤ b) (c +ℤ d) (omega (arith, +ℤ-nat a b, +ℤ-nat c d, le→nat a c h, le→nat b d k))

sumℤ_le : (k : ℕ) (f h : ℕ → ℤ) → ((t : ℕ) → f t ≤ℤ h t) → sumℤ k f ≤ℤ sumℤ k h
sumℤ_le zero f h e = ≤ℤ_refl (pos 0)
sumℤ_le (suc k) f h e =
    sum_of_le (f 0) (sumℤ k (λ t. f (suc t))) (h 0) (sumℤ k (λ t. h (suc t))) (e 0) (sumℤ_le k (λ t. f (suc t)) (λ t. h (suc t)) (λ t. e (suc t)))

min_le : (x y x' y' : ℤ) → x ≤ℤ x' → y ≤ℤ y' → minℤ x y ≤ℤ minℤ x' y'
min_le x y x' y' h k = go (le_z x' y')
  where
    go : (c : Bool) → minℤ x y ≤ℤ cond c x' y'
    go true = ≤ℤ-trans (minℤ x y) x x' (min_left x y) h
    go false = ≤ℤ-trans (minℤ x y) y y' (min_right x y) k

leasts_le : (f h : List ℕ → ℤ) → ((r : List ℕ) → f r ≤ℤ h r) → (l : List (List ℕ)) → least (map f l) ≤ℤ least (map h l)
leasts_le f h e [] = ≤ℤ_refl (pos 0)
leasts_le f h e (r ∷ []) = e r
leasts_le f h e (r ∷ (r' ∷ l)) = min_le (f r) (least (map f (r' ∷ l))) (h r) (least (map h (r' ∷ l))) (e r) (leasts_le f h e (r' ∷ l))

module _ (rise fall : Difference) (low_rise : (g : Generator) (p p' : ℕ) → rise g p p' ≤ℤ over_rise g p p') (low_fall : (g : Generator) (p p' : ℕ) → fall g p p' ≤ℤ over_fall g p p') where
  row_lower : (n : ℕ) (q s x y : ℕ → ℕ) (g : Generator) (r : List ℕ) → charged rise fall n q s x y g r ≤ℤ charged over_rise over_fall n q s x y g r
  row_lower n q s x y g r =
      sum_of_le (value n q s g r) (charge rise fall n x y g r) (value n q s g r) (charge over_rise over_fall n x y g r) (≤ℤ_refl (value n q s g r))
      (sumℤ_le (pred n) _ _ (λ t. sum_of_le (pos (x t) *ℤ rise g (r at t) (r at suc t)) (pos (y t) *ℤ fall g (r at t) (r at suc t))
      (pos (x t) *ℤ over_rise g (r at t) (r at suc t)) (pos (y t) *ℤ over_fall g (r at t) (r at suc t))
      (scaled_le (x t) _ _ (low_rise g (r at t) (r at suc t))) (scaled_le (y t) _ _ (low_fall g (r at t) (r at suc t)))))

  units_lower : (n : ℕ) (q s : ℕ → ℕ) (x y : Steps) (gs : List Generator) (m : Marks)
      → charged_leasts rise fall n q s x y gs m ≤ℤ charged_leasts over_rise over_fall n q s x y gs m
  units_lower n q s x y [] m = ≤ℤ_refl (pos 0)
  units_lower n q s x y (g ∷ gs) m =
      sum_of_le _ _ _ _ (leasts_le (charged rise fall n q s (x 0) (y 0) g) (charged over_rise over_fall n q s (x 0) (y 0) g) (row_lower n q s (x 0) (y 0) g) (rows_of n g (m 0)))
      (units_lower n q s (rest_steps x) (rest_steps y) gs (rest m))

  pub lower_safe : Safe rise fall
  lower_safe P sch M q s x y =
      ≤ℤ-trans (charged_leaf rise fall P root.marks q s x y) (charged_leaf over_rise over_fall P root.marks q s x y) (pos (cost P sch))
      (sum_of_le _ (pos (requirement P q s)) _ (pos (requirement P q s)) (units_lower P.periods q s x y P.units root.marks) (≤ℤ_refl (pos (requirement P q s))))
      (asked_safe P sch M q s x y)

-- UR whatever the status
always_below : (g : Generator) (p p' : ℕ) → rise_always g p p' ≤ℤ over_rise g p p'
always_below g zero p' = nat→le (rise_always g 0 p') (over_rise g 0 p') (omega (arith, -ℤ-nat p' (0 + g.UR + g.pU), -ℤ-nat p' (0 + 0 + g.pU)))
always_below g (suc p) p' = ≤ℤ_refl (over_rise g (suc p) p')

pub always_safe : Safe rise_always over_fall
always_safe = lower_safe rise_always over_fall always_below (λ g p p'. ≤ℤ_refl (over_fall g p p'))

-- (11) and (12) exchanged are the multipliers exchanged
exchanged_is : (n : ℕ) (x y : ℕ → ℕ) (g : Generator) (r : List ℕ) → charge over_fall over_rise n x y g r ≡ charge over_rise over_fall n y x g r
exchanged_is n x y g r =
    ap (sumℤ (pred n)) (fun_ext (λ t. +ℤ_comm (pos (x t) *ℤ over_fall g (r at t) (r at suc t)) (pos (y t) *ℤ over_rise g (r at t) (r at suc t))))

exchanged_leasts : (n : ℕ) (q s : ℕ → ℕ) (x y : Steps) (gs : List Generator) (m : Marks)
    → charged_leasts over_fall over_rise n q s x y gs m ≡ charged_leasts over_rise over_fall n q s y x gs m
exchanged_leasts n q s x y [] m = refl
exchanged_leasts n q s x y (g ∷ gs) m =
    ap₂ ◌+ℤ◌ (ap (λ (f : List ℕ → ℤ). least (map f (rows_of n g (m 0)))) (fun_ext (λ r. ap (λ (z : ℤ). value n q s g r +ℤ z) (exchanged_is n (x 0) (y 0) g r))))
    (exchanged_leasts n q s (rest_steps x) (rest_steps y) gs (rest m))

pub exchanged_safe : Safe over_fall over_rise
exchanged_safe P sch M q s x y = rw (exchanged_leasts P.periods q s x y P.units root.marks) (asked_safe P sch M q s y x)
