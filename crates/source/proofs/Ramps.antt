-- Document 02, [6]: what a ramp leaf prices in a step is (12) and (11) as printed, left side less right side, with u as 0 or 1; so each is not above 0
-- exactly where its equation holds.
use mathlib.Core.Path.{◌≡◌, refl, ap, ap₂, fun_ext}
use mathlib.Core.Bool.{Bool, true, false, not}
use mathlib.Core.Logic.{◌↔◌}
use mathlib.Core.List.{List}
use Prim.Native.Nat.{ℕ, suc, pred, ◌+◌, ◌*◌, ◌-◌, ◌≤◌}
use native.Mathlib.Omega.{arith}
use lib.IntN.{ℤ, pos, ◌+ℤ◌, ◌-ℤ◌, ◌*ℤ◌}
use lib.Signed.{◌≤ℤ◌}
use Rattle.model.specs.declared.generator.Generator.{Generator}
use Rattle.model.specs.Instance.{Instance, ◌at◌}
use Rattle.model.specs.Ranges.{WellFormed}
use Rattle.model.specs.Rules.{on, if_on}
use Rattle.model.specs.Ramps.{over_rise, over_fall, sumℤ, ramp_charge}
use Rattle.model.proofs.Integers.{le→nat, nat→le, -ℤ-nat}
use Rattle.model.proofs.RampSums.{less_nat}
use Rattle.source.specs.Source.{nth, Every, RampDown, RampUp, UnitSource, Source, bit, u_row}
use Rattle.source.proofs.Indices.{every_map, every_both}
use Rattle.source.proofs.Ranged.{Ranged, formed→ranged}
use Rattle.source.proofs.Rows.{source_status}

-- ---- any statuses: a difference is not above 0 exactly where its equation holds

module _ (g : Generator) (u p : ℕ → ℕ) (t : ℕ) where
  pub up_is : RampUp g u p t ↔ ((pos (p t) -ℤ pos (p (t - 1) + g.UR * u (t - 1) + g.pU * (1 - u (t - 1)))) ≤ℤ pos 0)
  up_is =
      let r = p (t - 1) + g.UR * u (t - 1) + g.pU * (1 - u (t - 1)) in
      let z = pos (p t) -ℤ pos r in
      (λ h. nat→le z (pos 0) (omega (arith, -ℤ-nat (p t) r)), λ h. omega (arith, -ℤ-nat (p t) r, le→nat z (pos 0) h))

  pub down_is : RampDown g u p t ↔ (((pos (p (t - 1)) -ℤ pos (g.DR * u (t - 1)) -ℤ pos (g.pU * (1 - u t))) -ℤ pos (p t)) ≤ℤ pos 0)
  down_is =
      let a = g.DR * u (t - 1) in
      let b = g.pU * (1 - u t) in
      let x = pos (p (t - 1)) -ℤ pos a in
      let y = x -ℤ pos b in
      let z = y -ℤ pos (p t) in (
        λ h. nat→le z (pos 0) (omega (arith, -ℤ-nat (p (t - 1)) a, less_nat x b, less_nat y (p t))),
        λ h. omega (arith, -ℤ-nat (p (t - 1)) a, less_nat x b, less_nat y (p t), le→nat z (pos 0) h),
      )

-- ---- two outputs in a row, with the statuses that they tell

if_on_is : (b : Bool) (x : ℕ) → (if_on b x ≡ x * bit b) × (if_on (not b) x ≡ x * (1 - bit b))
if_on_is true x = (omega arith, omega arith)
if_on_is false x = (omega arith, omega arith)

module _ (g : Generator) (p p' : ℕ) where
  pub rise_printed : over_rise g p p' ≡ pos p' -ℤ pos (p + g.UR * bit (on p) + g.pU * (1 - bit (on p)))
  rise_printed = rw ((if_on_is (on p) g.UR).0, (if_on_is (on p) g.pU).1) refl

  pub fall_printed : over_fall g p p' ≡ (pos p -ℤ pos (g.DR * bit (on p)) -ℤ pos (g.pU * (1 - bit (on p')))) -ℤ pos p'
  fall_printed = rw ((if_on_is (on p) g.DR).0, (if_on_is (on p') g.pU).1) refl

-- ---- a row

module _ (g : Generator) (r : List ℕ) (t : ℕ) where
  pub rise_is : RampUp g (u_row r) (nth r) t ↔ (over_rise g (nth r (t - 1)) (nth r t) ≤ℤ pos 0)
  rise_is = rw (rise_printed g (nth r (t - 1)) (nth r t)) (up_is g (u_row r) (nth r) t)

  pub fall_is : RampDown g (u_row r) (nth r) t ↔ (over_fall g (nth r (t - 1)) (nth r t) ≤ℤ pos 0)
  fall_is = rw (fall_printed g (nth r (t - 1)) (nth r t)) (down_is g (u_row r) (nth r) t)

-- what is added to a row's value, over the periods t = 2, .., T: number j of a unit's multipliers, from 0, is that of t = j + 2
pub charge_printed : (n : ℕ) (x y : ℕ → ℕ) (g : Generator) (r : List ℕ)
    → ramp_charge n x y g r
    ≡ sumℤ (pred n) (λ j.
    (pos (x j) *ℤ (pos (nth r (suc (suc j))) -ℤ pos (nth r (suc j) + g.UR * u_row r (suc j) + g.pU * (1 - u_row r (suc j)))))
    +ℤ (pos (y j) *ℤ ((pos (nth r (suc j)) -ℤ pos (g.DR * u_row r (suc j)) -ℤ pos (g.pU * (1 - u_row r (suc (suc j))))) -ℤ pos (nth r (suc (suc j))))))
unfolding ramp_charge
charge_printed n x y g r =
    ap (sumℤ (pred n)) (fun_ext (λ j. ap₂ (λ (a b : ℤ). (pos (x j) *ℤ a) +ℤ (pos (y j) *ℤ b)) (rise_printed g (r at j) (r at suc j)) (fall_printed g (r at j) (r at suc j))))

-- ---- whatever solves the source's equations

-- both differences of a unit, in every period from 2
abbrev pub NoneAbove : ℕ → Generator → (ℕ → ℕ) → Type 0
NoneAbove n g p = (t : ℕ) → 2 ≤ t → t ≤ n → (over_rise g (p (t - 1)) (p t) ≤ℤ pos 0) × (over_fall g (p (t - 1)) (p t) ≤ℤ pos 0)

pub unit_none_above : (n : ℕ) (g : Generator) (u p : ℕ → ℕ) → Ranged g → UnitSource n g u p → NoneAbove n g p
unit_none_above n g u p R S t l m =
    let e : u (t - 1) ≡ bit (on (p (t - 1))) = source_status n g u p R S (t - 1) (omega arith) (omega arith) in
    let f : u t ≡ bit (on (p t)) = source_status n g u p R S t (omega arith) m in (
      rw (rise_printed g (p (t - 1)) (p t), ← e) ((up_is g u p t).0 (S.eq12 t l m)),
      rw (fall_printed g (p (t - 1)) (p t), ← e, ← f) ((down_is g u p t).0 (S.eq11 t l m)),
    )

pub none_above : (P : Instance) (u p : ℕ → ℕ → ℕ) → WellFormed P → Source P u p → Every (λ i g. NoneAbove P.periods g (p i)) P.units
none_above P u p W S =
    every_map _ (λ i g. NoneAbove P.periods g (p i)) P.units (λ i g k. unit_none_above P.periods g (u i) (p i) k.0 k.1)
    (every_both _ _ P.units (formed→ranged P W) S.eq4_12)
