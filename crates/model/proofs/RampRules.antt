-- Document 02, [6]: of a row that keeps its rules (11) and (12) as printed are not above 0 in any step, on or off, so that nothing above 0 is added.
use Prim.Native.Nat.{ℕ, zero, suc, pred, ◌+◌, ◌*◌, ◌≤◌, ◌<◌}
use mathlib.Core.List.{List, [], ◌∷◌}
use native.Mathlib.Nat.{mul-le-mul_left}
use native.Mathlib.Omega.{arith}
use lib.Dec.{T}
use lib.IntN.{pos}
use lib.Signed.{◌≤ℤ◌}
use Rattle.model.specs.declared.generator.Generator.{Generator}
use Rattle.model.specs.Instance.{Instance, Schedule, ◌at◌, Each}
use Rattle.model.specs.Rules.{on, Within, Row, MeetsPrinted}
use Rattle.model.specs.Ramps.{over_rise, over_fall, ramp_charge}
use Rattle.model.proofs.Integers.{nat→le}
use Rattle.model.proofs.Sums.{sum_le}
use Rattle.model.proofs.RampSums.{rise_limit, fall_limit, over_rise_nat, over_fall_nat, ramp_left, ramp_right, ramp_charge_nat}

module _ (n : ℕ) (g : Generator) (r : List ℕ) (R : Row n g r) where
  within_rise : (t : ℕ) → suc t < n → r at suc t ≤ rise_limit g (r at t)
  within_rise t h = go (r at t) (r at suc t) (R.limits (suc t) h) (λ a b. (R.ramps t h a b).rise)
    where
      go : (p p' : ℕ) → Within g p' → (T (on p) → T (on p') → p' ≤ p + g.UR) → p' ≤ rise_limit g p
      go p zero w k = omega arith
      go zero (suc p') w k = omega (arith, (w tt).1)
      go (suc p) (suc p') w k = omega (arith, k tt tt)

  within_fall : (t : ℕ) → suc t < n → r at t ≤ fall_limit g (r at t) (r at suc t)
  within_fall t h = go (r at t) (r at suc t) (R.limits t (omega arith)) (λ a b. (R.ramps t h a b).fall)
    where
      go : (p p' : ℕ) → Within g p → (T (on p) → T (on p') → p ≤ p' + g.DR) → p ≤ fall_limit g p p'
      go zero p' w k = omega arith
      go (suc p) zero w k = omega (arith, (w tt).1)
      go (suc p) (suc p') w k = omega (arith, k tt tt)

  pub rises_kept : (t : ℕ) → suc t < n → over_rise g (r at t) (r at suc t) ≤ℤ pos 0
  rises_kept t h = nat→le (over_rise g (r at t) (r at suc t)) (pos 0) (omega (arith, over_rise_nat g (r at t) (r at suc t), within_rise t h))

  pub falls_kept : (t : ℕ) → suc t < n → over_fall g (r at t) (r at suc t) ≤ℤ pos 0
  falls_kept t h = nat→le (over_fall g (r at t) (r at suc t)) (pos 0) (omega (arith, over_fall_nat g (r at t) (r at suc t), within_fall t h))

  pub ramps_below : (x y : ℕ → ℕ) → ramp_left n x y r ≤ ramp_right n x y g r
  unfolding ramp_left ramp_right
  ramps_below x y =
      sum_le (pred n) (λ t. x t * r at suc t + y t * r at t) (λ t. x t * rise_limit g (r at t) + y t * fall_limit g (r at t) (r at suc t))
      (λ t l. two (x t) (y t) (within_rise t (inside n l)) (within_fall t (inside n l)))
    where
      inside : (n : ℕ) {t : ℕ} → t < pred n → suc t < n
      inside zero h = omega arith
      inside (suc n) h = omega arith

      two : (u v : ℕ) {a b c d : ℕ} → a ≤ b → c ≤ d → u * a + v * c ≤ u * b + v * d
      two u v h k = omega (arith, mul-le-mul_left u h, mul-le-mul_left v k)

  -- so what is added is not above 0, whatever the multipliers
  pub charge_below : (x y : ℕ → ℕ) → ramp_charge n x y g r ≤ℤ pos 0
  charge_below x y = nat→le (ramp_charge n x y g r) (pos 0) (omega (arith, ramp_charge_nat n x y g r, ramps_below x y))

-- of every unit of a schedule that meets the rules
pub steps_kept : (P : Instance) (sch : Schedule) → MeetsPrinted P sch
    → Each (λ g r. (t : ℕ) → suc t < P.periods → (over_rise g (r at t) (r at suc t) ≤ℤ pos 0) × (over_fall g (r at t) (r at suc t) ≤ℤ pos 0)) P.units sch
steps_kept P sch M = go P.units sch M.rows
  where
    go : (gs : List Generator) (rs : Schedule) → Each (Row P.periods) gs rs
        → Each (λ g r. (t : ℕ) → suc t < P.periods → (over_rise g (r at t) (r at suc t) ≤ℤ pos 0) × (over_fall g (r at t) (r at suc t) ≤ℤ pos 0)) gs rs
    go [] [] e = tt
    go [] (r ∷ rs) e = absurd e
    go (g ∷ gs) [] e = absurd e
    go (g ∷ gs) (r ∷ rs) e = ((λ t h. (rises_kept P.periods g r e.0 t h, falls_kept P.periods g r e.0 t h)), go gs rs e.1)
