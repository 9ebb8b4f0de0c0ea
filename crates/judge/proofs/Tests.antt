-- The rules' tests at one unit and period, as the code makes them.
use mathlib.Core.Path.{◌≡◌, refl, sym, ap}
use mathlib.Core.Bool.{Bool, true, false, not, beq}
use mathlib.Core.List.{List}
use Prim.Native.Nat.{ℕ, zero, suc}
use native.Mathlib.Omega.{arith}
use lib.Dec.{eqb}
use Rattle.std.proofs.lemmas.Bool.{ne_eqb}
use Rattle.model.specs.declared.generator.Generator.{Generator}
use Rattle.model.specs.Instance.{◌at◌}
use Rattle.model.specs.Ranges.{GoodUnit}
use Rattle.model.specs.Rules.{on}
use Rattle.model.specs.Breach.{too_steep, off_ramp}
use Rattle.model.proofs.RangeTests.{on_at_midnight}
use Rattle.judge.specs.Before.{output_before}

pub beq_true : (a b : Bool) → beq a b ≡ true → a ≡ b
beq_true true true e = refl
beq_true true false e = sym e
beq_true false true e = e
beq_true false false e = refl

pub beq_false : (a b : Bool) → beq a b ≡ false → a ≡ b → ⊥
beq_false true true e h = let z : ◌≡◌ {A = ℕ} 0 1 = cc in omega arith
beq_false true false e h = let z : ◌≡◌ {A = ℕ} 0 1 = cc in omega arith
beq_false false true e h = let z : ◌≡◌ {A = ℕ} 0 1 = cc in omega arith
beq_false false false e h = let z : ◌≡◌ {A = ℕ} 0 1 = cc in omega arith

-- ---- statuses

pub is_off : (p : ℕ) → p ≡ 0 → on p ≡ false
is_off p e = rw e refl

pub is_on : (p : ℕ) → (p ≡ 0 → ⊥) → on p ≡ true
is_on zero h = absurd (h refl)
is_on (suc p) h = refl

pub on_is : (p : ℕ) → not (eqb p 0) ≡ on p
on_is zero = refl
on_is (suc p) = let other : suc p ≡ 0 → ⊥ = λ e. omega arith in ap not (ne_eqb (suc p) 0 other)

-- ---- (11), (12)

module _ (g : Generator) (good : GoodUnit g) (r : List ℕ) (t : ℕ) where
  -- the output before the period says whether the unit was on, also before period 1
  pub ramp_is : off_ramp t g r ≡ too_steep g (on (output_before g.p0 r t)) (output_before g.p0 r t) (r at t)
  ramp_is = go t
    where
      go : (k : ℕ) → off_ramp k g r ≡ too_steep g (on (output_before g.p0 r k)) (output_before g.p0 r k) (r at k)
      go zero = ap (λ (b : Bool). too_steep g b g.p0 (r at 0)) (sym (on_at_midnight g good))
      go (suc k) = refl
