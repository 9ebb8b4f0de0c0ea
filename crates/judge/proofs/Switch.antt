-- Starts and stops, and the periods spent in a status, as the code tells the cases apart.
use mathlib.Core.Path.{◌≡◌, refl}
use mathlib.Core.Bool.{Bool, true, false}
use Prim.Native.Nat.{ℕ, ◌+◌}
use native.Mathlib.Omega.{arith}
use lib.Dec.{leb}
use Rattle.model.specs.declared.generator.Generator.{Generator}
use Rattle.model.specs.Rules.{permits, spent}

pub spent_same : (b d : Bool) (k : ℕ) → b ≡ d → spent b k d ≡ k + 1
spent_same true true k e = omega arith
spent_same true false k e = let z : ◌≡◌ {A = ℕ} 0 1 = cc in omega arith
spent_same false true k e = let z : ◌≡◌ {A = ℕ} 0 1 = cc in omega arith
spent_same false false k e = omega arith

pub spent_other : (b d : Bool) (k : ℕ) → (b ≡ d → ⊥) → spent b k d ≡ 1
spent_other true true k h = absurd (h refl)
spent_other true false k h = refl
spent_other false true k h = refl
spent_other false false k h = absurd (h refl)

module _ (g : Generator) where
  -- (5) to (10)
  pub permits_same : (b d : Bool) (k : ℕ) → b ≡ d → permits g b k d ≡ true
  permits_same true true k e = refl
  permits_same true false k e = let z : ◌≡◌ {A = ℕ} 0 1 = cc in absurd (omega arith)
  permits_same false true k e = let z : ◌≡◌ {A = ℕ} 0 1 = cc in absurd (omega arith)
  permits_same false false k e = refl

  pub permits_off : (b d : Bool) (k : ℕ) → (b ≡ d → ⊥) → b ≡ true → permits g b k d ≡ leb g.TU k
  permits_off true true k h e = absurd (h refl)
  permits_off true false k h e = refl
  permits_off false d k h e = let z : ◌≡◌ {A = ℕ} 0 1 = cc in absurd (omega arith)

  pub permits_on : (b d : Bool) (k : ℕ) → (b ≡ d → ⊥) → b ≡ false → permits g b k d ≡ leb g.TD k
  permits_on false false k h e = absurd (h refl)
  permits_on false true k h e = refl
  permits_on true d k h e = let z : ◌≡◌ {A = ℕ} 0 1 = cc in absurd (omega arith)
