-- The downtime of the paper's sentence against the sums of (15) and (16): a sum of the n statuses before period t is 0 exactly if the unit
-- has been off for n periods when t begins.
use mathlib.Core.Path.{◌≡◌, refl, sym, ◌∙◌, ap}
use mathlib.Core.Bool.{Bool, true, false}
use mathlib.Core.Logic.{◌⊎◌, inl, inr, ◌↔◌}
use Prim.Native.Nat.{ℕ, zero, suc, ◌+◌, ◌-◌, ◌≤◌, ◌<◌}
use native.Mathlib.Nat.{eq-or-lt_of_le}
use native.Mathlib.Omega.{arith}
use lib.IntN.{pos, ◌+ℤ◌}
use lib.Signed.{◌<ℤ◌}
use Rattle.model.specs.declared.generator.Generator.{Generator}
use Rattle.model.specs.Instance.{Tini}
use Rattle.source.specs.Source.{Σ₁, bit, from, idle, one_longer, downs, downtime}
use Rattle.source.proofs.Indices.{none→sum, sum→none}
use Rattle.source.proofs.Before.{Off, start16}

-- ---- off in the n periods before period t + 1

abbrev Quiet : (ℕ → ℕ) → ℕ → ℕ → Type 0
Quiet u t n = (e : ℕ) → 1 ≤ e → e ≤ t → t < e + n → u e ≡ 0

quiet→down : (d : ℕ) (u : ℕ → ℕ) (t n : ℕ) → n ≤ t → Quiet u t n → n ≤ downs d u (suc t)
quiet→down d u t zero l q = omega arith
quiet→down d u zero (suc n) l q = absurd (omega arith)
quiet→down d u (suc t) (suc n) l q =
    rw (q (suc t) (omega arith) (omega arith) (omega arith))
    (omega (arith, quiet→down d u t n (omega arith) (λ e i j k. q e i (omega arith) (omega arith))))

longer_off : (v d n : ℕ) → suc n ≤ one_longer v d → (v ≡ 0) × (n ≤ d)
longer_off zero d n h = (refl, omega arith)
longer_off (suc v) d n h = absurd (omega arith)

down→quiet : (d : ℕ) (u : ℕ → ℕ) (t n : ℕ) → n ≤ t → n ≤ downs d u (suc t) → Quiet u t n
down→quiet d u t zero l h e i j k = absurd (omega arith)
down→quiet d u zero (suc n) l h e i j k = absurd (omega arith)
down→quiet d u (suc t) (suc n) l h e i j k =
    let w = longer_off (u (suc t)) (downs d u (suc t)) n h in
    go w.0 (λ m. down→quiet d u t n (omega arith) w.1 e i m (omega arith)) (eq-or-lt_of_le j)
  where
    go : u (suc t) ≡ 0 → (e ≤ t → u e ≡ 0) → (e ≡ suc t) ⊎ (e < suc t) → u e ≡ 0
    go z ih (inl q) = rw q z
    go z ih (inr m) = ih (omega arith)

-- off in all periods so far
quiet_all : (d : ℕ) (u : ℕ → ℕ) (t : ℕ) → Quiet u t t → downs d u (suc t) ≡ d + t
quiet_all d u zero q = omega arith
quiet_all d u (suc t) q =
    rw (q (suc t) (omega arith) (omega arith) (omega arith)) (omega (arith, quiet_all d u t (λ e i j k. q e i (omega arith) (omega arith))))

-- a downtime longer than the periods so far began before them
pub long_down : (d : ℕ) (u : ℕ → ℕ) (t : ℕ) → t < downs d u (suc t) → (downs d u (suc t) ≡ d + t) × (1 ≤ d)
long_down d u t h = let e = quiet_all d u t (down→quiet d u t t (omega arith) (omega arith)) in (e, omega arith)

-- ---- the sums

pub sum→down : (d : ℕ) (u : ℕ → ℕ) (t n : ℕ) → n ≤ t → Σ₁ n (λ j. u (suc t - j)) ≡ 0 → n ≤ downs d u (suc t)
sum→down d u t n l z = quiet→down d u t n l (λ e i j k.
    let q : suc t - (suc t - e) ≡ e = omega arith in
    sym (ap u q) ∙ sum→none n (λ j. u (suc t - j)) z (suc t - e) (omega arith) (omega arith))

pub down→sum : (d : ℕ) (u : ℕ → ℕ) (t n : ℕ) → n ≤ t → n ≤ downs d u (suc t) → Σ₁ n (λ j. u (suc t - j)) ≡ 0
down→sum d u t n l h =
    none→sum n (λ j. u (suc t - j)) (λ j i m. down→quiet d u t n l h (suc t - j) (omega arith) (omega arith) (omega arith))

-- ---- a unit

pub idle_on : (g : Generator) → 1 ≤ idle g.on g.since → (g.on ≡ false) × (1 ≤ g.since)
idle_on g h = go g.on refl h
  where
    go : (b : Bool) → g.on ≡ b → 1 ≤ idle b g.since → (g.on ≡ false) × (1 ≤ g.since)
    go true e h = absurd (omega arith)
    go false e h = (e, h)

-- a unit with a downtime was off just before
pub prev_off : (g : Generator) (u : ℕ → ℕ) (t : ℕ) → 1 ≤ downtime g u (suc t) → from g u t ≡ 0
prev_off g u zero h = ap bit (idle_on g h).0
prev_off g u (suc t) h = (longer_off (u (suc t)) (downtime g u (suc t)) 0 h).0

-- in the range of (15), its printed sum is 0, so that Csc is charged, where the downtime is TD + Tcold or more
pub sum15 : (g : Generator) (u : ℕ → ℕ) (t : ℕ) → g.TD + g.Tcold < t
    → (Σ₁ (g.TD + g.Tcold) (λ j. u (t - j)) ≡ 0) ↔ (g.TD + g.Tcold ≤ downtime g u t)
sum15 g u zero l = absurd (omega arith)
sum15 g u (suc t) l = let d = idle g.on g.since in
    (sum→down d u t (g.TD + g.Tcold) (omega arith), down→sum d u t (g.TD + g.Tcold) (omega arith))

-- up to TD + Tcold, the range of (16) is open and its sum 0 where the downtime is more than TD + Tcold
pub sum16 : (g : Generator) (u : ℕ → ℕ) (t : ℕ) → 1 ≤ t → t ≤ g.TD + g.Tcold → Off g
    → (((pos (g.TD + g.Tcold) +ℤ Tini g +ℤ pos 1) <ℤ pos t) × (Σ₁ (t - 1) (λ j. u (t - j)) ≡ 0)) ↔ (g.TD + g.Tcold < downtime g u t)
sum16 g u zero i l O = absurd (omega arith)
sum16 g u (suc t) i l O = (
  λ h. let a : N + 1 < suc t + g.since = (start16 g N (suc t) O).0 h.0 in
      let e : downs b u (suc t) ≡ b + t = quiet_all b u t (down→quiet b u t t (omega arith) (sum→down b u t t (omega arith) (rw q at h.1))) in
      omega (arith, is),
  λ h. let w : (downs b u (suc t) ≡ b + t) × (1 ≤ b) = long_down b u t (omega arith) in
      ((start16 g N (suc t) O).1 (omega (arith, w.0, is)), rw q (down→sum b u t t (omega arith) (omega arith))),
)
  where
    N : ℕ
    N = g.TD + g.Tcold

    b : ℕ
    b = idle g.on g.since

    is : idle g.on g.since ≡ g.since
    is = rw O.state

    q : suc t - 1 ≡ t
    q = omega arith
