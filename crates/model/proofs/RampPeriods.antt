-- What a ramp leaf's walk reads: the multipliers of its periods and of their steps, and no others.
use mathlib.Core.Path.{◌≡◌, refl}
use mathlib.Core.Bool.{Bool}
use Prim.Native.Nat.{ℕ, zero, suc, pred, ◌<◌}
use native.Mathlib.Omega.{arith}
use Rattle.model.specs.declared.generator.Generator.{Generator}
use Rattle.model.specs.Above.{Mark}
use Rattle.model.specs.RampCosts.{after, before, added, ramp_worth, ramp_offset, ramp_walk}
use Rattle.model.proofs.PeriodSums.{sum_eq}
use Rattle.model.proofs.WalkPeriods.{walk_ext}

pub after_ext : (k : ℕ) (x x' : ℕ → ℕ) → ((t : ℕ) → t < k → x t ≡ x' t) → (t : ℕ) → after k x t ≡ after k x' t
after_ext zero x x' h t = refl
after_ext (suc k) x x' h zero = h 0 (omega arith)
after_ext (suc k) x x' h (suc t) = after_ext k (λ i. x (suc i)) (λ i. x' (suc i)) (λ i l. h (suc i) (omega arith)) t

pub before_ext : (n : ℕ) (x x' : ℕ → ℕ) → ((t : ℕ) → t < pred n → x t ≡ x' t) → (t : ℕ) → t < n → before x t ≡ before x' t
before_ext n x x' h zero l = refl
before_ext zero x x' h (suc t) l = absurd (omega arith)
before_ext (suc n) x x' h (suc t) l = h t (omega arith)

module _ (n : ℕ) (g : Generator) where
  module _ (q q' s s' x x' y y' : ℕ → ℕ) (hq : (t : ℕ) → t < n → q t ≡ q' t) (hs : (t : ℕ) → t < n → s t ≡ s' t)
      (hx : (t : ℕ) → t < pred n → x t ≡ x' t) (hy : (t : ℕ) → t < pred n → y t ≡ y' t) where
    worth_ext : (t : ℕ) → t < n → (d : Bool) → ramp_worth (pred n) g q s x y t d ≡ ramp_worth (pred n) g q' s' x' y' t d
    worth_ext t l d = rw (hq t l, hs t l, after_ext (pred n) x x' hx t, after_ext (pred n) y y' hy t, before_ext n x x' hx t l, before_ext n y y' hy t l)

    pub ramp_offset_ext : ramp_offset n q s x y g ≡ ramp_offset n q' s' x' y' g
    unfolding ramp_offset
    ramp_offset_ext =
        sum_eq n (added (pred n) g q s x y) (added (pred n) g q' s' x' y')
        (λ t l. rw (hq t l, hs t l, after_ext (pred n) x x' hx t, after_ext (pred n) y y' hy t, before_ext n y y' hy t l))

  pub ramp_walk_ext : (m m' : ℕ → Mark) → ((t : ℕ) → t < n → m t ≡ m' t)
      → (q q' s s' x x' y y' : ℕ → ℕ) → ((t : ℕ) → t < n → q t ≡ q' t) → ((t : ℕ) → t < n → s t ≡ s' t)
      → ((t : ℕ) → t < pred n → x t ≡ x' t) → ((t : ℕ) → t < pred n → y t ≡ y' t)
      → ramp_walk n q s x y g m ≡ ramp_walk n q' s' x' y' g m'
  unfolding ramp_walk
  ramp_walk_ext m m' hm q q' s s' x x' y y' hq hs hx hy =
      walk_ext n g m m' (ramp_worth (pred n) g q s x y) (ramp_worth (pred n) g q' s' x' y') hm (worth_ext q q' s s' x x' y y' hq hs hx hy) g.on g.since
