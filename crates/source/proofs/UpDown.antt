-- The printed (5) to (10), with (22), hold exactly if the statuses keep the model's rules: each equation is a rule of `Stays`, (5), (6), (8) and (10)
-- being those that start before period 1.
use mathlib.Core.Path.{◌≡◌, refl, sym, ◌∙◌, ap, subst}
use mathlib.Core.Bool.{Bool}
use mathlib.Core.Logic.{◌⊎◌, inl, inr}
use mathlib.Core.List.{List}
use Prim.Native.Nat.{ℕ, zero, suc, ◌+◌, ◌-◌, ◌≤◌, ◌<◌}
use native.Mathlib.Omega.{arith}
use lib.Dec.{T}
use lib.ListN.{length}
use lib.IntN.{pos}
use lib.Signed.{◌<ℤ◌}
use Rattle.model.specs.declared.generator.Generator.{Generator}
use Rattle.model.specs.Instance.{Tini}
use Rattle.model.specs.Rules.{keeps}
use Rattle.source.specs.Source.{ToT, Bits, bit, from}
use Rattle.source.proofs.Before.{off_of, on_of, either_of, end5, end6}
use Rattle.source.proofs.Stays.{Stays, num_le, Reads, keeps→stays, stays→keeps}

pub from_is : (g : Generator) (u : ℕ → ℕ) (t : ℕ) → 1 ≤ t → from g u t ≡ u t
from_is g u zero l = absurd (omega arith)
from_is g u (suc t) l = refl

module _ (n : ℕ) (g : Generator) (u : ℕ → ℕ) (S : ToT n g u) (bits : Bits n u) where
  stays_bits : (t : ℕ) → t ≤ n → from g u t ≤ 1
  stays_bits zero l = num_le g.on
  stays_bits (suc t) l = bits (suc t) (omega arith) l

  -- (5), (6)
  stays_off : (Tini g <ℤ pos 0) ⊎ (pos 0 <ℤ Tini g) → bit g.on ≡ 0 → (t : ℕ) → 1 ≤ t → t ≤ n → t + g.since ≤ g.TD → from g u t ≡ 0
  stays_off (inr h) z t l m j = absurd (omega (arith, ap bit (on_of g h).state))
  stays_off (inl h) z t l m j = from_is g u t l ∙ S.eq5 h t l ((end5 g g.TD t (off_of g h)).1 j) m

  stays_on : (Tini g <ℤ pos 0) ⊎ (pos 0 <ℤ Tini g) → bit g.on ≡ 1 → (t : ℕ) → 1 ≤ t → t ≤ n → t + g.since ≤ g.TU → from g u t ≡ 1
  stays_on (inl h) z t l m j = absurd (omega (arith, ap bit (off_of g h).state))
  stays_on (inr h) z t l m j = from_is g u t l ∙ S.eq6 h t l ((end6 g g.TU t (on_of g h)).1 j) m

  -- (8), (7)
  stays_ups : (Tini g <ℤ pos 0) ⊎ (pos 0 <ℤ Tini g) → (t e : ℕ) → suc t < e → e < suc t + g.TU → e ≤ n → from g u (suc t) ≤ from g u t + from g u e
  stays_ups (inl h) zero e i j l =
      let q : 1 + (e - 1) ≡ e = omega arith in
      omega (arith, ap u q, from_is g u e (omega arith), S.eq8 h (e - 1) (omega arith) (omega arith) (omega arith))
  stays_ups (inr h) zero e i j l = omega (arith, ap bit (on_of g h).state, bits 1 (omega arith) (omega arith))
  stays_ups w (suc t) e i j l =
      let q : suc (suc t) + (e - suc (suc t)) ≡ e = omega arith in
      let r : suc (suc t) - 1 ≡ suc t = omega arith in
      omega (
        arith,
        ap u q,
        ap u r,
        from_is g u e (omega arith),
        S.eq7 (suc (suc t)) (omega arith) (omega arith) (e - suc (suc t)) (omega arith) (omega arith) (omega arith),
      )

  -- (10), (9)
  stays_falls : (Tini g <ℤ pos 0) ⊎ (pos 0 <ℤ Tini g) → (t e : ℕ) → suc t < e → e < suc t + g.TD → e ≤ n
      → from g u e + from g u t ≤ from g u (suc t) + 1
  stays_falls (inl h) zero e i j l =
      omega (arith, ap bit (off_of g h).state, from_is g u e (omega arith), bits e (omega arith) (omega arith))
  stays_falls (inr h) zero e i j l =
      let q : 1 + (e - 1) ≡ e = omega arith in
      omega (arith, ap u q, num_le g.on, from_is g u e (omega arith), S.eq10 h (e - 1) (omega arith) (omega arith) (omega arith))
  stays_falls w (suc t) e i j l =
      let q : suc (suc t) + (e - suc (suc t)) ≡ e = omega arith in
      let r : suc (suc t) - 1 ≡ suc t = omega arith in
      omega (
        arith,
        ap u q,
        ap u r,
        from_is g u e (omega arith),
        S.eq9 (suc (suc t)) (omega arith) (omega arith) (e - suc (suc t)) (omega arith) (omega arith) (omega arith),
      )

  pub updown→stays : 1 ≤ g.since → Stays g g.since n (from g u)
  updown→stays f = let w = either_of g f in record {
    bits = stays_bits;
    off_first = stays_off w;
    on_first = stays_on w;
    ups = stays_ups w;
    falls = stays_falls w;
  }

-- and back
module _ (n : ℕ) (g : Generator) (u : ℕ → ℕ) (S : Stays g g.since n (from g u)) where
  pub stays→updown : ToT n g u
  stays→updown = record {
    eq5 = λ h t l j m. sym (from_is g u t l) ∙ S.off_first (ap bit (off_of g h).state) t l m ((end5 g g.TD t (off_of g h)).0 j);
    eq6 = λ h t l j m. sym (from_is g u t l) ∙ S.on_first (ap bit (on_of g h).state) t l m ((end6 g g.TU t (on_of g h)).0 j);
    eq7 = λ t l m j i k e. let q : suc (t - 1) ≡ t = omega arith in omega (
      arith,
      ap (from g u) q,
      from_is g u t (omega arith),
      from_is g u (t - 1) (omega arith),
      from_is g u (t + j) (omega arith),
      S.ups (t - 1) (t + j) (omega arith) (omega arith) e,
    );
    eq8 = λ h j i k e. omega (arith, ap bit (off_of g h).state, from_is g u (1 + j) (omega arith), S.ups 0 (1 + j) (omega arith) (omega arith) e);
    eq9 = λ t l m j i k e. let q : suc (t - 1) ≡ t = omega arith in omega (
      arith,
      ap (from g u) q,
      from_is g u t (omega arith),
      from_is g u (t - 1) (omega arith),
      from_is g u (t + j) (omega arith),
      S.falls (t - 1) (t + j) (omega arith) (omega arith) e,
    );
    eq10 = λ h j i k e. omega (arith, ap bit (on_of g h).state, from_is g u (1 + j) (omega arith), S.falls 0 (1 + j) (omega arith) (omega arith) e);
  }

-- ---- a run of n statuses, read by any u

module _ (n : ℕ) (g : Generator) (u : ℕ → ℕ) (run : List Bool) (e : length run ≡ n) (r : Reads (from g u) run) where
  pub keeps→updown : T (keeps g g.on g.since run) → ToT n g u
  keeps→updown h =
      stays→updown n g u (subst (λ (k : ℕ). Stays g g.since k (from g u)) e (keeps→stays g g.on g.since run (from g u) refl r h))

  pub updown→keeps : 1 ≤ g.since → Bits n u → ToT n g u → T (keeps g g.on g.since run)
  updown→keeps f bits S =
      stays→keeps g g.on g.since run (from g u) refl r
      (subst (λ (k : ℕ). Stays g g.since k (from g u)) (sym e) (updown→stays n g u S bits f))
