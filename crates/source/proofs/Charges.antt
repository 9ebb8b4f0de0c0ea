-- The least cu and cd under (13) to (20), with (15) by its sentence, are the costs of starts and stops in the paper's words:
-- those satisfy every inequality, and each is asked for by one of them.
use mathlib.Core.Path.{◌≡◌, refl, sym, ap, ap₂, subst}
use mathlib.Core.Bool.{Bool, true, false, not, cond}
use mathlib.Core.Logic.{◌⊎◌, inl, inr}
use Prim.Native.Nat.{ℕ, zero, suc, ◌+◌, ◌*◌, ◌-◌, ◌≤◌, ◌<◌}
use native.Mathlib.Omega.{arith}
use lib.Dec.{T, leb, leb→le, nleb→lt}
use lib.IntN.{pos}
use lib.Signed.{◌<ℤ◌}
use Rattle.model.specs.declared.generator.Generator.{Generator}
use Rattle.model.specs.Instance.{Tini}
use Rattle.source.specs.Source.{Bits, Σ₁, bit, from, idle, one_longer, downtime, Fifteen, Sentence15, Charges}
use Rattle.source.specs.Sentences.{starting, stopping, start_cost, stop_cost}
use Rattle.source.proofs.Indices.{from_two}
use Rattle.source.proofs.Before.{off_below, off_of, on_of, either_of}
use Rattle.source.proofs.Stays.{num_le}
use Rattle.source.proofs.Downtime.{long_down, idle_on, prev_off, sum16}

-- one form of (15) for another
pub charges_map : (F F' : Fifteen) (n : ℕ) (g : Generator) (u cu cd : ℕ → ℕ) → (F n g u cu → F' n g u cu)
    → Charges F n g u cu cd → Charges F' n g u cu cd
charges_map F F' n g u cu cd f C = record { eq13 = C.eq13; eq14 = C.eq14; eq15 = f C.eq15; eq16 = C.eq16; eq18 = C.eq18; eq19 = C.eq19 }

-- ---- of one change

hot_le : (g : Generator) → g.Hsc ≤ g.Csc → (v d w : ℕ) → w ≤ 1 → w * g.Hsc ≤ starting g v d w + v * g.Hsc
hot_le g h v d zero l = omega arith
hot_le g h (suc v) d (suc zero) l = omega arith
hot_le g h zero d (suc zero) l = go (leb d (g.TD + g.Tcold))
  where
    go : (c : Bool) → 1 * g.Hsc ≤ cond c g.Hsc g.Csc + 0 * g.Hsc
    go true = omega arith
    go false = omega arith
hot_le g h v d (suc (suc w)) l = absurd (omega arith)

cold_le : (g : Generator) (v d w : ℕ) → v ≡ 0 → w ≡ 1 → g.TD + g.Tcold < d → g.Csc ≤ starting g v d w
cold_le g v d w e f h = rw (e, f) (go (leb d (g.TD + g.Tcold)) (λ t. leb→le d (g.TD + g.Tcold) t))
  where
    go : (c : Bool) → (T c → d ≤ g.TD + g.Tcold) → g.Csc ≤ cond c g.Hsc g.Csc
    go true k = absurd (omega (arith, k tt))
    go false k = omega arith

stop_le : (g : Generator) (v w : ℕ) → v ≤ 1 → v * g.Dc ≤ stopping g v w + w * g.Dc
stop_le g zero w l = omega arith
stop_le g (suc zero) zero l = omega arith
stop_le g (suc zero) (suc w) l = omega arith
stop_le g (suc (suc v)) w l = absurd (omega arith)

-- the inequality of (15) and (16), with the status w and the sum z: it asks for C where w is 1 and z is 0
pub cold_if : (w z C x : ℕ) → w ≤ 1 → (w ≡ 1 → z ≡ 0 → C ≤ x) → w * C ≤ x + z * C
cold_if zero z C x l f = omega arith
cold_if (suc zero) zero C x l f = omega (arith, f refl refl)
cold_if (suc zero) (suc z) C x l f = omega arith
cold_if (suc (suc w)) z C x l f = absurd (omega arith)

-- ---- they satisfy the inequalities

module _ (n : ℕ) (g : Generator) (u : ℕ → ℕ) (H : g.Hsc ≤ g.Csc) (bits : Bits n u) where
  start_13 : (t : ℕ) → 2 ≤ t → t ≤ n → u t * g.Hsc ≤ start_cost g u t + u (t - 1) * g.Hsc
  start_13 = from_two n (λ s t. u t * g.Hsc ≤ start_cost g u t + u s * g.Hsc)
      (λ t m. hot_le g H (u (suc t)) (downtime g u (suc (suc t))) (u (suc (suc t))) (bits (suc (suc t)) (omega arith) m))

  start_14 : Tini g <ℤ pos 0 → 1 ≤ n → u 1 * g.Hsc ≤ start_cost g u 1
  start_14 h l =
      omega (
        arith,
        ap (λ (b : Bool). bit b * g.Hsc) (off_of g h).state,
        hot_le g H (bit g.on) (downtime g u 1) (u 1) (bits 1 (omega arith) l),
      )

  -- a start after more than TD + Tcold periods off, in any period
  start_cold : (t : ℕ) → 1 ≤ t → t ≤ n → u t ≡ 1 → g.TD + g.Tcold < downtime g u t → g.Csc ≤ start_cost g u t
  start_cold zero l m e h = absurd (omega arith)
  start_cold (suc t) l m e h = cold_le g (from g u t) (downtime g u (suc t)) (u (suc t)) (prev_off g u t (omega arith)) e h

  stop_18 : (t : ℕ) → 2 ≤ t → t ≤ n → u (t - 1) * g.Dc ≤ stop_cost g u t + u t * g.Dc
  stop_18 = from_two n (λ s t. u s * g.Dc ≤ stop_cost g u t + u t * g.Dc)
      (λ t m. stop_le g (u (suc t)) (u (suc (suc t))) (bits (suc t) (omega arith) (omega arith)))

  stop_19 : pos 0 <ℤ Tini g → 1 ≤ n → (1 - u 1) * g.Dc ≤ stop_cost g u 1
  stop_19 h l = subst (λ (b : Bool). (1 - u 1) * g.Dc ≤ stopping g (bit b) (u 1)) (sym (on_of g h).state) (go (u 1))
    where
      go : (w : ℕ) → (1 - w) * g.Dc ≤ stopping g 1 w
      go zero = omega arith
      go (suc w) = let q : 1 - suc w ≡ 0 = omega arith in rw q (omega arith)

  pub charges_allowed : Charges Sentence15 n g u (start_cost g u) (stop_cost g u)
  charges_allowed = record {
    eq13 = start_13;
    eq14 = start_14;
    eq15 = λ t l m e h. start_cold t (omega arith) m e h;
    eq16 = λ h t l r k m. cold_if (u t) (Σ₁ (t - 1) (λ j. u (t - j))) g.Csc (start_cost g u t) (bits t l m)
        (λ e f. start_cold t l m e ((sum16 g u t l (omega arith) (off_of g h)).0 (r, f)));
    eq18 = stop_18;
    eq19 = stop_19;
  }

-- ---- and nothing smaller does

module _ (n : ℕ) (g : Generator) (u cu cd : ℕ → ℕ) (C : Charges Sentence15 n g u cu cd) where
  -- Csc is asked for wherever the sentence has it: by (15) past TD + Tcold, by (16) up to it
  csc_due : (t : ℕ) → 1 ≤ t → t ≤ n → u t ≡ 1 → g.TD + g.Tcold < downtime g u t → g.Csc ≤ cu t
  csc_due zero l m e h = absurd (omega arith)
  csc_due (suc t) l m e h = go (leb (suc t) N) (λ c. leb→le (suc t) N c) (λ c. nleb→lt (suc t) N c)
    where
      N : ℕ
      N = g.TD + g.Tcold

      early : suc t ≤ N → g.Csc ≤ cu (suc t)
      early k =
          let off = idle_on g (long_down (idle g.on g.since) u t (omega arith)).1 in
          let neg = off_below g off.0 off.1 in
          let w = (sum16 g u (suc t) l k (off_of g neg)).1 h in
          omega (arith, rw (e, w.1) at (C.eq16 neg (suc t) l w.0 k m))

      go : (c : Bool) → (T c → suc t ≤ N) → (T (not c) → N < suc t) → g.Csc ≤ cu (suc t)
      go true a b = early (a tt)
      go false a b = C.eq15 (suc t) (b tt) m e h

  -- Hsc on every start: by (14) in period 1, by (13) later
  hsc_due : (t : ℕ) → suc t ≤ n → from g u t ≡ 0 → u (suc t) ≡ 1 → 1 ≤ g.since → g.Hsc ≤ cu (suc t)
  hsc_due zero m v w f = go (either_of g f)
    where
      go : (Tini g <ℤ pos 0) ⊎ (pos 0 <ℤ Tini g) → g.Hsc ≤ cu 1
      go (inl h) = omega (arith, rw w at (C.eq14 h m))
      go (inr h) = absurd (omega (arith, ap bit (on_of g h).state))
  hsc_due (suc t) m v w f =
      let q : suc (suc t) - 1 ≡ suc t = omega arith in omega (arith, rw (q, w, v) at (C.eq13 (suc (suc t)) (omega arith) m))

  pub start_below : 1 ≤ g.since → Bits n u → (t : ℕ) → 1 ≤ t → t ≤ n → start_cost g u t ≤ cu t
  start_below f bits zero l m = absurd (omega arith)
  start_below f bits (suc t) l m = go (from g u t) (u (suc t)) refl refl
    where
      d : ℕ
      d = downtime g u (suc t)

      go : (v w : ℕ) → from g u t ≡ v → u (suc t) ≡ w → starting g v d w ≤ cu (suc t)
      go v zero e i = omega arith
      go (suc v) (suc w) e i = omega arith
      go zero (suc (suc w)) e i = absurd (omega (arith, bits (suc t) l m))
      go zero (suc zero) e i = by (leb d (g.TD + g.Tcold)) (λ c. nleb→lt d (g.TD + g.Tcold) c)
        where
          by : (c : Bool) → (T (not c) → g.TD + g.Tcold < downtime g u (suc t)) → cond c g.Hsc g.Csc ≤ cu (suc t)
          by true h = hsc_due t m e i f
          by false h = csc_due (suc t) l m i (h tt)

-- Dc on every stop: by (19) in period 1, by (18) later
module _ (F : Fifteen) (n : ℕ) (g : Generator) (u cu cd : ℕ → ℕ) (C : Charges F n g u cu cd) where
  dc_due : (t : ℕ) → suc t ≤ n → from g u t ≡ 1 → u (suc t) ≡ 0 → 1 ≤ g.since → g.Dc ≤ cd (suc t)
  dc_due zero m v w f = go (either_of g f)
    where
      go : (Tini g <ℤ pos 0) ⊎ (pos 0 <ℤ Tini g) → g.Dc ≤ cd 1
      go (inl h) = absurd (omega (arith, ap bit (off_of g h).state))
      go (inr h) = omega (arith, rw w at (C.eq19 h m))
  dc_due (suc t) m v w f =
      let q : suc (suc t) - 1 ≡ suc t = omega arith in omega (arith, rw (q, w, v) at (C.eq18 (suc (suc t)) (omega arith) m))

  pub stop_below : 1 ≤ g.since → Bits n u → (t : ℕ) → 1 ≤ t → t ≤ n → stop_cost g u t ≤ cd t
  stop_below f bits zero l m = absurd (omega arith)
  stop_below f bits (suc t) l m = go (from g u t) (u (suc t)) refl refl (at_most_1 t m)
    where
      at_most_1 : (t : ℕ) → suc t ≤ n → from g u t ≤ 1
      at_most_1 zero m = num_le g.on
      at_most_1 (suc t) m = bits (suc t) (omega arith) (omega arith)

      go : (v w : ℕ) → from g u t ≡ v → u (suc t) ≡ w → from g u t ≤ 1 → stopping g v w ≤ cd (suc t)
      go zero w e i k = omega arith
      go (suc v) (suc w) e i k = omega arith
      go (suc zero) zero e i k = dc_due t m e i f
      go (suc (suc v)) zero e i k = absurd (omega arith)

-- ---- both look at u in the periods 1 to T only

module _ (g : Generator) (n : ℕ) (u v : ℕ → ℕ) (e : (t : ℕ) → 1 ≤ t → t ≤ n → u t ≡ v t) where
  pub downtime_same : (t : ℕ) → t ≤ n → downtime g u (suc t) ≡ downtime g v (suc t)
  downtime_same zero m = refl
  downtime_same (suc t) m = ap₂ one_longer (e (suc t) (omega arith) m) (downtime_same t (omega arith))

  pub from_same : (t : ℕ) → t ≤ n → from g u t ≡ from g v t
  from_same zero m = refl
  from_same (suc t) m = e (suc t) (omega arith) m

  pub start_same : (t : ℕ) → 1 ≤ t → t ≤ n → start_cost g u t ≡ start_cost g v t
  start_same zero l m = refl
  start_same (suc t) l m = rw (from_same t (omega arith), downtime_same t (omega arith), e (suc t) l m)

  pub stop_same : (t : ℕ) → 1 ≤ t → t ≤ n → stop_cost g u t ≡ stop_cost g v t
  stop_same zero l m = refl
  stop_same (suc t) l m = rw (from_same t (omega arith), e (suc t) l m)
