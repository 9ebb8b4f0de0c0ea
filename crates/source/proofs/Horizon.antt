-- The ranges of (5) to (10) to the letter, which lead past T: if the statuses past T are free they ask the same of 1, .., T. The last status,
-- kept for ever, will do for them.
use mathlib.Core.Path.{◌≡◌, sym, ◌∙◌, ap, subst}
use mathlib.Core.Bool.{Bool, true, false, not}
use mathlib.Core.Logic.{◌↔◌}
use Prim.Native.Nat.{ℕ, suc, ◌+◌, ◌-◌, ◌≤◌, ◌<◌, min}
use native.Mathlib.Omega.{arith}
use lib.Dec.{T, leb, leb→le, nleb→lt}
use lib.IntN.{pos, ◌+ℤ◌, ◌-ℤ◌}
use lib.Signed.{◌≤ℤ◌, ◌<ℤ◌}
use Rattle.model.specs.declared.generator.Generator.{Generator}
use Rattle.model.specs.Instance.{Tini}
use Rattle.source.specs.Source.{ToT, Letter, SomePast, Bits}
use Rattle.source.proofs.Before.{off_of, on_of, end5, end6}
use Rattle.source.proofs.Rows.{updown_same}

abbrev kept : ℕ → (ℕ → ℕ) → ℕ → ℕ
kept T u t = u (min t T)

by_le : {A : Type 0} (a b : ℕ) → (a ≤ b → A) → (b < a → A) → A
by_le {A} a b f h = go (leb a b) (λ c. leb→le a b c) (λ c. nleb→lt a b c)
  where
    go : (c : Bool) → (T c → a ≤ b) → (T (not c) → b < a) → A
    go true i j = f (i tt)
    go false i j = h (j tt)

module _ (n : ℕ) (g : Generator) (u : ℕ → ℕ) (S : ToT n g u) (bits : Bits n u) (N : 1 ≤ n) where
  kept_in : (t : ℕ) → t ≤ n → kept n u t ≡ u t
  kept_in t m = let q : min t n ≡ t = omega arith in ap u q

  kept_past : (t : ℕ) → n < t → kept n u t ≡ u n
  kept_past t m = let q : min t n ≡ n = omega arith in ap u q

  letter_5 : Tini g <ℤ pos 0 → (t : ℕ) → 1 ≤ t → pos t ≤ℤ (pos g.TD +ℤ Tini g) → kept n u t ≡ 0
  letter_5 h t l k = by_le t n
      (λ m. kept_in t m ∙ S.eq5 h t l k m)
      (λ m. kept_past t m ∙ S.eq5 h n N ((end5 g g.TD n (off_of g h)).1 (omega (arith, (end5 g g.TD t (off_of g h)).0 k))) (omega arith))

  letter_6 : pos 0 <ℤ Tini g → (t : ℕ) → 1 ≤ t → pos t ≤ℤ (pos g.TU -ℤ Tini g) → kept n u t ≡ 1
  letter_6 h t l k = by_le t n
      (λ m. kept_in t m ∙ S.eq6 h t l k m)
      (λ m. kept_past t m ∙ S.eq6 h n N ((end6 g g.TU n (on_of g h)).1 (omega (arith, (end6 g g.TU t (on_of g h)).0 k))) (omega arith))

  -- what holds of the statuses of s + 1, .., s + k up to T, and of that of s, holds of them all
  past : (Q : ℕ → Type 0) (s k : ℕ) → s ≤ n → ((j : ℕ) → 1 ≤ j → j ≤ k → s + j ≤ n → Q (u (s + j))) → Q (u s)
      → (j : ℕ) → 1 ≤ j → j ≤ k → Q (kept n u (s + j))
  past Q s k m f b j i l = by_le (s + j) n
      (λ e. subst Q (sym (kept_in (s + j) e)) (f j i l e))
      (λ e. subst Q (sym (kept_past (s + j) e)) (by_le (suc s) n
      (λ d. let q : s + (n - s) ≡ n = omega arith in subst (λ (t : ℕ). Q (u t)) q (f (n - s) (omega arith) (omega arith) (omega arith)))
      (λ d. let q : s ≡ n = omega arith in subst (λ (t : ℕ). Q (u t)) q b)))

  letter_7 : (t : ℕ) → 2 ≤ t → t ≤ n → (j : ℕ) → 1 ≤ j → j ≤ g.TU - 1 → kept n u t ≤ kept n u (t - 1) + kept n u (t + j)
  letter_7 t l m j i k = omega (
    arith,
    kept_in t m,
    kept_in (t - 1) (omega arith),
    past (λ x. u t ≤ u (t - 1) + x) t (g.TU - 1) m (S.eq7 t l m) (omega arith) j i k,
  )

  letter_8 : Tini g <ℤ pos 0 → (j : ℕ) → 1 ≤ j → j ≤ g.TU - 1 → kept n u 1 ≤ kept n u (1 + j)
  letter_8 h j i k = omega (arith, kept_in 1 N, past (λ x. u 1 ≤ x) 1 (g.TU - 1) N (S.eq8 h) (omega arith) j i k)

  letter_9 : (t : ℕ) → 2 ≤ t → t ≤ n → (j : ℕ) → 1 ≤ j → j ≤ g.TD - 1 → kept n u (t + j) + kept n u (t - 1) ≤ kept n u t + 1
  letter_9 t l m j i k = omega (
    arith,
    kept_in t m,
    kept_in (t - 1) (omega arith),
    past (λ x. x + u (t - 1) ≤ u t + 1) t (g.TD - 1) m (S.eq9 t l m) (omega (arith, bits (t - 1) (omega arith) (omega arith))) j i k,
  )

  letter_10 : pos 0 <ℤ Tini g → (j : ℕ) → 1 ≤ j → j ≤ g.TD - 1 → kept n u (1 + j) ≤ kept n u 1
  letter_10 h j i k = omega (arith, kept_in 1 N, past (λ x. x ≤ u 1) 1 (g.TD - 1) N (S.eq10 h) (omega arith) j i k)

  updown→letter : Letter n g (kept n u)
  updown→letter = record {
    eq5 = λ h t l k w. letter_5 h t l k;
    eq6 = λ h t l k w. letter_6 h t l k;
    eq7 = λ t l m j i k w. letter_7 t l m j i k;
    eq8 = λ h j i k w. letter_8 h j i k;
    eq9 = λ t l m j i k w. letter_9 t l m j i k;
    eq10 = λ h j i k w. letter_10 h j i k;
  }

-- where only some indices are asked about, less is asked
letter→updown : (n : ℕ) (g : Generator) (u : ℕ → ℕ) → Letter n g u → ToT n g u
letter→updown n g u L = record {
  eq5 = λ h t l k m. L.eq5 h t l k tt;
  eq6 = λ h t l k m. L.eq6 h t l k tt;
  eq7 = λ t l m j i k e. L.eq7 t l m j i k tt;
  eq8 = λ h j i k e. L.eq8 h j i k tt;
  eq9 = λ t l m j i k e. L.eq9 t l m j i k tt;
  eq10 = λ h j i k e. L.eq10 h j i k tt;
}

pub letter_is : (n : ℕ) (g : Generator) (u : ℕ → ℕ) → 1 ≤ n → Bits n u → SomePast n g u ↔ ToT n g u
letter_is n g u N bits = (
  λ L. updown_same n g L.past u L.same (letter→updown n g L.past L.letter),
  λ S. record { past = kept n u; same = λ t l m. kept_in n g u S bits N t m; letter = updown→letter n g u S bits N },
)
