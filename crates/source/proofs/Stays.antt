-- (5) to (10) between the paper's form and the model's: the status before period 1 is x 0, so that (7) and (8) are one rule, (9) and (10) another.
-- Such statuses keep the rules exactly if the first is permitted and the rest keep them, a period later: that is the model's `keeps`.
use mathlib.Core.Path.{◌≡◌}
use mathlib.Core.Bool.{Bool, true, false, not}
use mathlib.Core.List.{List, [], ◌∷◌}
use Prim.Native.Nat.{ℕ, zero, suc, ◌+◌, ◌≤◌, ◌<◌}
use native.Mathlib.Omega.{arith}
use lib.Dec.{T, leb, leb→le, nleb→lt}
use lib.ListN.{length, get_or}
use Rattle.model.specs.declared.generator.Generator.{Generator}
use Rattle.model.specs.Rules.{permits, spent, keeps}
use Rattle.model.proofs.Tests.{T_and, T_and_l, T_and_r}
use Rattle.source.specs.Source.{bit}

-- x 1, .., x n after k periods in the status x 0
pub record Stays (g : Generator) (k n : ℕ) (x : ℕ → ℕ) : Type 0 where
  pub bits : (t : ℕ) → t ≤ n → x t ≤ 1
  pub off_first : x 0 ≡ 0 → (t : ℕ) → 1 ≤ t → t ≤ n → t + k ≤ g.TD → x t ≡ 0
  pub on_first : x 0 ≡ 1 → (t : ℕ) → 1 ≤ t → t ≤ n → t + k ≤ g.TU → x t ≡ 1
  pub ups : (t e : ℕ) → suc t < e → e < suc t + g.TU → e ≤ n → x (suc t) ≤ x t + x e
  pub falls : (t e : ℕ) → suc t < e → e < suc t + g.TD → e ≤ n → x e + x t ≤ x (suc t) + 1

pub num_le : (b : Bool) → bit b ≤ 1
num_le true = omega arith
num_le false = omega arith

unless_above : (a b : ℕ) → (b < a → ⊥) → T (leb a b)
unless_above a b f = go (leb a b) (λ t. nleb→lt a b t)
  where
    go : (c : Bool) → (T (not c) → b < a) → T c
    go true h = tt
    go false h = f (h tt)

-- ---- from x 0, x 1, .. to x 1, x 2, ..

module _ (g : Generator) (k n : ℕ) (x : ℕ → ℕ) (S : Stays g k (suc n) x) where
  fore_permits : (b d : Bool) → x 0 ≡ bit b → x 1 ≡ bit d → T (permits g b k d)
  fore_permits true true e0 e1 = tt
  fore_permits true false e0 e1 = unless_above g.TU k (λ l. omega (arith, S.on_first e0 1 (omega arith) (omega arith) (omega arith)))
  fore_permits false true e0 e1 = unless_above g.TD k (λ l. omega (arith, S.off_first e0 1 (omega arith) (omega arith) (omega arith)))
  fore_permits false false e0 e1 = tt

  fore_off : (b d : Bool) → x 0 ≡ bit b → x 1 ≡ bit d → x 1 ≡ 0 → (t : ℕ) → 1 ≤ t → t ≤ n → t + spent b k d ≤ g.TD → x (suc t) ≡ 0
  fore_off b true e0 e1 z t l m h = absurd (omega arith)
  fore_off true false e0 e1 z t l m h = omega (arith, S.falls 0 (suc t) (omega arith) (omega arith) (omega arith))
  fore_off false false e0 e1 z t l m h = S.off_first e0 (suc t) (omega arith) (omega arith) (omega arith)

  fore_on : (b d : Bool) → x 0 ≡ bit b → x 1 ≡ bit d → x 1 ≡ 1 → (t : ℕ) → 1 ≤ t → t ≤ n → t + spent b k d ≤ g.TU → x (suc t) ≡ 1
  fore_on b false e0 e1 z t l m h = absurd (omega arith)
  fore_on true true e0 e1 z t l m h = S.on_first e0 (suc t) (omega arith) (omega arith) (omega arith)
  fore_on false true e0 e1 z t l m h =
      omega (arith, S.ups 0 (suc t) (omega arith) (omega arith) (omega arith), S.bits (suc t) (omega arith))

  fore : (b d : Bool) → x 0 ≡ bit b → x 1 ≡ bit d → Stays g (spent b k d) n (λ t. x (suc t))
  fore b d e0 e1 = record {
    bits = λ t l. S.bits (suc t) (omega arith);
    off_first = fore_off b d e0 e1;
    on_first = fore_on b d e0 e1;
    ups = λ t e h j l. S.ups (suc t) (suc e) (omega arith) (omega arith) (omega arith);
    falls = λ t e h j l. S.falls (suc t) (suc e) (omega arith) (omega arith) (omega arith);
  }

-- ---- and back

-- the first two statuses, and the rest
record Next (g : Generator) (b d : Bool) (k n : ℕ) (x : ℕ → ℕ) : Type 0 where
  pub e0 : x 0 ≡ bit b
  pub e1 : x 1 ≡ bit d
  pub rest : Stays g (spent b k d) n (λ t. x (suc t))

module _ (g : Generator) (k n : ℕ) (x : ℕ → ℕ) where
  back_off : (b d : Bool) → Next g b d k n x → T (permits g b k d) → x 0 ≡ 0 → (t : ℕ) → 1 ≤ t → t ≤ suc n → t + k ≤ g.TD → x t ≡ 0
  back_off true d N m z t l h j = absurd (omega arith)
  back_off false true N m z t l h j = absurd (omega (arith, leb→le g.TD k m))
  back_off false false N m z zero l h j = absurd (omega arith)
  back_off false false N m z (suc zero) l h j = N.e1
  back_off false false N m z (suc (suc t)) l h j = N.rest.off_first N.e1 (suc t) (omega arith) (omega arith) (omega arith)

  back_on : (b d : Bool) → Next g b d k n x → T (permits g b k d) → x 0 ≡ 1 → (t : ℕ) → 1 ≤ t → t ≤ suc n → t + k ≤ g.TU → x t ≡ 1
  back_on false d N m z t l h j = absurd (omega arith)
  back_on true false N m z t l h j = absurd (omega (arith, leb→le g.TU k m))
  back_on true true N m z zero l h j = absurd (omega arith)
  back_on true true N m z (suc zero) l h j = N.e1
  back_on true true N m z (suc (suc t)) l h j = N.rest.on_first N.e1 (suc t) (omega arith) (omega arith) (omega arith)

  back_ups : (b d : Bool) → Next g b d k n x → (t e : ℕ) → suc t < e → e < suc t + g.TU → e ≤ suc n → x (suc t) ≤ x t + x e
  back_ups b d N t zero h j l = absurd (omega arith)
  back_ups b d N (suc t) (suc e) h j l = N.rest.ups t e (omega arith) (omega arith) (omega arith)
  back_ups b false N zero (suc e) h j l = omega arith
  back_ups true true N zero (suc e) h j l = omega arith
  back_ups false true N zero (suc e) h j l = omega (arith, N.rest.on_first N.e1 e (omega arith) (omega arith) (omega arith))

  back_falls : (b d : Bool) → Next g b d k n x → (t e : ℕ) → suc t < e → e < suc t + g.TD → e ≤ suc n → x e + x t ≤ x (suc t) + 1
  back_falls b d N t zero h j l = absurd (omega arith)
  back_falls b d N (suc t) (suc e) h j l = N.rest.falls t e (omega arith) (omega arith) (omega arith)
  back_falls b true N zero (suc e) h j l = omega (arith, N.rest.bits e (omega arith), num_le b)
  back_falls true false N zero (suc e) h j l = omega (arith, N.rest.off_first N.e1 e (omega arith) (omega arith) (omega arith))
  back_falls false false N zero (suc e) h j l = omega (arith, N.rest.bits e (omega arith))

  back : (b d : Bool) → Next g b d k n x → T (permits g b k d) → Stays g k (suc n) x
  back b d N m = record {
    bits = bits;
    off_first = back_off b d N m;
    on_first = back_on b d N m;
    ups = back_ups b d N;
    falls = back_falls b d N;
  }
    where
      bits : (t : ℕ) → t ≤ suc n → x t ≤ 1
      bits zero l = omega (arith, num_le b)
      bits (suc t) l = N.rest.bits t (omega arith)

-- ---- a run of statuses

abbrev pub Reads : (ℕ → ℕ) → List Bool → Type 0
Reads x run = (t : ℕ) → t < length run → x (suc t) ≡ bit (get_or run t false)

pub keeps→stays : (g : Generator) (b : Bool) (k : ℕ) (run : List Bool) (x : ℕ → ℕ) → x 0 ≡ bit b → Reads x run → T (keeps g b k run)
    → Stays g k (length run) x
keeps→stays g b k [] x e0 r h = record {
  bits = bits;
  off_first = λ z t l m j. absurd (omega arith);
  on_first = λ z t l m j. absurd (omega arith);
  ups = λ t e h j l. absurd (omega arith);
  falls = λ t e h j l. absurd (omega arith);
}
  where
    bits : (t : ℕ) → t ≤ 0 → x t ≤ 1
    bits zero l = omega (arith, num_le b)
    bits (suc t) l = absurd (omega arith)
keeps→stays g b k (d ∷ run) x e0 r h =
    let e1 : x 1 ≡ bit d = r 0 (omega arith) in
    back g k (length run) x b d (record {
      e0 = e0;
      e1 = e1;
      rest = keeps→stays g d (spent b k d) run (λ t. x (suc t)) e1 (λ t l. r (suc t) (omega arith))
          (T_and_r (permits g b k d) (keeps g d (spent b k d) run) h);
    }) (T_and_l (permits g b k d) (keeps g d (spent b k d) run) h)

pub stays→keeps : (g : Generator) (b : Bool) (k : ℕ) (run : List Bool) (x : ℕ → ℕ) → x 0 ≡ bit b → Reads x run → Stays g k (length run) x
    → T (keeps g b k run)
stays→keeps g b k [] x e0 r S = tt
stays→keeps g b k (d ∷ run) x e0 r S =
    let e1 : x 1 ≡ bit d = r 0 (omega arith) in
    T_and (permits g b k d) (keeps g d (spent b k d) run) (fore_permits g k (length run) x S b d e0 e1)
    (stays→keeps g d (spent b k d) run (λ t. x (suc t)) e1 (λ t l. r (suc t) (omega arith)) (fore g k (length run) x S b d e0 e1))
