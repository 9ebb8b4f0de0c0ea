-- A key at a place of a text, byte by byte.
use Prim.Native.Nat.{ℕ, suc, ◌+◌, ◌-◌, ◌≤◌, ◌<◌}
use native.Mathlib.Numerals.{add-one}
use native.Mathlib.Omega.{arith}
use mathlib.Core.Path.{◌≡◌, refl, ap, ◌∙◌}
use mathlib.Core.Bool.{Bool, true, false, ◌&&◌}
use mathlib.Core.List.{List, [], ◌∷◌, ◌++◌}
use lib.ListN.{length, drop, get_or, length-drop, drop_of_length-le}
use lib.Seq.{drop-cons}
use lib.Dec.{eqb}
use borrow.Author.Tests.{eq-eqb, eqb-true}
use Rattle.text.specs.Lines.{begins}
use Rattle.text.proofs.Fields.{byte_inside, byte_at}
use Rattle.text.proofs.Cuts.{and_both}
use Rattle.text.specs.Forms.{byte_is}

-- ---- a line's key

begins_off : (k : ℕ) (ks t : List ℕ) → byte_is t k ≡ false → begins (k ∷ ks) t ≡ false
begins_off k ks [] e = refl
begins_off k ks (b ∷ t) e = simp e

module _ (s key : List ℕ) (i j : ℕ) where
  pub starts_on : j < length key → byte_is (drop i s) (get_or key j 0) ≡ true → begins (drop j key) (drop i s) ≡ begins (drop (j + 1) key) (drop (i + 1) s)
  starts_on h e =
      let l = byte_inside s i (get_or key j 0) e in
      let d : eqb (get_or s i 0) (get_or key j 0) ≡ true = byte_at s i (get_or key j 0) l ∙ e in
      ap (λ (k : List ℕ). begins k (drop i s)) (drop-cons key j 0 h)
      ∙ ap (λ (t : List ℕ). begins (get_or key j 0 ∷ drop (suc j) key) t) (drop-cons s i 0 l)
      ∙ simp (d, add-one)

  pub starts_off : j < length key → byte_is (drop i s) (get_or key j 0) ≡ false → begins (drop j key) (drop i s) ≡ false
  starts_off h e = ap (λ (k : List ℕ). begins k (drop i s)) (drop-cons key j 0 h) ∙ begins_off (get_or key j 0) (drop (suc j) key) (drop i s) e

  pub starts_end : length key ≤ j → begins (drop j key) (drop i s) ≡ true
  starts_end h = ap (λ (k : List ℕ). begins k (drop i s)) (drop_of_length-le key h)

begins_fits : (key t : List ℕ) → begins key t ≡ true → length key ≤ length t
begins_fits [] t e = omega arith
begins_fits (k ∷ ks) [] e = absurd (let z : ◌≡◌ {A = ℕ} 0 1 = cc in omega arith)
begins_fits (k ∷ ks) (b ∷ t) e = go (eqb b k) (begins_fits ks t) e
  where
    go : (d : Bool) → (begins ks t ≡ true → length ks ≤ length t) → (d && begins ks t) ≡ true → suc (length ks) ≤ suc (length t)
    go true rec e = omega (arith, rec e)
    go false rec e = absurd (let z : ◌≡◌ {A = ℕ} 0 1 = cc in omega arith)

-- a key that stands at a place ends within the text
pub key_fits : (s key : List ℕ) (at : ℕ) → begins key (drop at s) ≡ true → length key ≤ length s - at
key_fits s key at e = omega (arith, begins_fits key (drop at s) e, length-drop at s)

-- ---- a key in front of other bytes

pub begins_append : (key t : List ℕ) → begins key (key ++ t) ≡ true
begins_append [] t = refl
begins_append (k ∷ key) t = simp (eq-eqb k k refl, begins_append key t)

pub begins_text : (key t : List ℕ) → begins key t ≡ true → t ≡ key ++ drop (length key) t
begins_text [] t e = refl
begins_text (k ∷ key) [] e = absurd (let z : ◌≡◌ {A = ℕ} 0 1 = cc in omega arith)
begins_text (k ∷ key) (b ∷ t) e =
    let p = and_both (eqb b k) (begins key t) e in
    λ i. eqb-true b k p.0 i ∷ begins_text key t p.1 i

-- bytes that begin with the key still do with more behind them
pub begins_longer : (key b t : List ℕ) → begins key b ≡ true → begins key (b ++ t) ≡ true
begins_longer [] b t e = refl
begins_longer (k ∷ key) [] t e = absurd (let z : ◌≡◌ {A = ℕ} 0 1 = cc in omega arith)
begins_longer (k ∷ key) (x ∷ b) t e =
    let p = and_both (eqb x k) (begins key b) e in
    simp (p.0, begins_longer key b t p.1)
