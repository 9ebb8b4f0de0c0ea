-- Lines without a minus, whose values have one range: good exactly where they render as many values as are due, each in the
-- range. And what the row of 48 numbers then holds.
use Prim.Native.Nat.{ℕ, zero, suc, ◌-◌, ◌≤◌, ◌<◌}
use native.Mathlib.Nat.{sub-zero, zero-sub, suc-sub-suc}
use native.Mathlib.Omega.{arith}
use mathlib.Core.Path.{◌≡◌, refl, sym, ap, ◌∙◌}
use mathlib.Core.Bool.{Bool, true, false, ◌&&◌}
use mathlib.Core.List.{List, [], ◌∷◌, ◌++◌}
use lib.ListN.{length, take, drop, get_or, replicate, length-replicate, get_or-append}
use lib.Seq.{take_at}
use lib.Dec.{leb}
use borrow.Author.Tests.{leb-true, le-leb}
use Rattle.text.specs.Lines.{Line, ended}
use Rattle.text.specs.Forms.{plain, all_within, good_line, any_minus, values_of, numbers_of, pad_48, form_tests}
use Rattle.text.specs.Rendering.{rendered, plain_line}
use Rattle.text.specs.Tests.{Test, None}
use Rattle.text.proofs.Cuts.{and_both}
use Rattle.text.proofs.Accepted.{Fits, rendered_numbers, rendered_good, good_rendered}
use Rattle.text.proofs.Verdicts.{form_passes}

-- each number is from lo to hi
abbrev pub AllBetween : ℕ → ℕ → List ℕ → Type 0
AllBetween lo hi vs = (i : ℕ) → i < length vs → (lo ≤ get_or vs i 0) × (get_or vs i 0 ≤ hi)

between_within : (lo hi : ℕ) (vs : List ℕ) → AllBetween lo hi vs → all_within vs (replicate (length vs) lo) (replicate (length vs) hi) ≡ true
between_within lo hi [] h = refl
between_within lo hi (v ∷ vs) h =
    let p = h 0 (omega arith) in
    simp (le-leb lo v p.0, le-leb v hi p.1, between_within lo hi vs (λ i k. h (suc i) (omega arith)))

within_between : (lo hi : ℕ) (vs : List ℕ) → all_within vs (replicate (length vs) lo) (replicate (length vs) hi) ≡ true → AllBetween lo hi vs
within_between lo hi [] e i h = absurd (omega arith)
within_between lo hi (v ∷ vs) e zero h =
    let p = and_both (leb lo v) (leb v hi && all_within vs (replicate (length vs) lo) (replicate (length vs) hi)) e in
    let q = and_both (leb v hi) (all_within vs (replicate (length vs) lo) (replicate (length vs) hi)) p.1 in
    (leb-true lo v p.0, leb-true v hi q.0)
within_between lo hi (v ∷ vs) e (suc i) h =
    let p = and_both (leb lo v) (leb v hi && all_within vs (replicate (length vs) lo) (replicate (length vs) hi)) e in
    let q = and_both (leb v hi) (all_within vs (replicate (length vs) lo) (replicate (length vs) hi)) p.1 in
    within_between lo hi vs q.1 i (omega arith)

-- ---- good exactly where the values fit

module _ (key : List ℕ) (n lo hi : ℕ) where
  pub plain_fits : (vs : List ℕ) → 0 < n → length vs ≡ n → AllBetween lo hi vs → Fits (plain key n lo hi) false vs
  plain_fits vs h e r = record {
    some = omega arith;
    count = e ∙ sym (length-replicate n lo);
    range = ap (λ (k : ℕ). all_within vs (replicate k lo) (replicate k hi)) (sym e) ∙ between_within lo hi vs r;
    sign = λ z. absurd (let y : ◌≡◌ {A = ℕ} 0 1 = cc in omega arith);
  }

  -- the rendering of n values in range is good, and these are its numbers
  module _ (vs : List ℕ) (h : 0 < n) (e : length vs ≡ n) (r : AllBetween lo hi vs) where
    pub plain_good : good_line (plain key n lo hi) (ended (plain_line key vs)) ≡ true
    plain_good = rendered_good (plain key n lo hi) false vs (plain_fits vs h e r)

    pub plain_numbers : numbers_of (plain key n lo hi) (ended (plain_line key vs)) ≡ vs
    plain_numbers = rendered_numbers (plain key n lo hi) false vs (plain_fits vs h e r)

  -- a good line is the rendering of its numbers, n of them in range
  pub record IsPlain (l : Line) : Type 0 where
    pub line : l ≡ ended (plain_line key (numbers_of (plain key n lo hi) l))
    pub unsigned : any_minus (values_of (plain key n lo hi) l) ≡ false
    pub count : length (numbers_of (plain key n lo hi) l) ≡ n
    pub range : AllBetween lo hi (numbers_of (plain key n lo hi) l)

  pub plain_was : (l : Line) → good_line (plain key n lo hi) l ≡ true → IsPlain l
  plain_was l g =
      let a = good_rendered (plain key n lo hi) l g in
      let vs = numbers_of (plain key n lo hi) l in
      let u = no_sign (any_minus (values_of (plain key n lo hi) l)) refl a.fits in
      let c : length vs ≡ n = a.fits.count ∙ length-replicate n lo in
      record {
        line = a.line ∙ ap (λ (t : Bool). ended (rendered key 0 t vs)) u;
        unsigned = u;
        count = c;
        range = within_between lo hi vs (ap (λ (k : ℕ). all_within vs (replicate k lo) (replicate k hi)) c ∙ a.fits.range);
      }
    where
      no_sign : (t : Bool) → any_minus (values_of (plain key n lo hi) l) ≡ t → Fits (plain key n lo hi) t (numbers_of (plain key n lo hi) l) → any_minus (values_of (plain key n lo hi) l) ≡ false
      no_sign false e w = e
      no_sign true e w = let z = w.sign refl in absurd (omega arith)

  -- so is a line that passes the tests of its form
  pub plain_passed : (l : Line) (ts : List Test) → None (form_tests (plain key n lo hi) l ts) → IsPlain l
  plain_passed l ts p = plain_was l ((form_passes (plain key n lo hi) l ts).0 p).0

-- one value
pub one_value : (vs : List ℕ) → length vs ≡ 1 → vs ≡ get_or vs 0 0 ∷ []
one_value [] e = absurd (omega arith)
one_value (v ∷ []) e = refl
one_value (v ∷ w ∷ vs) e = absurd (omega arith)

pub one_between : (lo hi v : ℕ) → lo ≤ v → v ≤ hi → AllBetween lo hi (v ∷ [])
one_between lo hi v h k i e = let z : i ≡ 0 = omega arith in rw z (h, k)

-- ---- the row of 48 numbers

-- its first numbers are the values
pub pad_48_take : (vs : List ℕ) (n : ℕ) → length vs ≡ n → take n (pad_48 vs) ≡ vs
pad_48_take vs n e = take_at vs (replicate (48 - length vs) 0) n e

pub pad_48_at : (vs : List ℕ) (i : ℕ) → i < length vs → get_or (pad_48 vs) i 0 ≡ get_or vs i 0
pad_48_at vs i h = get_or-append vs (replicate (48 - length vs) 0) 0 i h

pub drop_replicate : {A : Type 0} (z : A) (n i : ℕ) → drop i (replicate n z) ≡ replicate (n - i) z
drop_replicate z n zero = rw sub-zero
drop_replicate z zero (suc i) = rw zero-sub
drop_replicate z (suc n) (suc i) = rw suc-sub-suc (drop_replicate z n i)

-- zeros stand after them
pub pad_48_is : (vs : List ℕ) (n : ℕ) → length vs ≡ n → vs ++ drop n (replicate 48 0) ≡ pad_48 vs
pad_48_is vs n e = ap (λ (l : List ℕ). vs ++ l) (drop_replicate 0 48 n ∙ ap (λ (k : ℕ). replicate (48 - k) 0) (sym e))
