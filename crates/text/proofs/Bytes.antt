-- The bytes of a rendering: no comma within a value, and no byte 10 within a line.
use Prim.Native.Nat.{ℕ, suc}
use native.Mathlib.Omega.{arith}
use mathlib.Core.Path.{◌≡◌, refl}
use mathlib.Core.Bool.{Bool, true, false, not, ◌&&◌}
use mathlib.Core.List.{List, [], ◌∷◌, ◌++◌}
use lib.Dec.{eqb}
use borrow.Author.Tests.{ne_eqb}
use Rattle.decimal.specs.Decimal.{is_digit, all_digits, digits}
use Rattle.decimal.proofs.Digits.{digits_all, digit_range}
use Rattle.text.specs.Lines.{one_line}
use Rattle.text.specs.Rendering.{comma_joined, shown, all_shown, rendered}
use Rattle.text.proofs.Cuts.{and_both}
use Rattle.text.proofs.Joins.{no_comma, no_commas}

digits_comma : (f : List ℕ) → all_digits f ≡ true → no_comma f ≡ true
digits_comma [] e = refl
digits_comma (b ∷ f) e =
    let p = and_both (is_digit b) (all_digits f) e in
    let w = digit_range b p.0 in
    simp (ne_eqb b 44 (λ z. omega arith), digits_comma f p.1)

shown_comma : (neg : Bool) (v : ℕ) → no_comma (shown neg v) ≡ true
shown_comma true v = digits_comma (digits v) (digits_all v)
shown_comma false v = digits_comma (digits v) (digits_all v)

pub shown_no_commas : (m : ℕ) (neg : Bool) (k : ℕ) (vs : List ℕ) → no_commas (all_shown m neg k vs) ≡ true
shown_no_commas m neg k [] = refl
shown_no_commas m neg k (v ∷ vs) = simp (shown_comma (neg && eqb k m) v, shown_no_commas m neg (suc k) vs)

digits_line : (f : List ℕ) → all_digits f ≡ true → one_line f ≡ true
digits_line [] e = refl
digits_line (b ∷ f) e =
    let p = and_both (is_digit b) (all_digits f) e in
    let w = digit_range b p.0 in
    simp (ne_eqb b 10 (λ z. omega arith), digits_line f p.1)

shown_line : (neg : Bool) (v : ℕ) → one_line (shown neg v) ≡ true
shown_line true v = digits_line (digits v) (digits_all v)
shown_line false v = digits_line (digits v) (digits_all v)

pub line_join : (a b : List ℕ) → one_line a ≡ true → one_line b ≡ true → one_line (a ++ b) ≡ true
line_join [] b h k = k
line_join (x ∷ a) b h k =
    let p = and_both (not (eqb x 10)) (one_line a) h in
    simp (p.0, line_join a b p.1 k)

joined_line : (m : ℕ) (neg : Bool) (k : ℕ) (vs : List ℕ) → one_line (comma_joined (all_shown m neg k vs)) ≡ true
joined_line m neg k [] = refl
joined_line m neg k (v ∷ []) = shown_line (neg && eqb k m) v
joined_line m neg k (v ∷ w ∷ vs) =
    line_join (shown (neg && eqb k m) v) (44 ∷ comma_joined (all_shown m neg (suc k) (w ∷ vs))) (shown_line (neg && eqb k m) v) (joined_line m neg (suc k) (w ∷ vs))

pub rendered_one_line : (key : List ℕ) (m : ℕ) (neg : Bool) (vs : List ℕ) → one_line key ≡ true → one_line (rendered key m neg vs) ≡ true
rendered_one_line key m neg vs h = line_join key (comma_joined (all_shown m neg 1 vs)) h (joined_line m neg 1 vs)
