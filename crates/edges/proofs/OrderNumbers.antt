-- Laws of the reader of numbers. Where the bytes from i on, after digits of value v, say of all digits and of the value what the whole says,
-- one digit more keeps that, and the end and a byte that does not fit decide.
use Rattle.std.proofs.Common.{◌≡◌, ℕ, suc, ◌+◌, ◌-◌, ◌*◌, ◌<◌, ◌≤◌, Bool, true, false, cond, ◌&&◌, ltb, Some, None, List, [], ◌∷◌, length, get_or, drop, refl, ap, ◌∙◌, arith, drop_of_length-le, drop-cons, ltb-false, le-ltb, lt-ltb}
use Rattle.decimal.specs.Decimal.{is_digit, all_digits, value_of}
use Rattle.edges.specs.Numbers.{limit, value_below}

and_no : (d : Bool) → (d && false) ≡ false
and_no true = refl
and_no false = refl

value_grows : (v : ℕ) (ds : List ℕ) → v ≤ value_of v ds
value_grows v [] = omega arith
value_grows v (d ∷ ds) = omega (arith, value_grows (v * 10 + (d - 48)) ds)

too_much : (d a : Bool) (w : ℕ) (ds : List ℕ) → (d && ltb w limit) ≡ false
    → None ≡ cond ((d && a) && ltb (value_of w ds) limit) (Some (value_of w ds)) None
too_much false a w ds e = refl
too_much true false w ds e = refl
too_much true true w ds e =
    rw (le-ltb (value_of w ds) limit (omega (arith, ltb-false w limit e, value_grows w ds))) refl

-- the bytes from i on, after digits of value v
pub record Left (s : List ℕ) (i v : ℕ) : Type 0 where
  pub all : all_digits s ≡ all_digits (drop i s)
  pub value : value_of 0 s ≡ value_of v (drop i s)

module _ (s : List ℕ) (i v : ℕ) (l : Left s i v) where
  pub left_end : length s ≤ i → v < limit → Some v ≡ value_below s
  unfolding value_below
  left_end h k =
      let all : all_digits s ≡ true = l.all ∙ ap all_digits (drop_of_length-le s h) in
      let value : value_of 0 s ≡ v = l.value ∙ ap (value_of v) (drop_of_length-le s h) in
      rw (all, value, lt-ltb v limit k)

  module _ (within : i < length s) where
    -- a byte that is no digit, or digits that are too many
    left_off : (is_digit (get_or s i 0) && ltb (v * 10 + (get_or s i 0 - 48)) limit) ≡ false → None ≡ value_below s
    unfolding value_below
    left_off e =
        rw (l.all ∙ ap all_digits (drop-cons s i 0 within), l.value ∙ ap (value_of v) (drop-cons s i 0 within))
        (too_much (is_digit (get_or s i 0)) (all_digits (drop (suc i) s)) (v * 10 + (get_or s i 0 - 48)) (drop (suc i) s) e)

    -- too many digits, whatever the byte is
    pub left_large : limit ≤ v * 10 + (get_or s i 0 - 48) → None ≡ value_below s
    left_large h = left_off (rw (le-ltb (v * 10 + (get_or s i 0 - 48)) limit h) (and_no (is_digit (get_or s i 0))))

    -- a byte that is no digit
    pub left_other : is_digit (get_or s i 0) ≡ false → None ≡ value_below s
    left_other e = left_off (rw e refl)
