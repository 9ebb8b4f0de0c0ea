-- Decimal numbers in bytes: the digits are the bytes 48 to 57, the most significant first.
use Rattle.std.specs.Prelude.{ℕ, zero, suc, ◌+◌, ◌-◌, ◌*◌, ◌/◌, ◌%◌, Bool, true, false, not, ◌&&◌, cond, List, [], ◌∷◌, ◌++◌, leb, ltb, eqb, ℤ, pos, negsuc}

-- ---- document 01, Texts: values are decimal numbers without leading zeros, of any length

abbrev pub is_digit : ℕ → Bool
is_digit b = leb 48 b && leb b 57

abbrev pub all_digits : List ℕ → Bool
all_digits [] = true
all_digits (b ∷ s) = is_digit b && all_digits s

-- there is a digit, and the first of several is not 0
abbrev pub canonical : List ℕ → Bool
canonical [] = false
canonical (d ∷ []) = true
canonical (d ∷ e ∷ ds) = not (eqb d 48)

-- a decimal number without leading zeros
abbrev pub numeral : List ℕ → Bool
numeral f = all_digits f && canonical f

-- the value of digits that follow digits of value v
abbrev pub value_of : ℕ → List ℕ → ℕ
value_of v [] = v
value_of v (d ∷ ds) = value_of (v * 10 + (d - 48)) ds

-- ---- the digits of a number

-- the last k digits of n at most
unfoldable pub digits_by : ℕ → ℕ → List ℕ
digits_by zero n = []
digits_by (suc k) n =
    let several = digits_by k (n / 10) ++ ((48 + n % 10) ∷ []) in
    cond (ltb n 10) ((48 + n) ∷ []) several

-- the digits of n, of which there are at most n + 1
unfoldable pub digits : ℕ → List ℕ
digits n = digits_by (suc n) n

-- a whole number as it is shown: its digits, after a minus, byte 45, where it is below 0; negsuc n is -(n + 1)
abbrev pub shown_whole : ℤ → List ℕ
shown_whole (pos n) = digits n
shown_whole (negsuc n) = 45 ∷ digits (suc n)
