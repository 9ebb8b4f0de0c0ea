-- What the reader of a number answers: the digits that stand at a place of a text, and their value or the cap.
use Rattle.std.specs.Prelude.{ℕ, ◌+◌, min, Bool, true, false, cond, List, [], ◌∷◌, length, drop, Option, None, Some}
use Rattle.decimal.specs.Decimal.{is_digit, canonical, value_of}
use Rattle.decimal.specs.declared.DigitsRead.{DigitsRead}
use Rattle.decimal.specs.declared.Number.{Number}

-- above every range of document 01: a larger value reads as this
abbrev pub read_cap : ℕ
read_cap = 10_000_000_000

abbrev pub keep_if : Bool → ℕ → List ℕ → List ℕ
keep_if true b s = b ∷ s
keep_if false b s = []

-- the digits that a text begins with
abbrev pub leading_digits : List ℕ → List ℕ
leading_digits [] = []
leading_digits (b ∷ s) = keep_if (is_digit b) b (leading_digits s)

-- the digits at the place `at` of the text s, after digits of value v: the value of all or the cap, and the place after them
abbrev pub digits_after : ℕ → List ℕ → ℕ → DigitsRead
digits_after v s at = record { value = min read_cap (value_of v (leading_digits (drop at s))); end = at + length (leading_digits (drop at s)) }

-- after none
abbrev pub digits_at : List ℕ → ℕ → DigitsRead
digits_at = digits_after 0

-- a number that was read, with the place after it
abbrev pub number : ℕ → ℕ → Option Number
number value next = Some (record { value = value; next = next })

-- the digits ds, which stand at the place `at`, as a number, if they are one
unfoldable pub number_of : List ℕ → ℕ → Option Number
number_of ds at = cond (canonical ds) (number (min read_cap (value_of 0 ds)) (at + length ds)) None

-- the number that stands at the place `at` of the text s, if one does
unfoldable pub number_at : List ℕ → ℕ → Option Number
number_at s at = number_of (leading_digits (drop at s)) at
