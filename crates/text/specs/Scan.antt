-- What the reader of a line follows: the values from a place on, up to the first byte 10.
use Rattle.std.specs.Prelude.{ℕ, ◌+◌, min, Bool, true, false, ◌||◌, cond, List, [], ◌∷◌, length, drop, set, eqb, Option, None, Some, Result, Ok, Err}
use Rattle.decimal.specs.Decimal.{value_of, numeral}
use Rattle.decimal.specs.NumberRead.{read_cap}
use Rattle.text.specs.Lines.{begins}
use Rattle.text.specs.Forms.{has_minus, formed, size}
use Rattle.text.specs.declared.Field.{Field}
use Rattle.text.specs.declared.Values.{Values}
use Rattle.text.specs.declared.Fault.{Fault}
use Rattle.text.specs.declared.Fault.TheVariants.{Malformed, OutOfRange, WrongCount}

-- what a text begins with, cut at the commas up to the first byte 10: a value that ends the line, a value with more behind
-- it, or no byte 10 at all
pub data Scan : Type 0 where
  cut : Scan
  last : List ℕ → Scan
  more : List ℕ → Scan → Scan

-- one byte more in front of the first value
abbrev pub wider : ℕ → Scan → Scan
wider b cut = cut
wider b (last f) = last (b ∷ f)
wider b (more f g) = more (b ∷ f) g

abbrev pub by_byte : Bool → Bool → ℕ → Scan → Scan
by_byte true c b g = last []
by_byte false true b g = more [] g
by_byte false false b g = wider b g

abbrev pub scan : List ℕ → Scan
scan [] = cut
scan (b ∷ s) = by_byte (eqb b 10) (eqb b 44) b (scan s)

-- a value without its sign, or the cap
abbrev pub magnitude : List ℕ → ℕ
magnitude f = min read_cap (size f)

-- no value, or one: its size, its minus, the place after the byte that ends it, and whether that byte ends the line
abbrev pub no_field : Option Field
no_field = None

abbrev pub some_field : ℕ → Bool → ℕ → Bool → Option Field
some_field v minus next ends = Some (record { size = v; minus = minus; next = next; last = ends })

-- the first value, which stands at the place `at`, taken as a number without a sign
unfoldable pub head_ended : Bool → Scan → ℕ → Option Field
head_ended minus cut at = no_field
head_ended minus (last f) at = cond (numeral f) (some_field (min read_cap (value_of 0 f)) minus (at + length f + 1) true) no_field
head_ended minus (more f g) at = cond (numeral f) (some_field (min read_cap (value_of 0 f)) minus (at + length f + 1) false) no_field

unfoldable pub ended_at : List ℕ → ℕ → Bool → Option Field
ended_at s at minus = head_ended minus (scan (drop at s)) at

-- the first value, which stands at the place `at`
unfoldable pub head_field : Bool → Scan → ℕ → Option Field
head_field signed cut at = no_field
head_field signed (last f) at = cond (formed signed f) (some_field (magnitude f) (has_minus f) (at + length f + 1) true) no_field
head_field signed (more f g) at = cond (formed signed f) (some_field (magnitude f) (has_minus f) (at + length f + 1) false) no_field

unfoldable pub field_at : List ℕ → ℕ → Bool → Option Field
field_at s at signed = head_field signed (scan (drop at s)) at

-- no values, or how many they are, the next line's start and whether one has a minus
abbrev pub no_values : Option Values
no_values = None

abbrev pub some_values : ℕ → ℕ → Bool → Option Values
some_values count next minus = Some (record { count = count; next = next; minus = minus })

-- the answer, and what the row then holds
pub record ValuesRead : Type 0 where
  pub answer : Option Values
  pub out : List ℕ

abbrev pub wrong : List ℕ → ValuesRead
wrong o = record { answer = no_values; out = o }

-- the values one by one: they stand at the place `at`, k were read before them, value number m may carry a minus, and
-- `minus` says whether one before them has it
unfoldable pub reading : ℕ → Scan → ℕ → ℕ → Bool → List ℕ → ValuesRead
reading m cut at k minus o = wrong o
reading m (last f) at k minus o =
    cond (formed (eqb (k + 1) m) f)
    (record { answer = some_values (k + 1) (at + length f + 1) (minus || has_minus f); out = set o k (magnitude f) })
    (wrong o)
reading m (more f g) at k minus o =
    cond (formed (eqb (k + 1) m) f)
    (reading m g (at + length f + 1) (k + 1) (minus || has_minus f) (set o k (magnitude f)))
    (wrong o)

unfoldable pub values_at : List ℕ → ℕ → ℕ → List ℕ → ValuesRead
values_at s at m o = reading m (scan (drop at s)) at 0 false o

-- the values of the line that starts at the place `at` with the key; where the key does not stand there, none is read
unfoldable pub keyed_at : List ℕ → List ℕ → ℕ → ℕ → List ℕ → ValuesRead
keyed_at key s at m o = cond (begins key (drop at s)) (values_at s (at + length key) m o) (wrong o)

-- what a row that holds o holds once the line that starts at the place `at` with the key is read into it, no value with a
-- minus: the values up to the first malformed one, or all, as far as they fit, one above the cap as the cap; its other places
-- stay. Of a good line these are its numbers
abbrev pub stored_at : List ℕ → List ℕ → ℕ → List ℕ → List ℕ
stored_at key s at o = (keyed_at key s at 0 o).out

-- whether one of the values read has a minus
abbrev pub minus_of : Option Values → Bool
minus_of None = false
minus_of (Some v) = v.minus

-- 12, 14, 13 in this order, by the values read: n are due, and `within` says whether those stored are in range
abbrev pub values_verdict : Option Values → ℕ → Bool → Result ℕ Fault
values_verdict None n within = Err Malformed
values_verdict (Some v) n within = cond (eqb v.count n) (cond within (Ok v.next) (Err OutOfRange)) (Err WrongCount)
