-- What a line of numbers is due to be, and the tests of a line by it.
use Rattle.std.specs.Prelude.{ℕ, suc, ◌+◌, ◌-◌, Bool, true, false, not, ◌&&◌, ◌||◌, cond, List, [], ◌∷◌, ◌++◌, length, drop, replicate, leb, ltb, eqb, Result, Ok, Err}
use Rattle.decimal.specs.Decimal.{value_of, numeral}
use Rattle.decimal.specs.NumberRead.{read_cap}
use Rattle.text.specs.Lines.{Line, missing, unended, ended, bytes_of, begins, is_line}
use Rattle.text.specs.Tests.{Test, ◌if◌, first_true}
use Rattle.text.specs.declared.Fault.{Fault}
use Rattle.text.specs.declared.Fault.TheVariants.{Malformed, OutOfRange, WrongCount, Disordered}
use Rattle.text.specs.declared.Row.{Row}

-- ---- document 01, Texts: the values of a line, between commas

abbrev pub by_comma : Bool → ℕ → List (List ℕ) → List (List ℕ)
by_comma true b fs = [] ∷ fs
by_comma false b [] = (b ∷ []) ∷ []
by_comma false b (f ∷ fs) = (b ∷ f) ∷ fs

-- bytes cut at each comma, byte 44
abbrev pub cut_values : List ℕ → List (List ℕ)
cut_values [] = [] ∷ []
cut_values (b ∷ s) = by_comma (eqb b 44) b (cut_values s)

-- whether bytes begin with the byte b
abbrev pub byte_is : List ℕ → ℕ → Bool
byte_is [] b = false
byte_is (x ∷ s) b = eqb x b

-- whether a value begins with a minus, byte 45
abbrev pub has_minus : List ℕ → Bool
has_minus f = byte_is f 45

abbrev pub unsigned : List ℕ → List ℕ
unsigned f = cond (has_minus f) (drop 1 f) f

-- a number without leading zeros; where a minus may stand, also a minus and such a number other than 0
abbrev pub formed : Bool → List ℕ → Bool
formed signed f = cond (has_minus f) (signed && (not (byte_is (drop 1 f) 48) && numeral (drop 1 f))) (numeral f)

-- each value is formed; the first has number k, and value number m may carry a minus
abbrev pub all_formed : ℕ → ℕ → List (List ℕ) → Bool
all_formed m k [] = true
all_formed m k (f ∷ fs) = formed (eqb k m) f && all_formed m (suc k) fs

-- a value without its sign
abbrev pub size : List ℕ → ℕ
size f = value_of 0 (unsigned f)

abbrev pub sizes : List (List ℕ) → List ℕ
sizes [] = []
sizes (f ∷ fs) = size f ∷ sizes fs

abbrev pub any_minus : List (List ℕ) → Bool
any_minus [] = false
any_minus (f ∷ fs) = has_minus f || any_minus fs

-- ---- document 01, Numbers that come from the text: 12, 14, 13 of one line

-- the key with its `=`, the number of the value that may carry a minus (0: none may), and for each value due the lowest
-- and the highest that it may be, its sign left out
pub record Form : Type 0 where
  pub key : List ℕ
  pub minus : ℕ
  pub lows : List ℕ
  pub highs : List ℕ

abbrev pub form : List ℕ → ℕ → List ℕ → List ℕ → Form
form k m ls hs = record { key = k; minus = m; lows = ls; highs = hs }

-- n values, each from lo to hi, and no minus
abbrev pub plain : List ℕ → ℕ → ℕ → ℕ → Form
plain key n lo hi = form key 0 (replicate n lo) (replicate n hi)

-- the values of a line
abbrev pub values_of : Form → Line → List (List ℕ)
values_of f l = cut_values (drop (length f.key) (bytes_of l))

-- the numbers of a line, without their signs
abbrev pub numbers_of : Form → Line → List ℕ
numbers_of f l = sizes (values_of f l)

-- each number is from its low to its high
abbrev pub all_within : List ℕ → List ℕ → List ℕ → Bool
all_within [] ls hs = true
all_within (x ∷ xs) [] hs = false
all_within (x ∷ xs) (l ∷ ls) [] = false
all_within (x ∷ xs) (l ∷ ls) (h ∷ hs) = leb l x && (leb x h && all_within xs ls hs)

-- 12: wrong key, malformed, missing, unended
unfoldable pub malformed : Form → Line → Bool
malformed f missing = true
malformed f (unended b) = true
malformed f (ended b) = not (begins f.key b && all_formed f.minus 1 (values_of f (ended b)))

-- 14: wrong count of values
unfoldable pub wrong_count : Form → Line → Bool
wrong_count f l = not (eqb (length (values_of f l)) (length f.lows))

-- 13: value out of range
unfoldable pub outside_range : Form → Line → Bool
outside_range f l = not (all_within (numbers_of f l) f.lows f.highs)

-- document 01, Numbers that come from the docket: the tests of a line of numbers, 12, 14, 13, and then others
abbrev pub form_tests : Form → Line → List Test → List Test
form_tests f l ts = 12 if malformed f l ∷ 14 if wrong_count f l ∷ 13 if outside_range f l ∷ ts

-- where a word is due
abbrev pub word_tests : List ℕ → Line → List Test
word_tests w l = 12 if not (is_line w l) ∷ []

-- where nothing is due, any line is 12
abbrev pub nothing_tests : List Test
nothing_tests = 12 if true ∷ []

-- the first of 12, 14, 13 whose test holds, or 0
unfoldable pub form_refusal : Form → Line → ℕ
form_refusal f l = first_true (form_tests f l [])

-- none of them holds
unfoldable pub good_line : Form → Line → Bool
good_line f l = eqb (form_refusal f l) 0

-- ---- what reading a line gives

-- 48 numbers: those given, and zeros after them
abbrev pub pad_48 : List ℕ → List ℕ
pad_48 xs = xs ++ replicate (48 - length xs) 0

-- what is wrong with a line, by its number, and the number by what is wrong
abbrev pub fault_number : Fault → ℕ
fault_number Malformed = 12
fault_number OutOfRange = 13
fault_number WrongCount = 14
fault_number Disordered = 15

abbrev pub fault_of : ℕ → Fault
fault_of n = cond (eqb n 12) Malformed (cond (eqb n 13) OutOfRange (cond (eqb n 14) WrongCount Disordered))

-- the place after the line l, which starts at the place `at`, and its byte 10
abbrev pub place_after : Line → ℕ → ℕ
place_after l at = at + length (bytes_of l) + 1

-- the place after the line l, which starts at the place `at`, where it is good, or what is wrong with it
unfoldable pub verdict_of : Form → Line → ℕ → Result ℕ Fault
verdict_of f l at = cond (good_line f l) (Ok (place_after l at)) (Err (fault_of (form_refusal f l)))

-- the row of a good line l, which starts at the place `at`
abbrev pub good_row_of : Form → Line → ℕ → Row
good_row_of f l at = record { next = place_after l at; minus = any_minus (values_of f l); values = pad_48 (numbers_of f l) }

-- the line l, which starts at the place `at`: its row, or what is wrong with it
unfoldable pub row_of : Form → Line → ℕ → Result Row Fault
row_of f l at = cond (good_line f l) (Ok (good_row_of f l at)) (Err (fault_of (form_refusal f l)))

-- no range reaches the cap of numbers read
abbrev pub all_below : List ℕ → Bool
all_below [] = true
all_below (h ∷ hs) = ltb h read_cap && all_below hs
