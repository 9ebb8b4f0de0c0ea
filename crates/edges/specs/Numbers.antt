-- The numbers of an order: decimal, without leading zeros, of 64 bits.
use Rattle.std.specs.Prelude.{ℕ, cond, ◌&&◌, List, Option, Some, None, nat_lt}
use Rattle.decimal.specs.Decimal.{all_digits, canonical, value_of}

-- 2^64
abbrev pub limit : ℕ
limit = 18_446_744_073_709_551_616

-- the value of digits, below the limit
unfoldable pub value_below : List ℕ → Option ℕ
value_below s = cond (all_digits s && nat_lt (value_of 0 s) limit) (Some (value_of 0 s)) None

-- the value of a decimal number without leading zeros, below the limit
abbrev pub number_below : List ℕ → Option ℕ
number_below s = cond (canonical s) (value_below s) None
