-- Numbers of document 01's texts, by computation.
use mathlib.Core.Path.{◌≡◌, refl}
use mathlib.Core.Bool.{false}
use mathlib.Core.List.{[], ◌∷◌}
use lib.IntN.{negsuc}
use Rattle.decimal.specs.Decimal.{numeral, digits, digits_by, shown_whole}
use Rattle.decimal.specs.NumberRead.{number, number_at, number_of}

-- 1980
cost : digits 1980 ≡ 49 ∷ 57 ∷ 56 ∷ 48 ∷ []
unfolding digits digits_by
cost = refl

nothing : digits 0 ≡ 48 ∷ []
unfolding digits digits_by
nothing = refl

-- -30
negative : shown_whole (negsuc 29) ≡ 45 ∷ 51 ∷ 48 ∷ []
unfolding digits digits_by
negative = refl

-- 05 has a leading zero
leading_zero : numeral (48 ∷ 53 ∷ []) ≡ false
leading_zero = refl

empty_value : numeral [] ≡ false
empty_value = refl

-- 60,100 from its first byte, and from its fourth
demand_first : number_at (54 ∷ 48 ∷ 44 ∷ 49 ∷ 48 ∷ 48 ∷ []) 0 ≡ number 60 2
unfolding number_at number_of
demand_first = refl

demand_second : number_at (54 ∷ 48 ∷ 44 ∷ 49 ∷ 48 ∷ 48 ∷ []) 3 ≡ number 100 6
unfolding number_at number_of
demand_second = refl

-- a number of 21 digits is read, as the cap
large : number_at (57 ∷ 57 ∷ 57 ∷ 57 ∷ 57 ∷ 57 ∷ 57 ∷ 57 ∷ 57 ∷ 57 ∷ 57 ∷ 57 ∷ 57 ∷ 57 ∷ 57 ∷ 57 ∷ 57 ∷ 57 ∷ 57 ∷ 57 ∷ 57 ∷ []) 0 ≡ number 10000000000 21
unfolding number_at number_of
large = refl
