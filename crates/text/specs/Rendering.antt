-- How a line of numbers is written.
use Rattle.std.specs.Prelude.{ℕ, suc, Bool, true, false, ◌&&◌, List, [], ◌∷◌, ◌++◌, eqb}
use Rattle.decimal.specs.Decimal.{digits}

-- ---- document 01, Texts: `key=value`, the values joined by commas

-- values joined by commas, byte 44
abbrev pub comma_joined : List (List ℕ) → List ℕ
comma_joined [] = []
comma_joined (f ∷ []) = f
comma_joined (f ∷ g ∷ fs) = f ++ (44 ∷ comma_joined (g ∷ fs))

-- a number with or without its minus, byte 45
abbrev pub shown : Bool → ℕ → List ℕ
shown true n = 45 ∷ digits n
shown false n = digits n

-- the numbers, of which the first is number k; number m carries a minus where neg is true
abbrev pub all_shown : ℕ → Bool → ℕ → List ℕ → List (List ℕ)
all_shown m neg k [] = []
all_shown m neg k (v ∷ vs) = shown (neg && eqb k m) v ∷ all_shown m neg (suc k) vs

-- the bytes of a line before its byte 10
abbrev pub rendered : List ℕ → ℕ → Bool → List ℕ → List ℕ
rendered key m neg vs = key ++ comma_joined (all_shown m neg 1 vs)

-- the same without a minus
abbrev pub plain_line : List ℕ → List ℕ → List ℕ
plain_line key vs = rendered key 0 false vs

-- lines, each ended by byte 10
abbrev pub text_of : List (List ℕ) → List ℕ
text_of [] = []
text_of (b ∷ bs) = b ++ (10 ∷ text_of bs)
