-- The words of an order, which single spaces, byte 32, part.
use Rattle.std.specs.Prelude.{ℕ, Bool, ◌==◌, List}
use Rattle.std.specs.List.{before_first, after_first}

-- whether a byte is a space
abbrev pub is_space : ℕ → Bool
is_space b = b == 32

-- the first word
abbrev pub first_word : List ℕ → List ℕ
first_word s = before_first is_space s

-- what follows it and a space
abbrev pub rest_of : List ℕ → List ℕ
rest_of s = after_first is_space s
