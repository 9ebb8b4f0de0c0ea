-- The bytes that an order gives to a text.
use Rattle.std.specs.Prelude.{ℕ, cond, ◌==◌}

-- byte 10 for a slash, byte 47, and each other byte for itself
abbrev pub byte_of : ℕ → ℕ
byte_of b = cond (b == 47) 10 b
