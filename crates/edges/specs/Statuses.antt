-- The statuses that the bytes of a text stand for, where an order asks about units.
use Rattle.std.specs.Prelude.{ℕ, ◌+◌, ◌-◌, cond, nat_lt}

-- a byte less 48, wrapped to a byte: 0, 1 and 2 for the digits 0, 1 and 2
abbrev pub status_of : ℕ → ℕ
status_of b = cond (nat_lt b 48) (b + 208) (b - 48)
