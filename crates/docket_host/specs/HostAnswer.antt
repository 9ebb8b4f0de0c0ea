-- What a host gets for the listing's answer: one number.
use Rattle.std.specs.Prelude.{ℕ, Option, None, Some}

-- too little room: the largest number of 64 bits, which no listing is as long as
abbrev pub too_little_room : ℕ
too_little_room = 18446744073709551615

-- the length written, or the number that refuses the output
abbrev pub host_answer : Option ℕ → ℕ
host_answer None = too_little_room
host_answer (Some n) = n
