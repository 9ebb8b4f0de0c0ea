-- What callers ensure of the values they hand over.
use Rattle.std.specs.Prelude.{◌<◌, ◌^◌, ℤ, None, Some}
use Rattle.std.specs.Int.Signed.{mag}
use Rattle.least.specs.UnitLeasts.{Least}

-- a signed value that leaves room for a sum
abbrev pub Small : ℤ → Type 0
Small z = mag z < 2 ^ 61

-- and that an answer has, if it is one
abbrev pub SmallLeast : Least → Type 0
SmallLeast None = Unit {0}
SmallLeast (Some z) = Small z
