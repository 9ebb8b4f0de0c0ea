-- Refusals: number, line, unit, period.
use Rattle.std.specs.Prelude.{ℕ, Bool, true, false, not, ◌&&◌, ◌||◌, leb}
use Rattle.refusal.specs.declared.Refusal.{Refusal}

-- ---- document 01, Numbers that come from the text, and document 02, [1]: what each number carries

abbrev pub between : ℕ → ℕ → ℕ → Bool
between lo n hi = leb lo n && leb n hi

-- 11 to 15 and 31 to 37
unfoldable pub carries_line : ℕ → Bool
carries_line n = between 11 n 15 || between 31 n 37

-- 21 to 25
unfoldable pub carries_period : ℕ → Bool
carries_period n = between 21 n 25

-- 21 to 25 without 22 and 23, which carry a period only
unfoldable pub carries_unit : ℕ → Bool
carries_unit n = between 21 n 25 && not (between 22 n 23)

-- what does not apply is 0
abbrev pub applied : Bool → ℕ → ℕ
applied true x = x
applied false x = 0

unfoldable pub refusal_of : ℕ → ℕ → ℕ → ℕ → Refusal
refusal_of n line unit period = record {
  number = n;
  line = applied (carries_line n) line;
  unit = applied (carries_unit n) unit;
  period = applied (carries_period n) period;
}

-- a refusal that carries its line and no more
abbrev pub line_refusal : ℕ → ℕ → Refusal
line_refusal n l = record { number = n; line = l; unit = 0; period = 0 }
