-- Document 02, [1]: the source paper's number of units on, (23), and its cuts by it, (27) and (28).
use Rattle.std.specs.Prelude.{ℕ, ◌≤◌}
use Rattle.model.specs.Instance.{Instance}
use Rattle.source.specs.Source.{Σᵢ}

-- (23): A_t
abbrev pub units_on : Instance → (ℕ → ℕ → ℕ) → ℕ → ℕ
units_on P u t = Σᵢ (λ i g. u i t) P.units

-- (27), lo being A_t^LO
abbrev pub Cut27 : Instance → (ℕ → ℕ → ℕ) → ℕ → ℕ → Type 0
Cut27 P u t lo = lo ≤ Σᵢ (λ i g. u i t) P.units

-- (28), hi being A_t^UP
abbrev pub Cut28 : Instance → (ℕ → ℕ → ℕ) → ℕ → ℕ → Type 0
Cut28 P u t hi = Σᵢ (λ i g. u i t) P.units ≤ hi
