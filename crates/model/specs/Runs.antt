-- Document 02, [7]: the run behind a unit's least value, and how far the runs of a price leaf fall short of D. A run is given as a row of outputs, 0 for off.
use Rattle.std.specs.Prelude.{◌≡◌, Bool, not, cond, ◌&&◌, List, [], ◌∷◌, map, ◌⊎◌, ℕ, suc, ◌-◌, ◌≤◌, ◌<◌, T, ℤ, pos, ◌+ℤ◌}
use Rattle.std.specs.Int.Signed.{le_z}
use Rattle.model.specs.declared.generator.Generator.{Generator}
use Rattle.model.specs.Instance.{Instance, Schedule, ◌at◌}
use Rattle.model.specs.Rules.{on, statuses, output}
use Rattle.model.specs.Above.{Mark, Marks, rest}
use Rattle.model.specs.Leaf.{range, rows_of, is_stuck, value, unit_least}
use Rattle.model.specs.Agreement.{Candidate}

-- ---- the run

abbrev pub equal : ℤ → ℤ → Bool
equal x y = le_z x y && le_z y x

-- the first of the rows whose value is z; an empty row if none is
abbrev pub first_with : (List ℕ → ℤ) → ℤ → List (List ℕ) → List ℕ
first_with val z [] = []
first_with val z (r ∷ rows) = cond (equal (val r) z) r (first_with val z rows)

-- of the rows over which the least value is taken the first that has it. They stand with off before on and smaller outputs before larger, period by period
unfoldable pub least_row : ℕ → (ℕ → ℕ) → (ℕ → ℕ) → Generator → (ℕ → Mark) → List ℕ
least_row n q s g m = first_with (value n q s g) (unit_least n q s g m) (rows_of n g m)

-- ---- among equals

-- one of those rows that has the least value
pub record Attains (n : ℕ) (q s : ℕ → ℕ) (g : Generator) (m : ℕ → Mark) (r : List ℕ) : Type 0 where
  pub candidate : Candidate n g m r
  pub least : value n q s g r ≡ unit_least n q s g m

-- in the first t periods the statuses are the same
abbrev pub AlikeUntil : ℕ → List ℕ → List ℕ → Type 0
AlikeUntil t r r' = (v : ℕ) → v < t → on (r at v) ≡ on (r' at v)

-- r is off in the first period in which their statuses differ, and has no larger output in each period before it, or in all if none differs, in which both are on
pub record Precedes (r r' : List ℕ) : Type 0 where
  pub off : (t : ℕ) → AlikeUntil t r r' → T (on (r at t)) → T (on (r' at t))
  pub no_larger : (t : ℕ) → AlikeUntil t r r' → T (on (r at t)) → T (on (r' at t)) → r at t ≤ r' at t

-- two readings of the request. One compares the outputs period by period: the rows are the same, or r has the smaller output, 0 for off, where they first differ
pub record Smaller (r r' : List ℕ) : Type 0 where
  pub period : ℕ
  pub same : (v : ℕ) → v < period → r at v ≡ r' at v
  pub less : r at period < r' at period

abbrev pub ByOutputs : List ℕ → List ℕ → Type 0
ByOutputs r r' = (r ≡ r') ⊎ Smaller r r'

-- the other compares the statuses of all periods first: r is off where they first differ, or the statuses are the same and the outputs are compared
pub record OffFirst (r r' : List ℕ) : Type 0 where
  pub period : ℕ
  pub alike : AlikeUntil period r r'
  pub off : T (not (on (r at period)))
  pub on_there : T (on (r' at period))

abbrev pub ByStatuses : List ℕ → List ℕ → Type 0
ByStatuses r r' = OffFirst r r' ⊎ ((statuses r ≡ statuses r') × ByOutputs r r')

-- ---- a price leaf

-- the first unit that is stuck, counted from 0, or how many there are if none is
unfoldable pub first_stuck : ℕ → List Generator → Marks → ℕ
first_stuck n [] m = 0
first_stuck n (g ∷ gs) m = cond (is_stuck n g (m 0)) 0 (suc (first_stuck n gs (rest m)))

-- the runs of all units
unfoldable pub least_rows : ℕ → (ℕ → ℕ) → (ℕ → ℕ) → List Generator → Marks → Schedule
least_rows n q s [] m = []
least_rows n q s (g ∷ gs) m = least_row n q s g (m 0) ∷ least_rows n q s gs (rest m)

-- their values, together
unfoldable pub rows_value : ℕ → (ℕ → ℕ) → (ℕ → ℕ) → List Generator → Schedule → ℤ
rows_value n q s [] rows = pos 0
rows_value n q s (g ∷ gs) [] = pos 0
rows_value n q s (g ∷ gs) (r ∷ rows) = value n q s g r +ℤ rows_value n q s gs rows

-- how far the rows fall short of D in a period: 0 if they do not
unfoldable pub shortfall : Instance → Schedule → ℕ → ℕ
shortfall P rows t = P.demand at t - output P rows t

-- in each period
abbrev pub shortfalls : Instance → Schedule → List ℕ
shortfalls P rows = map (shortfall P rows) (range 0 P.periods)
