-- Document 02, [5]: a unit's least value with the status of a period forced, for every period and either status.
use Rattle.std.specs.Prelude.{Bool, true, false, cond, List, [], ◌∷◌, ◌++◌, ℕ, ℤ, pos}
use Rattle.std.proofs.Math.Option.{Option, none, some}
use Rattle.model.specs.declared.generator.Generator.{Generator}
use Rattle.model.specs.Above.{Mark, fixed, Marks, put, rest, allows}
use Rattle.model.specs.Leaf.{gather, range, is_stuck, minℤ, unit_least}

-- ---- an entry

-- what a unit answers at a price leaf: none where it is stuck, else its least value
abbrev pub unit_answer : ℕ → (ℕ → ℕ) → (ℕ → ℕ) → Generator → (ℕ → Mark) → Option ℤ
unit_answer n q s g m = cond (is_stuck n g m) none (some (unit_least n q s g m))

-- the unit's marks with the status d fixed in period t, counted from 0
abbrev pub force : ℕ → Bool → (ℕ → Mark) → ℕ → Mark
force t d m = put t (fixed d) m

-- with period t forced to d: none where it is fixed the other way, else what the unit answers with d fixed in it too
abbrev pub forced_least : ℕ → (ℕ → ℕ) → (ℕ → ℕ) → Generator → (ℕ → Mark) → ℕ → Bool → Option ℤ
forced_least n q s g m t d = cond (allows (m t) d) (unit_answer n q s g (force t d m)) none

-- the lesser of two entries, one that says stuck left out
abbrev pub lesser_entry : Option ℤ → Option ℤ → Option ℤ
lesser_entry none y = y
lesser_entry (some x) none = some x
lesser_entry (some x) (some y) = some (minℤ x y)

-- ---- all entries

-- of a period: off forced before on forced
abbrev pub forced_pair : ℕ → (ℕ → ℕ) → (ℕ → ℕ) → Generator → (ℕ → Mark) → ℕ → List (Option ℤ)
forced_pair n q s g m t = forced_least n q s g m t false ∷ (forced_least n q s g m t true ∷ [])

-- of a unit, period by period
unfoldable pub forced_table : ℕ → (ℕ → ℕ) → (ℕ → ℕ) → Generator → (ℕ → Mark) → List (Option ℤ)
forced_table n q s g m = gather (forced_pair n q s g m) (range 0 n)

-- of all units, unit by unit
unfoldable pub forced_tables : ℕ → (ℕ → ℕ) → (ℕ → ℕ) → List Generator → Marks → List (Option ℤ)
forced_tables n q s [] m = []
forced_tables n q s (g ∷ gs) m = forced_table n q s g (m 0) ++ forced_tables n q s gs (rest m)

-- ---- an entry in two numbers

-- its value, and 0 where it says stuck
abbrev pub value_number : Option ℤ → ℤ
value_number none = pos 0
value_number (some z) = z

-- 1 where it says stuck, else 0
abbrev pub stuck_number : Option ℤ → ℕ
stuck_number none = 1
stuck_number (some z) = 0
