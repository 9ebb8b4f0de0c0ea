-- The runs of a price leaf (document 02, [7]), where no unit is stuck: a row for each unit, the first that has its least value; the rows' values and what the periods
-- require are the leaf's value; and what a shortfall says.
use mathlib.Core.Path.{◌≡◌, refl, ap, ap₂}
use mathlib.Core.Bool.{Bool, true, false, not, ◌||◌}
use mathlib.Core.List.{List, [], ◌∷◌}
use Prim.Native.Nat.{ℕ, zero, suc, ◌+◌, ◌≤◌, ◌<◌}
use native.Mathlib.Omega.{arith}
use lib.Dec.{T}
use lib.IntN.{ℤ, pos, ◌+ℤ◌}
use lib.ListN.{length, get_or}
use Rattle.model.specs.declared.generator.Generator.{Generator}
use Rattle.model.specs.Instance.{Instance, Schedule, ◌at◌}
use Rattle.model.specs.Ranges.{All, GoodOutput, GoodUnit}
use Rattle.model.specs.Rules.{output, Within}
use Rattle.model.specs.Above.{Mark, Marks, rest}
use Rattle.model.specs.Agreement.{Candidate}
use Rattle.model.specs.Leaf.{is_stuck, any_stuck, units_least, requirement, leaf_value}
use Rattle.model.specs.Runs.{least_row, least_rows, rows_value, shortfall}
use Rattle.model.proofs.LeastRows.{least_row_attains}

-- ---- one row

-- every output is in range
candidate_outputs : (n : ℕ) (g : Generator) → GoodUnit g → (m : ℕ → Mark) (r : List ℕ) → Candidate n g m r → All GoodOutput r
candidate_outputs n g good m r C = go r (λ t l. within (r at t) (C.limits t (rw C.long at l)))
  where
    within : (p : ℕ) → Within g p → GoodOutput p
    within zero W = omega arith
    within (suc p) W = omega (arith, (W tt).1, good.in_range.pU_in.1)

    go : (r : List ℕ) → ((t : ℕ) → t < length r → GoodOutput (r at t)) → All GoodOutput r
    go [] h = tt
    go (p ∷ r) h = (h 0 (omega arith), go r (λ t l. h (suc t) (omega arith)))

-- ---- all units

free_first : (a b : Bool) → a || b ≡ false → T (not a) × (b ≡ false)
free_first true b e = absurd (let z : ◌≡◌ {A = ℕ} 0 1 = cc in omega arith)
free_first false b e = (tt, e)

module _ (n : ℕ) (q s : ℕ → ℕ) where
  pub least_rows_long : (gs : List Generator) (m : Marks) → length (least_rows n q s gs m) ≡ length gs
  unfolding least_rows
  least_rows_long [] m = refl
  least_rows_long (g ∷ gs) m = ap suc (least_rows_long gs (rest m))

  -- unit u's row is its run
  pub least_rows_at : (gs : List Generator) (m : Marks) (d : Generator) (u : ℕ) → u < length gs → get_or (least_rows n q s gs m) u [] ≡ least_row n q s (get_or gs u d) (m u)
  unfolding least_rows
  least_rows_at [] m d u l = absurd (omega arith)
  least_rows_at (g ∷ gs) m d zero l = refl
  least_rows_at (g ∷ gs) m d (suc u) l = least_rows_at gs (rest m) d u (omega arith)

  -- no unit is stuck
  pub none_stuck : (gs : List Generator) (m : Marks) (d : Generator) → any_stuck n gs m ≡ false → (u : ℕ) → u < length gs → T (not (is_stuck n (get_or gs u d) (m u)))
  none_stuck [] m d e u l = absurd (omega arith)
  none_stuck (g ∷ gs) m d e zero l = (free_first (is_stuck n g (m 0)) (any_stuck n gs (rest m)) e).0
  none_stuck (g ∷ gs) m d e (suc u) l = none_stuck gs (rest m) d (free_first (is_stuck n g (m 0)) (any_stuck n gs (rest m)) e).1 u (omega arith)

  pub least_rows_shaped : (gs : List Generator) → All GoodUnit gs → (m : Marks) → any_stuck n gs m ≡ false → All (λ r. length r ≡ n) (least_rows n q s gs m)
  unfolding least_rows
  least_rows_shaped [] h m e = tt
  least_rows_shaped (g ∷ gs) h m e =
      let f = free_first (is_stuck n g (m 0)) (any_stuck n gs (rest m)) e in
      ((least_row_attains n q s g h.0 (m 0) f.0).candidate.long, least_rows_shaped gs h.1 (rest m) f.1)

  pub least_rows_outputs : (gs : List Generator) → All GoodUnit gs → (m : Marks) → any_stuck n gs m ≡ false → All (λ r. All GoodOutput r) (least_rows n q s gs m)
  unfolding least_rows
  least_rows_outputs [] h m e = tt
  least_rows_outputs (g ∷ gs) h m e =
      let f = free_first (is_stuck n g (m 0)) (any_stuck n gs (rest m)) e in (
        candidate_outputs n g h.0 (m 0) (least_row n q s g (m 0)) (least_row_attains n q s g h.0 (m 0) f.0).candidate,
        least_rows_outputs gs h.1 (rest m) f.1,
      )

  -- their values are the units' least values
  units_attained : (gs : List Generator) → All GoodUnit gs → (m : Marks) → any_stuck n gs m ≡ false → rows_value n q s gs (least_rows n q s gs m) ≡ units_least n q s gs m
  unfolding least_rows units_least rows_value
  units_attained [] h m e = refl
  units_attained (g ∷ gs) h m e =
      let f = free_first (is_stuck n g (m 0)) (any_stuck n gs (rest m)) e in
      ap₂ ◌+ℤ◌ (least_row_attains n q s g h.0 (m 0) f.0).least (units_attained gs h.1 (rest m) f.1)

-- and what the periods require, are the leaf's value
pub leaf_attained : (P : Instance) → All GoodUnit P.units → (m : Marks) (q s : ℕ → ℕ) → any_stuck P.periods P.units m ≡ false
    → rows_value P.periods q s P.units (least_rows P.periods q s P.units m) +ℤ pos (requirement P q s) ≡ leaf_value P m q s
unfolding leaf_value
leaf_attained P h m q s e = ap (λ (z : ℤ). z +ℤ pos (requirement P q s)) (units_attained P.periods q s P.units h m e)

-- ---- a shortfall

-- with it the rows give D, and there is none where they give as much
pub shortfall_is : (P : Instance) (rows : Schedule) (t : ℕ)
    → (output P rows t < P.demand at t → output P rows t + shortfall P rows t ≡ P.demand at t) × (P.demand at t ≤ output P rows t → shortfall P rows t ≡ 0)
unfolding shortfall
shortfall_is P rows t = (λ h. omega arith, λ h. omega arith)
