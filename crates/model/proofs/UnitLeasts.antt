-- A unit's least value says what its name says, at prices and with prices on its ramps: no row's value is less, and one row has it; and it is taken from
-- no row only where the unit is stuck.
use mathlib.Core.Path.{◌≡◌, refl, ◌∙◌}
use mathlib.Core.Bool.{not}
use mathlib.Core.List.Memᴰ
use mathlib.Core.List.{List, [], ◌∷◌, map, Memᴰ}
use Prim.Native.Nat.{ℕ}
use lib.Dec.{T}
use lib.ListN.{length-map}
use lib.IntN.{ℤ, pos}
use lib.Signed.{◌≤ℤ◌}
use Rattle.model.specs.declared.generator.Generator.{Generator}
use Rattle.model.specs.Ranges.{GoodUnit}
use Rattle.model.specs.Rules.{on, statuses}
use Rattle.model.specs.Above.{Mark}
use Rattle.model.specs.Leaf.{least, is_stuck, rows_of, value, unit_least}
use Rattle.model.specs.Ramps.{ramp_value, ramp_least}
use Rattle.model.specs.Prices.{worth, best_output}
use Rattle.model.proofs.Integers.{least_le}
use Rattle.model.proofs.Leasts.{least_mem}
use Rattle.model.specs.Agreement.{Candidate}
use Rattle.model.proofs.Candidates.{rows_of_are}
use Rattle.model.proofs.WalkRows.{walk_attained}
use Rattle.model.proofs.Stuck.{stuck→none, not_stuck_walk}
use Rattle.model.proofs.PriceWalks.{shifted, shifted_cheapest}

module _ (n : ℕ) (g : Generator) (m : ℕ → Mark) where
  -- a unit that is not stuck has a row
  pub candidate : GoodUnit g → T (not (is_stuck n g m)) → (r : List ℕ) × Candidate n g m r
  candidate good t =
      let a = walk_attained g good.in_range.pL_in.0 n m (λ t. shifted g 0 0) (λ t. worth g 0 0) (λ t. best_output g 0)
      (λ t. shifted_cheapest g good 0 0)
      (not_stuck_walk n g m t (λ t. worth g 0 0)) in
      (a.0, a.1)

  -- ---- whatever a row's value is

  module _ (val : List ℕ → ℤ) where
    -- no row's value is less
    rows_below : (r : List ℕ) → Candidate n g m r → least (map val (rows_of n g m)) ≤ℤ val r
    rows_below r C = least_le (map val (rows_of n g m)) (Memᴰ.map val ((rows_of_are n g m r).1 C))

    -- one of the rows has the least value
    rows_attained : GoodUnit g → T (not (is_stuck n g m)) → (r : List ℕ) × Candidate n g m r × (val r ≡ least (map val (rows_of n g m)))
    rows_attained good t =
        go (rows_of n g m) (λ r k. (rows_of_are n g m r).0 k) (λ h. let c = candidate good t in h c.0 ((rows_of_are n g m c.0).1 c.1))
      where
        go : (l : List (List ℕ)) → ((r : List ℕ) → Memᴰ r l → Candidate n g m r) → (((r : List ℕ) → Memᴰ r l → ⊥) → ⊥)
            → (r : List ℕ) × Candidate n g m r × (val r ≡ least (map val l))
        go [] h k = absurd (k (λ r i. Memᴰ.not-nil i))
        go (r ∷ l) h k = let i = Memᴰ.of_map val (r ∷ l) (least_mem (val r) (map val l)) in (i.0, h i.0 i.1, i.2)

    -- a stuck unit has no row
    rows_stuck : T (is_stuck n g m) → least (map val (rows_of n g m)) ≡ pos 0
    rows_stuck t = go (rows_of n g m) (λ r k. none r ((rows_of_are n g m r).0 k))
      where
        none : (r : List ℕ) → Candidate n g m r → ⊥
        none r C = stuck→none n g m t (statuses r) (length-map r on ∙ C.long) C.run

        go : (l : List (List ℕ)) → ((r : List ℕ) → Memᴰ r l → ⊥) → least (map val l) ≡ pos 0
        go [] h = refl
        go (r ∷ l) h = absurd (h r (Memᴰ.head refl))

-- ---- at prices

module _ (n : ℕ) (q s : ℕ → ℕ) (g : Generator) (m : ℕ → Mark) where
  pub unit_least_below : (r : List ℕ) → Candidate n g m r → unit_least n q s g m ≤ℤ value n q s g r
  unfolding unit_least
  unit_least_below = rows_below n g m (value n q s g)

  pub unit_least_attained : GoodUnit g → T (not (is_stuck n g m)) → (r : List ℕ) × Candidate n g m r × (value n q s g r ≡ unit_least n q s g m)
  unfolding unit_least
  unit_least_attained = rows_attained n g m (value n q s g)

  pub stuck_least : T (is_stuck n g m) → unit_least n q s g m ≡ pos 0
  unfolding unit_least
  stuck_least = rows_stuck n g m (value n q s g)

-- ---- with prices on the ramps

module _ (n : ℕ) (q s x y : ℕ → ℕ) (g : Generator) (m : ℕ → Mark) where
  pub ramp_least_below : (r : List ℕ) → Candidate n g m r → ramp_least n q s x y g m ≤ℤ ramp_value n q s x y g r
  unfolding ramp_least
  ramp_least_below = rows_below n g m (ramp_value n q s x y g)

  pub ramp_least_attained : GoodUnit g → T (not (is_stuck n g m)) → (r : List ℕ) × Candidate n g m r × (ramp_value n q s x y g r ≡ ramp_least n q s x y g m)
  unfolding ramp_least
  ramp_least_attained = rows_attained n g m (ramp_value n q s x y g)

  pub stuck_ramp_least : T (is_stuck n g m) → ramp_least n q s x y g m ≡ pos 0
  unfolding ramp_least
  stuck_ramp_least = rows_stuck n g m (ramp_value n q s x y g)
