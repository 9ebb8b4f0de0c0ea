-- What the code follows for a price leaf: the best output of a period on, the walk of a unit, and the sums over units.
-- (q + s)·pU is added to every period of a unit, so that no term is negative; `offset` is what was added.
use Rattle.std.specs.Prelude.{Bool, true, false, cond, ◌||◌, List, [], ◌∷◌, ℕ, zero, suc, ◌+◌, ◌*◌, ◌-◌, ◌/◌, ◌≤◌, ◌<◌, min, leb, eqb, ℤ, pos, ◌-ℤ◌}
use Rattle.std.proofs.Math.Option.{Option, none, some}
use Rattle.model.specs.declared.generator.Generator.{Generator}
use Rattle.model.specs.Instance.{sum}
use Rattle.model.specs.Above.{Mark, Marks, rest}
use Rattle.model.specs.Walk.{walk}

-- ---- one period on

-- what a unit on at p costs, where each unit of output costs x and each unit short of pU costs y
unfoldable pub on_value : Generator → ℕ → ℕ → ℕ → ℕ
on_value g x y p = g.a + x * p + g.c * p * p + y * (g.pU - p)

-- the smallest p with x + c·(2p + 1) at least y, brought back to pL .. pU: one more unit of output costs the one and saves
-- the other
unfoldable pub best_at : Generator → ℕ → ℕ → ℕ
best_at g x y =
    cond (leb y (x + g.c * (2 * g.pL + 1))) g.pL
    (cond (eqb g.c 0) g.pU (min g.pU ((y - x - g.c + (2 * g.c - 1)) / (2 * g.c))))

-- r is the smallest of the outputs from pL to pU whose cost is least
pub record BestAt (g : Generator) (x y r : ℕ) : Type 0 where
  pub low : g.pL ≤ r
  pub high : r ≤ g.pU
  pub least : (p : ℕ) → g.pL ≤ p → p ≤ g.pU → on_value g x y r ≤ on_value g x y p
  pub first : (p : ℕ) → g.pL ≤ p → p < r → on_value g x y r < on_value g x y p

-- what a period costs by its status: off z, on at the best output
abbrev pub period_worth : Generator → ℕ → ℕ → ℕ → Bool → ℕ
period_worth g x y z true = on_value g x y (best_at g x y)
period_worth g x y z false = z

-- ---- at the price q and the reserve price s

-- a + b·p + c·p·p - q·p, with q·pU added
abbrev pub priced : Generator → ℕ → ℕ → ℕ
priced g q p = on_value g g.b q p

abbrev pub best_output : Generator → ℕ → ℕ
best_output g q = best_at g g.b q

-- a + b·p + c·p·p - q·p - s·pU on at the best output and 0 off, with (q + s)·pU added
abbrev pub worth : Generator → ℕ → ℕ → Bool → ℕ
worth g q s = period_worth g g.b q ((q + s) * g.pU)

-- ---- one unit

-- a unit's walk from the state before period 1; coded
unfoldable pub price_walk : ℕ → (ℕ → ℕ) → (ℕ → ℕ) → Generator → (ℕ → Mark) → ℕ
price_walk n q s g m = walk n g m (λ t. worth g (q t) (s t)) g.on g.since

-- what was added
unfoldable pub offset : ℕ → (ℕ → ℕ) → (ℕ → ℕ) → Generator → ℕ
offset n q s g = sum n (λ t. (q t + s t) * g.pU)

-- a coded value less what was added to it
abbrev pub decoded : ℕ → ℕ → Option ℤ
decoded zero K = none
decoded (suc v) K = some (pos v -ℤ pos K)

-- ---- all units

-- whether a unit's walk finds nothing
unfoldable pub price_stuck : ℕ → (ℕ → ℕ) → (ℕ → ℕ) → List Generator → Marks → Bool
price_stuck n q s [] m = false
price_stuck n q s (g ∷ gs) m = eqb (price_walk n q s g (m 0)) 0 || price_stuck n q s gs (rest m)

-- the sum of the values, where no unit is stuck
unfoldable pub price_walks : ℕ → (ℕ → ℕ) → (ℕ → ℕ) → List Generator → Marks → ℕ
price_walks n q s [] m = 0
price_walks n q s (g ∷ gs) m = price_walk n q s g (m 0) - 1 + price_walks n q s gs (rest m)

unfoldable pub offsets : ℕ → (ℕ → ℕ) → (ℕ → ℕ) → List Generator → ℕ
offsets n q s [] = 0
offsets n q s (g ∷ gs) = offset n q s g + offsets n q s gs
