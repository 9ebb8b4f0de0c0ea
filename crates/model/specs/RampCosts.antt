-- What the code follows for a ramp leaf: (11) and (12) taken apart by period, so that a period's cost depends on its own output alone and the walk of
-- a price leaf serves. Enough is added to every period that no term is negative; `ramp_offset` is what was added.
use Rattle.std.specs.Prelude.{Bool, ℕ, zero, suc, pred, ◌+◌, ◌*◌}
use Rattle.model.specs.declared.generator.Generator.{Generator}
use Rattle.model.specs.Instance.{sum}
use Rattle.model.specs.Above.{Mark}
use Rattle.model.specs.Prices.{period_worth}
use Rattle.model.specs.Walk.{walk}

-- of k steps, the multiplier of the one that begins with period t, 0 if none does
abbrev pub after : ℕ → (ℕ → ℕ) → ℕ → ℕ
after zero x t = 0
after (suc k) x zero = x 0
after (suc k) x (suc t) = after k (λ i. x (suc i)) t

-- and of the one that ends with it
abbrev pub before : (ℕ → ℕ) → ℕ → ℕ
before x zero = 0
before x (suc t) = x t

-- ---- one period on, with k steps

-- each unit of output costs b, and the multipliers of the rise into the period and of the fall out of it, which more output makes larger
abbrev pub dearer : ℕ → Generator → (ℕ → ℕ) → (ℕ → ℕ) → ℕ → ℕ
dearer k g x y t = g.b + (before x t + after k y t)

-- each unit short of pU costs q, and the multipliers of the rise out of the period and of the fall into it, which less output makes larger
abbrev pub gainful : ℕ → (ℕ → ℕ) → (ℕ → ℕ) → (ℕ → ℕ) → ℕ → ℕ
gainful k q x y t = q t + after k x t + before y t

-- ---- a period off, and what was added

abbrev pub off_cost : ℕ → Generator → (ℕ → ℕ) → (ℕ → ℕ) → (ℕ → ℕ) → (ℕ → ℕ) → ℕ → ℕ
off_cost k g q s x y t = (q t + s t) * g.pU + after k x t * g.UR + after k y t * g.DR

abbrev pub added : ℕ → Generator → (ℕ → ℕ) → (ℕ → ℕ) → (ℕ → ℕ) → (ℕ → ℕ) → ℕ → ℕ
added k g q s x y t = (gainful k q x y t + s t) * g.pU + after k x t * g.UR + after k y t * g.DR

-- ---- one unit

-- what period t costs by its status
abbrev pub ramp_worth : ℕ → Generator → (ℕ → ℕ) → (ℕ → ℕ) → (ℕ → ℕ) → (ℕ → ℕ) → ℕ → Bool → ℕ
ramp_worth k g q s x y t = period_worth g (dearer k g x y t) (gainful k q x y t) (off_cost k g q s x y t)

-- the unit's walk from the state before period 1; coded
unfoldable pub ramp_walk : ℕ → (ℕ → ℕ) → (ℕ → ℕ) → (ℕ → ℕ) → (ℕ → ℕ) → Generator → (ℕ → Mark) → ℕ
ramp_walk n q s x y g m = walk n g m (ramp_worth (pred n) g q s x y) g.on g.since

unfoldable pub ramp_offset : ℕ → (ℕ → ℕ) → (ℕ → ℕ) → (ℕ → ℕ) → (ℕ → ℕ) → Generator → ℕ
ramp_offset n q s x y g = sum n (added (pred n) g q s x y)
