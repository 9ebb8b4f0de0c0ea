-- What the code follows for forced statuses: a table of the periods passed, for each state the least cost of the runs that end in it, goes forward one period at a
-- time; joined with the values of the periods left, it gives what a walk with the status fixed gives (proofs/ForcedWalks). Coded values.
use Rattle.std.specs.Prelude.{◌≡◌, Bool, cond, ◌&&◌, ℕ, zero, suc, ◌+◌, ◌≤◌, ◌<◌, T}
use Rattle.model.specs.declared.generator.Generator.{Generator}
use Rattle.model.specs.Rules.{permits, spent}
use Rattle.model.specs.Cost.{switch_cost}
use Rattle.model.specs.Above.{Mark, allows}
use Rattle.model.specs.Forced.{force}
use Rattle.model.specs.Walk.{Values, lesser, walk, cap}
use Rattle.model.specs.Ends.{capped}

-- a unit's walk with the status d forced in period t, where it is not fixed the other way
unfoldable pub forced_walk : ℕ → Generator → (ℕ → Mark) → (ℕ → Bool → ℕ) → ℕ → Bool → ℕ
forced_walk n g m w t d = cond (allows (m t) d) (walk n g (force t d m) w g.on g.since) 0

-- ---- coded values

-- the sum of two
unfoldable pub both : ℕ → ℕ → ℕ
both zero y = 0
both (suc x) zero = 0
both (suc x) (suc y) = suc (x + y)

-- the least of f 0 .. f (n - 1)
unfoldable pub least_upto : ℕ → (ℕ → ℕ) → ℕ
least_upto zero f = 0
least_upto (suc n) f = lesser (least_upto n f) (f n)

-- ---- one period forward

-- after k periods in b the status d can follow, in a period whose mark is m
abbrev pub may : Generator → Mark → Bool → ℕ → Bool → Type 0
may g m b k d = T (permits g b k d && allows m d)

-- a state of the table
abbrev pub State : Generator → Bool → ℕ → Type 0
State g b k = (1 ≤ k) × (k ≤ cap g b)

-- from X before a period, which costs w d in the status d, to Y after it: a state's value is the least over the states from which a status leads to it
pub record Ahead (g : Generator) (m : Mark) (w : Bool → ℕ) (X Y : Values) : Type 0 where
  pub below : (b : Bool) (k : ℕ) (d : Bool) → State g b k → 0 < X b k → may g m b k d
      → (0 < Y d (capped g d (spent b k d))) × (Y d (capped g d (spent b k d)) ≤ switch_cost g b k d + w d + X b k)
  pub attained : (d : Bool) (k : ℕ) → 0 < Y d k
      → (b : Bool) × (i : ℕ) × State g b i × (0 < X b i) × may g m b i d × (capped g d (spent b i d) ≡ k) × (Y d k ≡ switch_cost g b i d + w d + X b i)

-- ---- an entry

-- the least, over the states of the status d, of the sum of X and Y
pub record Joined (g : Generator) (d : Bool) (X Y : Values) (entry : ℕ) : Type 0 where
  pub below : (k : ℕ) → State g d k → 0 < X d k → 0 < Y d k → (0 < entry) × (entry ≤ both (X d k) (Y d k))
  pub attained : 0 < entry → (k : ℕ) × State g d k × (0 < X d k) × (0 < Y d k) × (entry ≡ both (X d k) (Y d k))
