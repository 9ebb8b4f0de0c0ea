-- Document 02, [6]: the value of a leaf with prices on the ramps. Periods count from 0 here: number t of a unit's multipliers is that of the step from
-- period t to period t + 1, so that the first belongs to the papers' period 2.
use Rattle.std.specs.Prelude.{◌≡◌, not, List, [], ◌∷◌, map, ℕ, zero, suc, pred, ℤ, pos, ◌+ℤ◌, ◌-ℤ◌, ◌*ℤ◌, get_or}
use Rattle.model.specs.declared.generator.Generator.{Generator}
use Rattle.model.specs.Instance.{Instance, ◌at◌}
use Rattle.model.specs.Ranges.{All}
use Rattle.model.specs.Rules.{on, if_on}
use Rattle.model.specs.Above.{Mark, Marks, rest}
use Rattle.model.specs.Leaf.{rows_of, least, value, requirement}

-- ---- one step, from the output p to the output p', whatever the statuses

-- (12), left side less right side: p' - (p + UR·u + pU·(1 - u))
abbrev pub over_rise : Generator → ℕ → ℕ → ℤ
over_rise g p p' = pos p' -ℤ (pos p +ℤ pos (if_on (on p) g.UR) +ℤ pos (if_on (not (on p)) g.pU))

-- (11), left side less right side: (p - DR·u - pU·(1 - u')) - p'
abbrev pub over_fall : Generator → ℕ → ℕ → ℤ
over_fall g p p' = (pos p -ℤ pos (if_on (on p) g.DR) -ℤ pos (if_on (not (on p')) g.pU)) -ℤ pos p'

-- ---- one unit, with its multipliers x of (12) and y of (11)

-- the sum over the first n periods, of integers
abbrev pub sumℤ : ℕ → (ℕ → ℤ) → ℤ
sumℤ zero f = pos 0
sumℤ (suc n) f = f 0 +ℤ sumℤ n (λ t. f (suc t))

-- what is added to a row's value: at each of its steps the up multiplier times (12) and the down multiplier times (11)
unfoldable pub ramp_charge : ℕ → (ℕ → ℕ) → (ℕ → ℕ) → Generator → List ℕ → ℤ
ramp_charge n x y g r =
    sumℤ (pred n) (λ t. (pos (x t) *ℤ over_rise g (r at t) (r at suc t)) +ℤ (pos (y t) *ℤ over_fall g (r at t) (r at suc t)))

unfoldable pub ramp_value : ℕ → (ℕ → ℕ) → (ℕ → ℕ) → (ℕ → ℕ) → (ℕ → ℕ) → Generator → List ℕ → ℤ
ramp_value n q s x y g r = value n q s g r +ℤ ramp_charge n x y g r

-- the least of it, over the rows of a price leaf's least
unfoldable pub ramp_least : ℕ → (ℕ → ℕ) → (ℕ → ℕ) → (ℕ → ℕ) → (ℕ → ℕ) → Generator → (ℕ → Mark) → ℤ
ramp_least n q s x y g m = least (map (ramp_value n q s x y g) (rows_of n g m))

-- ---- all units

-- multipliers by unit and step
abbrev pub Steps : Type 0
Steps = ℕ → ℕ → ℕ

-- those of the units after the first
abbrev pub rest_steps : Steps → Steps
rest_steps x u = x (suc u)

unfoldable pub ramp_leasts : ℕ → (ℕ → ℕ) → (ℕ → ℕ) → Steps → Steps → List Generator → Marks → ℤ
ramp_leasts n q s x y [] m = pos 0
ramp_leasts n q s x y (g ∷ gs) m = ramp_least n q s (x 0) (y 0) g (m 0) +ℤ ramp_leasts n q s (rest_steps x) (rest_steps y) gs (rest m)

unfoldable pub ramp_leaf_value : Instance → Marks → (ℕ → ℕ) → (ℕ → ℕ) → Steps → Steps → ℤ
ramp_leaf_value P m q s x y = ramp_leasts P.periods q s x y P.units m +ℤ pos (requirement P q s)

-- ---- as the lines of a leaf have them

-- a unit's multipliers of its steps: those of (12), and those of (11)
pub record RampPrices : Type 0 where
  pub up : List ℕ
  pub down : List ℕ

-- 0 throughout, for a unit that has no lines
abbrev pub unpriced : RampPrices
unpriced = record { up = []; down = [] }

abbrev pub ups : List RampPrices → Steps
ups l u t = (get_or l u unpriced).up at t

abbrev pub downs : List RampPrices → Steps
downs l u t = (get_or l u unpriced).down at t

-- every one of them 0
abbrev pub Unpriced : List RampPrices → Type 0
Unpriced l = All (λ x. All (λ v. v ≡ 0) x.up × All (λ v. v ≡ 0) x.down) l
