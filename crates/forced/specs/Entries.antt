-- How the code comes from the two walks to a unit's entries, coded, and from those to numbers.
use Rattle.std.specs.Prelude.{◌≡◌, Bool, true, false, cond, List, ℕ, ◌+◌, ◌*◌, ◌<◌, min, ℤ, length}
use Rattle.std.specs.Bool.{beq}
use Rattle.model.specs.declared.generator.Generator.{Generator}
use Rattle.model.specs.Instance.{◌at◌}
use Rattle.model.specs.Above.{Mark}
use Rattle.model.specs.Walk.{lesser}
use Rattle.model.specs.Prices.{decoded}
use Rattle.model.specs.Forced.{value_number, stuck_number}
use Rattle.model.specs.ForcedWalk.{both, least_upto, forced_walk}
use Rattle.runs.specs.Kept.{first_of, kept_in}

-- the least sum, over the states of a status, of a value of the periods passed and the one kept before period t; own is the run's that has not changed its status
abbrev pub entry_of : Generator → List ℕ → ℕ → Bool → List ℕ → ℕ → ℕ
entry_of g table t d l own =
    lesser (least_upto (min t (length l)) (λ i. both (l at i) (table at (t * 145 + first_of d + i)))) (cond (beq g.on d) (both own (kept_in g table t d (g.since + t))) 0)

-- the coded entries of the first r periods
abbrev pub Entered : ℕ → Generator → (ℕ → Mark) → (ℕ → Bool → ℕ) → ℕ → List ℕ → Type 0
Entered n g m w r l = (t : ℕ) → t < r → (l at (2 * t) ≡ forced_walk n g m w t false) × (l at (2 * t + 1) ≡ forced_walk n g m w t true)

-- the same of n periods, and no more
pub record Filled (n : ℕ) (g : Generator) (m : ℕ → Mark) (w : ℕ → Bool → ℕ) (l : List ℕ) : Type 0 where
  pub long : length l ≡ 2 * n
  pub entries : Entered n g m w n l

-- a coded entry, to which K was added, in two numbers
abbrev pub number_of : ℕ → ℕ → ℤ
number_of K e = value_number (decoded e K)

abbrev pub byte_of : ℕ → ℕ → ℕ
byte_of K e = stuck_number (decoded e K)
