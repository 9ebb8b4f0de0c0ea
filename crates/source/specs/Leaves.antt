-- What document 01's rules for a leaf say in the paper's equations.
use Rattle.std.specs.Prelude.{◌≡◌, Bool, List, ℕ, suc, ◌*◌, ◌≤◌, ◌<◌, length}
use Rattle.model.specs.declared.generator.Generator.{Generator}
use Rattle.model.specs.Above.{Mark, fixed}
use Rattle.source.specs.Source.{nth, ToT, Bits, bit, u_row}

-- the statuses agree with those fixed, whose periods count from 0
abbrev pub Fits : (ℕ → Mark) → ℕ → (ℕ → ℕ) → Type 0
Fits m T u = (t : ℕ) (b : Bool) → t < T → m t ≡ fixed b → u (suc t) ≡ bit b

-- stuck: no statuses that obey (5) to (10) and (22) agree
abbrev pub NoStatuses : ℕ → Generator → (ℕ → Mark) → Type 0
NoStatuses T g m = (u : ℕ → ℕ) → Bits T u → ToT T g u → Fits m T u → ⊥

-- a row of a price leaf: T whole outputs that obey (4) and (5) to (10) and agree; no ramps
pub record LeafRow (T : ℕ) (g : Generator) (m : ℕ → Mark) (r : List ℕ) : Type 0 where
  pub long : length r ≡ T
  pub eq4 : (t : ℕ) → 1 ≤ t → t ≤ T → (u_row r t * g.pL ≤ nth r t) × (nth r t ≤ g.pU * u_row r t)
  pub eq5_10 : ToT T g (u_row r)
  pub fits : Fits m T (u_row r)
