-- The state that a run of statuses ends in: its last status, and for how many periods that has lasted.
use Rattle.std.specs.Prelude.{Bool, List, [], ◌∷◌, ℕ, min}
use Rattle.model.specs.declared.generator.Generator.{Generator}
use Rattle.model.specs.Rules.{spent}
use Rattle.model.specs.Walk.{cap}

-- after k periods in the status b and a run
abbrev pub last : Bool → List Bool → Bool
last b [] = b
last b (d ∷ run) = last d run

abbrev pub lasted : Bool → ℕ → List Bool → ℕ
lasted b k [] = k
lasted b k (d ∷ run) = lasted d (spent b k d) run

-- a count of periods up to where more make no difference
abbrev pub capped : Generator → Bool → ℕ → ℕ
capped g b k = min k (cap g b)
