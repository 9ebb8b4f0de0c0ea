-- What a text is found to be at its place in a list: refused, or accepted with what it gives.
use Rattle.std.specs.Prelude.{List, [], ◌∷◌, ℕ}
use Rattle.std.proofs.Math.Option.{Option, none, some}
use Rattle.model.specs.Instance.{Instance, Schedule}
use Rattle.refusal.specs.declared.Refusal.{Refusal}
use Rattle.tree.specs.Acceptance.{Bounded}

-- an accepted schedule
pub record Costed : Type 0 where
  pub writer : ℕ
  pub cost : ℕ
  pub rows : Schedule

-- an accepted tree gives its writer, bound, splits and leaves: Bounded
pub data Verdict : Type 0 where
  refused : Refusal → Verdict
  problem : Instance → Verdict
  schedule : Costed → Verdict
  tree : Bounded → Verdict

-- the accepted schedules and the accepted trees, in order
abbrev pub schedules : List Verdict → List Costed
schedules [] = []
schedules (refused r ∷ vs) = schedules vs
schedules (problem P ∷ vs) = schedules vs
schedules (schedule s ∷ vs) = s ∷ schedules vs
schedules (tree F ∷ vs) = schedules vs

abbrev pub trees : List Verdict → List Bounded
trees [] = []
trees (refused r ∷ vs) = trees vs
trees (problem P ∷ vs) = trees vs
trees (schedule s ∷ vs) = trees vs
trees (tree F ∷ vs) = F ∷ trees vs

-- document 01, The list of demand 3: for 41 and 42 only the first accepted problem counts, from the next text on
abbrev pub known_after : Option Instance → Verdict → Option Instance
known_after (some P) v = some P
known_after none (refused r) = none
known_after none (problem P) = some P
known_after none (schedule s) = none
known_after none (tree F) = none

abbrev pub known_at_end : Option Instance → List Verdict → Option Instance
known_at_end o [] = o
known_at_end o (v ∷ vs) = known_at_end (known_after o v) vs
