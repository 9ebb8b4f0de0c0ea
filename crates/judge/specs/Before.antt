-- What stands before a period: for (5) to (10) document 01 counts from Tini on, period by period; for (11), (12) an output.
use Rattle.std.specs.Prelude.{Bool, List, [], ◌∷◌, ℕ, zero, suc}
use Rattle.model.specs.Instance.{◌at◌}
use Rattle.model.specs.Rules.{spent}

-- the status in the period before t of a run, b being the status before the run
abbrev pub status_before : Bool → List Bool → ℕ → Bool
status_before b run zero = b
status_before b [] (suc t) = b
status_before b (d ∷ run) (suc t) = status_before d run t

-- the periods just spent in it, k having been spent in b before the run
abbrev pub spent_before : Bool → ℕ → List Bool → ℕ → ℕ
spent_before b k run zero = k
spent_before b k [] (suc t) = k
spent_before b k (d ∷ run) (suc t) = spent_before d (spent b k d) run t

-- the output in the period before t of a row, m being that at midnight
abbrev pub output_before : ℕ → List ℕ → ℕ → ℕ
output_before m r zero = m
output_before m r (suc t) = r at t
