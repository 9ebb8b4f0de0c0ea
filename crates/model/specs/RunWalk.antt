-- What the code follows for the run behind a least value: forward from the state before period 1, off where that is no worse. It is the first row that has
-- the least value (proofs/LeastRows).
use Rattle.std.specs.Prelude.{Bool, true, false, not, List, [], ◌∷◌, ℕ, zero, suc, leb}
use Rattle.model.specs.declared.generator.Generator.{Generator}
use Rattle.model.specs.Rules.{if_on, spent}
use Rattle.model.specs.Above.{Mark}
use Rattle.model.specs.Walk.{move, walk}
use Rattle.model.specs.Prices.{best_output, worth}

-- of two coded values the first is no worse: it is there, and the second is not, or is no less
unfoldable pub no_worse : ℕ → ℕ → Bool
no_worse zero y = false
no_worse (suc x) zero = true
no_worse (suc x) (suc y) = leb (suc x) (suc y)

-- after k periods in b the status d in the next, with the least value of the n periods after it
abbrev pub branch : ℕ → Generator → (ℕ → Mark) → (ℕ → Bool → ℕ) → Bool → ℕ → Bool → ℕ
branch n g m w b k d = move g (m 0) (w 0 d) b k d (walk n g (λ t. m (suc t)) (λ t. w (suc t)) d (spent b k d))

-- on, unless off is no worse
abbrev pub next_status : ℕ → Generator → (ℕ → Mark) → (ℕ → Bool → ℕ) → Bool → ℕ → Bool
next_status n g m w b k = not (no_worse (branch n g m w b k false) (branch n g m w b k true))

-- the statuses of the n periods left
unfoldable pub first_run : ℕ → Generator → (ℕ → Mark) → (ℕ → Bool → ℕ) → Bool → ℕ → List Bool
first_run zero g m w b k = []
first_run (suc n) g m w b k =
    let d = next_status n g m w b k in
    d ∷ first_run n g (λ t. m (suc t)) (λ t. w (suc t)) d (spent b k d)

-- the row of a run that has the output o t in each period t on
abbrev pub row_of : (ℕ → ℕ) → List Bool → List ℕ
row_of o [] = []
row_of o (d ∷ run) = if_on d (o 0) ∷ row_of (λ t. o (suc t)) run

-- a unit's row: its statuses from the state before period 1, on at the best output
unfoldable pub walked_row : ℕ → (ℕ → ℕ) → (ℕ → ℕ) → Generator → (ℕ → Mark) → List ℕ
walked_row n q s g m = row_of (λ t. best_output g (q t)) (first_run n g m (λ t. worth g (q t) (s t)) g.on g.since)
