-- Calls of `docket_lodge` one after the other on one state, and what a report asked of it gives.
use Rattle.std.specs.Prelude.{cond, ◌≡◌, List, [], ◌∷◌, ◌++◌, ◌⊎◌, ℕ, ◌+◌, ◌≤◌, ◌<◌, length, take, drop}
use Rattle.state.specs.Kept.{State}
use Rattle.docket_host.specs.HostAnswer.{too_little_room}
use Rattle.docket_host.specs.Calls.{lends, fresh_numbers, fresh_rows, lodge_numbers, lodge_rows}

-- a text, and what is lent for its answer
pub record Lending : Type 0 where
  pub text : List ℕ
  pub line : List ℕ
  pub values : List ℕ

-- the texts of the calls that were lent enough: the others do nothing
abbrev pub heard : List Lending → List (List ℕ)
heard [] = []
heard (c ∷ cs) = cond (lends c.line c.values) (c.text ∷ heard cs) (heard cs)

-- the state after `docket_fresh`
abbrev pub fresh_state : List ℕ → List ℕ → State
fresh_state v w = record { numbers = fresh_numbers v w; rows = fresh_rows v w }

-- and after a call, and after calls
abbrev pub called : State → Lending → State
called s c = record {
  numbers = lodge_numbers s.numbers s.rows c.text c.line c.values;
  rows = lodge_rows s.numbers s.rows c.text c.line c.values;
}

abbrev pub after_calls : State → List Lending → State
after_calls s [] = s
after_calls s (c ∷ cs) = after_calls (called s c) cs

-- a report of these lines at the place k of the buffer b: their length, and they stand there, the bytes outside as they were; or, exactly where from the
-- place on the buffer has no room for them, too little room, and the buffer is as it was
abbrev pub HostReport : (lines b : List ℕ) (k r : ℕ) (b' : List ℕ) → Type 0
HostReport lines b k r b' = ((k + length lines ≤ length b) × (r ≡ length lines) × (b' ≡ take k b ++ (lines ++ drop (k + length lines) b)))
    ⊎ ((length b < k + length lines) × (r ≡ too_little_room) × (b' ≡ b))
