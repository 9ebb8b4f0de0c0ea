-- Slices that hold a docket, what lodging a text makes of them, and the outputs of the schedule that they hold.
use Rattle.std.specs.Prelude.{◌≡◌, Bool, true, false, cond, List, ℕ, ◌*◌, eqb, ltb, leb, length, take, None, Option, Some, Result, Ok, Err}
use Rattle.model.specs.Instance.{◌at◌}
use Rattle.writer.specs.Written.{over}
use Rattle.answer.specs.declared.Answer.{Answer}
use Rattle.answer.specs.declared.Answer.TheVariants as answer
use Rattle.docket.specs.declared.Docket.{Docket}
use Rattle.docket.specs.declared.Lodged.{Lodged}
use Rattle.docket.specs.declared.held.CostBy.{CostBy}
use Rattle.docket.specs.Docket.{sound}
use Rattle.docket.specs.Lodging.{lodge_of}
use Rattle.state.specs.Layout.{layout_mark, state_numbers, docket_in}

-- ---- slices that hold a docket

-- they have room for a state
abbrev pub long : List ℕ → List ℕ → Bool
long v w = cond (ltb (length v) 618) false (leb 1536 (length w))

-- and they begin with the mark and are a sound docket's
unfoldable pub holds : List ℕ → List ℕ → Bool
holds v w = cond (eqb (v at 0) layout_mark) (sound (docket_in v w)) false

abbrev pub opened : List ℕ → List ℕ → Result Docket Docket
opened v w = cond (holds v w) (Ok (docket_in v w)) (Err (docket_in v w))

-- ---- a docket kept in slices: at their front

unfoldable pub kept_numbers : Docket → List ℕ → List ℕ
kept_numbers d v = over (state_numbers d) v

unfoldable pub kept_rows : Docket → List ℕ → List ℕ
kept_rows d w = over d.rows w

-- ---- a text lodged: the slices are written only where the answer says that the text is held

abbrev pub is_held : Answer → Bool
is_held (answer.Refused r) = false
is_held answer.TextHeld = true
is_held (answer.ScheduleHeld c) = true
is_held (answer.SchedulePassed c) = false
is_held (answer.TreeHeld f) = true
is_held (answer.TreePassed f) = false

unfoldable pub lodged_numbers : Lodged → List ℕ → List ℕ
lodged_numbers l v = cond (is_held l.answer) (kept_numbers l.docket v) v

unfoldable pub lodged_rows : Lodged → List ℕ → List ℕ
lodged_rows l w = cond (is_held l.answer) (kept_rows l.docket w) w

-- ---- the outputs of the held schedule, unit u's from u times T on; none where none is held

abbrev pub count_under : Option CostBy → ℕ → ℕ → ℕ
count_under None units periods = 0
count_under (Some n) units periods = units * periods

abbrev pub outputs_count : Docket → ℕ
outputs_count d = count_under d.held.cost d.problem.units d.problem.periods

unfoldable pub outputs_of : Docket → List ℕ
outputs_of d = take (outputs_count d) d.rows

-- ---- a state, and the state after a text was lodged in it

pub record State : Type 0 where
  pub numbers : List ℕ
  pub rows : List ℕ

-- a docket kept in two slices
abbrev pub docket_kept : Docket → List ℕ → List ℕ → State
docket_kept d v w = record { numbers = kept_numbers d v; rows = kept_rows d w }

abbrev pub state_next : State → List ℕ → State
state_next s text = record {
  numbers = lodged_numbers (lodge_of (docket_in s.numbers s.rows) text) s.numbers;
  rows = lodged_rows (lodge_of (docket_in s.numbers s.rows) text) s.rows;
}

-- the slices have room and hold this docket
pub record HoldsDocket (s : State) (d : Docket) : Type 0 where
  pub room : long s.numbers s.rows ≡ true
  pub is : holds s.numbers s.rows ≡ true
  pub docket_is : docket_in s.numbers s.rows ≡ d
