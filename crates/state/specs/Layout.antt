-- A docket as two lists of numbers. The first has 618: a mark, whether a problem is known, three for the held cost, three for the held bound,
-- and the 610 of the problem. The second has the 1,536 outputs of the held schedule. What a slice holds after them is its owner's.
use Rattle.std.specs.Prelude.{not, cond, List, [], ◌∷◌, ◌++◌, ℕ, eqb, ltb, ℤ, pos, ◌-ℤ◌, take, drop, None, Option, Some}
use Rattle.model.specs.Instance.{◌at◌}
use Rattle.layout.specs.Numbers.{laid_out, problem_in}
use Rattle.writer.specs.Written.{figure_of}
use Rattle.writer.specs.declared.Figure.{Figure}
use Rattle.writer.specs.declared.Figure.TheVariants.{Missing, Never, Number, Minus}
use Rattle.docket.specs.declared.Docket.{Docket}
use Rattle.docket.specs.declared.held.Held.{Held}
use Rattle.docket.specs.declared.held.CostBy.{CostBy}
use Rattle.docket.specs.declared.held.HeldBound.{HeldBound}
use Rattle.docket.specs.declared.held.HeldBound.TheVariants as bound

abbrev pub numbers_count : ℕ
numbers_count = 618

abbrev pub rows_count : ℕ
rows_count = 1536

-- 'DOCKET' in bytes, and the number of this layout: 2
abbrev pub layout_mark : ℕ
layout_mark = 19227448860562434

-- ---- a docket's numbers

-- 0 for none, or 1, and the cost with its writer
abbrev pub cost_numbers : Option CostBy → List ℕ
cost_numbers None = 0 ∷ 0 ∷ 0 ∷ []
cost_numbers (Some n) = 1 ∷ n.cost ∷ n.writer ∷ []

-- 0 for none, 1 and the number, 2 and what follows its minus, or 3 for never, with the writer
abbrev pub figure_numbers : Figure → ℕ → List ℕ
figure_numbers Missing w = 0 ∷ 0 ∷ 0 ∷ []
figure_numbers Never w = 3 ∷ 0 ∷ w ∷ []
figure_numbers (Number n) w = 1 ∷ n ∷ w ∷ []
figure_numbers (Minus n) w = 2 ∷ n ∷ w ∷ []

abbrev pub held_bound_numbers : HeldBound → List ℕ
held_bound_numbers bound.Nothing = 0 ∷ 0 ∷ 0 ∷ []
held_bound_numbers (bound.Number n) = figure_numbers (figure_of n.value) n.writer
held_bound_numbers (bound.Never n) = 3 ∷ 0 ∷ n.writer ∷ []

abbrev pub head : Docket → List ℕ
head d = layout_mark ∷ cond d.known 1 0 ∷ []

unfoldable pub state_numbers : Docket → List ℕ
state_numbers d = ((head d ++ cost_numbers d.held.cost) ++ held_bound_numbers d.held.bound) ++ laid_out d.problem

-- ---- and the docket of such numbers

-- 2^62, larger than every figure of a sound docket: what is read for a figure that is larger, or for three numbers that are none of those above
abbrev pub size_room : ℕ
size_room = 4611686018427387904

abbrev pub cost_in : ℕ → ℕ → ℕ → Option CostBy
cost_in tag c w =
    cond (eqb tag 0) None (cond (eqb tag 1) (Some (record { cost = c; writer = w })) (Some (record { cost = size_room; writer = w })))

abbrev pub value_in : ℕ → ℕ → ℤ
value_in tag n = cond (ltb n size_room) (cond (eqb tag 1) (pos n) (cond (eqb tag 2) (pos 0 -ℤ pos n) (pos size_room))) (pos size_room)

abbrev pub bound_in : ℕ → ℕ → ℕ → HeldBound
bound_in tag n w =
    cond (eqb tag 0) bound.Nothing (cond (eqb tag 3) (bound.Never (record { writer = w })) (bound.Number (record { value = value_in tag n; writer = w })))

abbrev pub held_in : List ℕ → Held
held_in v = record { cost = cost_in (v at 2) (v at 3) (v at 4); bound = bound_in (v at 5) (v at 6) (v at 7) }

unfoldable pub docket_in : List ℕ → List ℕ → Docket
docket_in v w = record { known = not (eqb (v at 1) 0); problem = problem_in (drop 8 v); held = held_in v; rows = take 1536 w }
