-- The answer to a lodged text as 16 numbers, for a program that reads no lines.
use Rattle.std.specs.Prelude.{List, [], ◌∷◌, ◌++◌, ℕ, suc, pos, negsuc}
use Rattle.model.specs.Figures.{Bound}
use Rattle.std.specs.Prelude.{None as never, Some as number}
use Rattle.model.specs.Held.{pad}
use Rattle.answer.specs.StatedAnswers.{AnswerValues, no_values, its_cost, its_bound, Stated, refused, held, passed}

-- a bound: 2 and a number of 0 or more, 3 and what follows the minus of one below 0, 4 and 0 for never
abbrev pub bound_numbers : Bound → List ℕ
bound_numbers (number (pos n)) = 2 ∷ n ∷ []
bound_numbers (number (negsuc n)) = 3 ∷ suc n ∷ []
bound_numbers never = 4 ∷ 0 ∷ []

-- what follows `held` or `passed`: 0 for a text that is neither schedule nor tree, 1 and a schedule's cost, a tree's bound, splits and leaves
abbrev pub value_numbers : AnswerValues → List ℕ
value_numbers no_values = 0 ∷ []
value_numbers (its_cost c) = 1 ∷ c ∷ []
value_numbers (its_bound F) = bound_numbers F.bound ++ (F.splits ∷ F.leaves ∷ [])

-- 0 for refused, 1 for held, 2 for passed; a refusal has 0, and then its number, line, unit and period
abbrev pub stated_numbers : Stated → List ℕ
stated_numbers (refused n l u t) = 0 ∷ 0 ∷ n ∷ l ∷ u ∷ t ∷ []
stated_numbers (held v) = 1 ∷ value_numbers v
stated_numbers (passed v) = 2 ∷ value_numbers v

-- and zeros after them, 16 numbers in all
unfoldable pub answer_numbers : Stated → List ℕ
answer_numbers s = pad 0 16 (stated_numbers s)
