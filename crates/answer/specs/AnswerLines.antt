-- Document 01, The listing program: the line that shows an answer.
use Rattle.std.specs.Prelude.{List, [], ◌∷◌, ◌++◌, ℕ}
use Rattle.model.specs.Figures.{Bound}
use Rattle.std.specs.Prelude.{None as never, Some as number}
use Rattle.writer.specs.Written.{figure, figure_of}
use Rattle.writer.specs.declared.Figure.{Figure}
use Rattle.writer.specs.declared.Figure.TheVariants.{Never, Number}
use Rattle.answer.specs.StatedAnswers.{AnswerValues, no_values, its_cost, its_bound, Stated, refused, held, passed}

-- a bound: never or a number, with its minus
abbrev pub bound_figure : Bound → Figure
bound_figure never = Never
bound_figure (number z) = figure_of z

-- what follows `held` or `passed`: a schedule's cost; a tree's bound, splits and leaves
abbrev pub value_figures : AnswerValues → List Figure
value_figures no_values = []
value_figures (its_cost c) = Number c ∷ []
value_figures (its_bound F) = bound_figure F.bound ∷ Number F.splits ∷ Number F.leaves ∷ []

-- how the line ends: the values, each behind a comma, and byte 10
abbrev pub ending : List Figure → List ℕ
ending [] = 10 ∷ []
ending (f ∷ fs) = 44 ∷ (figure f ++ ending fs)

-- answer=refused
abbrev pub refused_key : List ℕ
refused_key = 97 ∷ 110 ∷ 115 ∷ 119 ∷ 101 ∷ 114 ∷ 61 ∷ 114 ∷ 101 ∷ 102 ∷ 117 ∷ 115 ∷ 101 ∷ 100 ∷ []

-- answer=held
abbrev pub held_key : List ℕ
held_key = 97 ∷ 110 ∷ 115 ∷ 119 ∷ 101 ∷ 114 ∷ 61 ∷ 104 ∷ 101 ∷ 108 ∷ 100 ∷ []

-- answer=passed
abbrev pub passed_key : List ℕ
passed_key = 97 ∷ 110 ∷ 115 ∷ 119 ∷ 101 ∷ 114 ∷ 61 ∷ 112 ∷ 97 ∷ 115 ∷ 115 ∷ 101 ∷ 100 ∷ []

unfoldable pub answer_line : Stated → List ℕ
answer_line (refused n l u t) = refused_key ++ ending (Number n ∷ Number l ∷ Number u ∷ Number t ∷ [])
answer_line (held v) = held_key ++ ending (value_figures v)
answer_line (passed v) = passed_key ++ ending (value_figures v)
