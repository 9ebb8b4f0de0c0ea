-- Answer lines of document 01, and those of its other cases, by computation.
use mathlib.Core.Path.{◌≡◌, refl}
use mathlib.Core.List.{[], ◌∷◌}
use lib.IntN.{pos, negsuc}
use Rattle.decimal.specs.Decimal.{digits, digits_by}
use Rattle.writer.specs.Written.{figure, figure_of}
use Rattle.std.specs.Prelude.{None as never, Some as number}
use Rattle.model.specs.Figures.{tree_gives}
use Rattle.answer.specs.StatedAnswers.{no_values, its_cost, its_bound, refused, held, passed}
use Rattle.answer.specs.AnswerLines.{answer_line}

-- answer=held
text_held : answer_line (held no_values)
    ≡ 97 ∷ 110 ∷ 115 ∷ 119 ∷ 101 ∷ 114 ∷ 61 ∷ 104 ∷ 101 ∷ 108 ∷ 100 ∷ 10 ∷ []
unfolding answer_line figure figure_of digits digits_by
text_held = refl

-- answer=held,1980
schedule_held : answer_line (held (its_cost 1980))
    ≡ 97 ∷ 110 ∷ 115 ∷ 119 ∷ 101 ∷ 114 ∷ 61 ∷ 104 ∷ 101 ∷ 108 ∷ 100 ∷ 44 ∷ 49 ∷ 57 ∷ 56 ∷ 48 ∷ 10 ∷ []
unfolding answer_line figure figure_of digits digits_by
schedule_held = refl

-- answer=held,1980,1,2
tree_held : answer_line (held (its_bound (tree_gives (number (pos 1980)) 1 2)))
    ≡ 97 ∷ 110 ∷ 115 ∷ 119 ∷ 101 ∷ 114 ∷ 61 ∷ 104 ∷ 101 ∷ 108 ∷ 100 ∷ 44 ∷ 49 ∷ 57 ∷ 56 ∷ 48 ∷ 44 ∷ 49 ∷ 44 ∷ 50 ∷ 10 ∷ []
unfolding answer_line figure figure_of digits digits_by
tree_held = refl

-- answer=refused,11,0,0,0
too_much : answer_line (refused 11 0 0 0)
    ≡ 97 ∷ 110 ∷ 115 ∷ 119 ∷ 101 ∷ 114 ∷ 61 ∷ 114 ∷ 101 ∷ 102 ∷ 117 ∷ 115 ∷ 101 ∷ 100 ∷ 44 ∷ 49 ∷ 49 ∷ 44 ∷ 48 ∷ 44 ∷ 48 ∷ 44 ∷ 48 ∷ 10 ∷ []
unfolding answer_line figure figure_of digits digits_by
too_much = refl

-- answer=held,never,1,2
never_held : answer_line (held (its_bound (tree_gives never 1 2)))
    ≡ 97 ∷ 110 ∷ 115 ∷ 119 ∷ 101 ∷ 114 ∷ 61 ∷ 104 ∷ 101 ∷ 108 ∷ 100 ∷ 44 ∷ 110 ∷ 101 ∷ 118 ∷ 101 ∷ 114 ∷ 44 ∷ 49 ∷ 44 ∷ 50 ∷ 10 ∷ []
unfolding answer_line figure figure_of digits digits_by
never_held = refl

-- answer=passed,-30,0,1
minus_passed : answer_line (passed (its_bound (tree_gives (number (negsuc 29)) 0 1)))
    ≡ 97 ∷ 110 ∷ 115 ∷ 119 ∷ 101 ∷ 114 ∷ 61 ∷ 112 ∷ 97 ∷ 115 ∷ 115 ∷ 101 ∷ 100 ∷ 44 ∷ 45 ∷ 51 ∷ 48 ∷ 44 ∷ 48 ∷ 44 ∷ 49 ∷ 10 ∷ []
unfolding answer_line figure figure_of digits digits_by
minus_passed = refl
