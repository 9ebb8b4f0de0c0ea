-- The numbers of answers of document 01, and those of its other cases, by computation.
use mathlib.Core.Path.{◌≡◌, refl}
use mathlib.Core.List.{[], ◌∷◌}
use lib.IntN.{pos, negsuc}
use Rattle.std.specs.Prelude.{None as never, Some as number}
use Rattle.model.specs.Held.{pad}
use Rattle.model.specs.Figures.{tree_gives}
use Rattle.answer.specs.StatedAnswers.{no_values, its_cost, its_bound, refused, held, passed}
use Rattle.answer.specs.AnswerNumbers.{answer_numbers}

-- answer=refused,25,0,1,2
ramp_refused : answer_numbers (refused 25 0 1 2)
    ≡ 0 ∷ 0 ∷ 25 ∷ 0 ∷ 1 ∷ 2 ∷ 0 ∷ 0 ∷ 0 ∷ 0 ∷ 0 ∷ 0 ∷ 0 ∷ 0 ∷ 0 ∷ 0 ∷ []
unfolding answer_numbers pad
ramp_refused = refl

-- answer=held
text_held : answer_numbers (held no_values)
    ≡ 1 ∷ 0 ∷ 0 ∷ 0 ∷ 0 ∷ 0 ∷ 0 ∷ 0 ∷ 0 ∷ 0 ∷ 0 ∷ 0 ∷ 0 ∷ 0 ∷ 0 ∷ 0 ∷ []
unfolding answer_numbers pad
text_held = refl

-- answer=held,1980
schedule_held : answer_numbers (held (its_cost 1980))
    ≡ 1 ∷ 1 ∷ 1980 ∷ 0 ∷ 0 ∷ 0 ∷ 0 ∷ 0 ∷ 0 ∷ 0 ∷ 0 ∷ 0 ∷ 0 ∷ 0 ∷ 0 ∷ 0 ∷ []
unfolding answer_numbers pad
schedule_held = refl

-- answer=passed,2060
schedule_passed : answer_numbers (passed (its_cost 2060))
    ≡ 2 ∷ 1 ∷ 2060 ∷ 0 ∷ 0 ∷ 0 ∷ 0 ∷ 0 ∷ 0 ∷ 0 ∷ 0 ∷ 0 ∷ 0 ∷ 0 ∷ 0 ∷ 0 ∷ []
unfolding answer_numbers pad
schedule_passed = refl

-- answer=held,1980,1,2
tree_held : answer_numbers (held (its_bound (tree_gives (number (pos 1980)) 1 2)))
    ≡ 1 ∷ 2 ∷ 1980 ∷ 1 ∷ 2 ∷ 0 ∷ 0 ∷ 0 ∷ 0 ∷ 0 ∷ 0 ∷ 0 ∷ 0 ∷ 0 ∷ 0 ∷ 0 ∷ []
unfolding answer_numbers pad
tree_held = refl

-- answer=passed,-30,0,1
minus_passed : answer_numbers (passed (its_bound (tree_gives (number (negsuc 29)) 0 1)))
    ≡ 2 ∷ 3 ∷ 30 ∷ 0 ∷ 1 ∷ 0 ∷ 0 ∷ 0 ∷ 0 ∷ 0 ∷ 0 ∷ 0 ∷ 0 ∷ 0 ∷ 0 ∷ 0 ∷ []
unfolding answer_numbers pad
minus_passed = refl

-- answer=held,never,1,2
never_held : answer_numbers (held (its_bound (tree_gives never 1 2)))
    ≡ 1 ∷ 4 ∷ 0 ∷ 1 ∷ 2 ∷ 0 ∷ 0 ∷ 0 ∷ 0 ∷ 0 ∷ 0 ∷ 0 ∷ 0 ∷ 0 ∷ 0 ∷ 0 ∷ []
unfolding answer_numbers pad
never_held = refl
