-- Lines of document 01's report, by computation.
use mathlib.Core.Path.{◌≡◌, refl}
use mathlib.Core.List.{[], ◌∷◌}
use lib.IntN.{pos}
use Rattle.decimal.specs.Decimal.{digits, digits_by}
use Rattle.writer.specs.Written.{over, figure, figure_of, line}
use Rattle.writer.specs.declared.Figure.TheVariants.{Missing, Number}

-- gap=0
gap : line (103 ∷ 97 ∷ 112 ∷ 61 ∷ []) (figure_of (pos 0)) ≡ 103 ∷ 97 ∷ 112 ∷ 61 ∷ 48 ∷ 10 ∷ []
unfolding figure figure_of digits digits_by
gap = refl

-- cost=none
no_cost : line (99 ∷ 111 ∷ 115 ∷ 116 ∷ 61 ∷ []) Missing ≡ 99 ∷ 111 ∷ 115 ∷ 116 ∷ 61 ∷ 110 ∷ 111 ∷ 110 ∷ 101 ∷ 10 ∷ []
unfolding figure
no_cost = refl

-- what is behind stays
rest_stays : over (figure (Number 7)) (1 ∷ 2 ∷ 3 ∷ []) ≡ 55 ∷ 2 ∷ 3 ∷ []
unfolding figure digits digits_by
rest_stays = refl
