-- What the numbers of each case of a bound are.
use Prim.Native.Nat.{ℕ}
use mathlib.Core.Path.{◌≡◌, refl, sym, ap, ◌∙◌}
use mathlib.Core.List.{List, [], ◌∷◌}
use lib.IntN.{pos, negsuc}
use Rattle.model.specs.Figures.{Bound}
use Rattle.std.specs.Prelude.{None as never, Some as number}
use Rattle.writer.specs.Written.{figure_of}
use Rattle.writer.specs.declared.Figure.{Figure}
use Rattle.writer.specs.declared.Figure.TheVariants.{Missing, Never, Number, Minus}
use Rattle.answer.specs.AnswerLines.{bound_figure}
use Rattle.answer.specs.AnswerNumbers.{bound_numbers}

abbrev pub figure_numbers : Figure → List ℕ
figure_numbers Missing = 4 ∷ 0 ∷ []
figure_numbers Never = 4 ∷ 0 ∷ []
figure_numbers (Number n) = 2 ∷ n ∷ []
figure_numbers (Minus n) = 3 ∷ n ∷ []

shown_is : (b : Bound) → figure_numbers (bound_figure b) ≡ bound_numbers b
unfolding figure_of
shown_is never = refl
shown_is (number (pos n)) = refl
shown_is (number (negsuc n)) = refl

-- f shows b, and is x
pub shown_as : (b : Bound) (f x : Figure) → f ≡ bound_figure b → f ≡ x → figure_numbers x ≡ bound_numbers b
shown_as b f x e h = ap figure_numbers (sym h ∙ e) ∙ shown_is b
