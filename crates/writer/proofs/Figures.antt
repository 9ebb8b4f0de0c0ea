-- What each figure is, and how long a line is.
use Prim.Native.Nat.{ℕ, ◌+◌}
use native.Mathlib.Omega.{arith}
use mathlib.Core.Path.{◌≡◌, refl}
use mathlib.Core.List.{List, [], ◌∷◌, ◌++◌}
use lib.ListN.{length, length-append}
use lib.IntN.{ℤ, pos, negsuc}
use Rattle.decimal.specs.Decimal.{shown_whole}
use Rattle.writer.specs.Written.{figure, figure_of, line}
use Rattle.writer.specs.declared.Figure.{Figure}

-- the figure of a whole number shows it
pub figure_shown : (z : ℤ) → figure (figure_of z) ≡ shown_whole z
unfolding figure figure_of
figure_shown (pos n) = refl
figure_shown (negsuc n) = refl

pub line_length : (key : List ℕ) (f : Figure) → length (line key f) ≡ length key + length (figure f) + 1
line_length key f = omega (arith, length-append key (figure f ++ (10 ∷ [])), length-append (figure f) (10 ∷ []))
