-- How long the line of an answer is: with the figures that lodging a text can give, at most 64 bytes.
use Prim.Native.Nat.{ℕ, suc, ◌+◌, ◌≤◌, ◌<◌, ◌^◌}
use native.Mathlib.Omega.{arith}
use mathlib.Core.Path.{◌≡◌, ap}
use mathlib.Core.List.{List, [], ◌∷◌}
use lib.IntN.{pos, negsuc}
use lib.ListN.{length, length-append}
use Rattle.decimal.proofs.Digits.{width_below}
use Rattle.model.specs.Figures.{Bound}
use Rattle.std.specs.Prelude.{None as never, Some as number}
use Rattle.model.proofs.LeafSizes.{Fits}
use Rattle.writer.specs.Written.{figure, figure_of}
use Rattle.writer.specs.declared.Figure.{Figure}
use Rattle.writer.specs.declared.Figure.TheVariants.{Number}
use Rattle.answer.specs.StatedAnswers.{AnswerValues, no_values, its_cost, its_bound, Stated, refused, held, passed}
use Rattle.answer.specs.AnswerLines.{bound_figure, value_figures, ending, answer_line}

-- ---- small figures

-- a cost below 10^18, a bound that fits, counts below 10^7
abbrev pub SmallValues : AnswerValues → Type 0
SmallValues no_values = Unit {0}
SmallValues (its_cost c) = c < 1_000_000_000_000_000_000
SmallValues (its_bound F) = Fits F.bound × ((F.splits < 10_000_000) × (F.leaves < 10_000_000))

-- a number, a unit and a period below 100, a line below 10^7
abbrev pub Small : Stated → Type 0
Small (refused n l u t) = (n < 100) × ((l < 10_000_000) × ((u < 100) × (t < 100)))
Small (held v) = SmallValues v
Small (passed v) = SmallValues v

-- ---- their widths

number_width : (k n : ℕ) → n < 10 ^ suc k → length (figure (Number n)) ≤ suc k
unfolding figure
number_width k n h = width_below k n h

bound_width : (b : Bound) → Fits b → length (figure (bound_figure b)) ≤ 19
unfolding figure figure_of
bound_width never h = omega arith
bound_width (number (pos n)) h = omega (arith, width_below 17 n (omega (arith, h.0)))
bound_width (number (negsuc n)) h = omega (arith, width_below 17 (suc n) (omega (arith, h.1)))

-- ---- the line

-- a value more is its comma and its width more
ending_more : (f : Figure) (fs : List Figure) → length (ending (f ∷ fs)) ≡ suc (length (figure f) + length (ending fs))
ending_more f fs = ap suc (length-append (figure f) (ending fs))

ending_fits : (v : AnswerValues) → SmallValues v → length (ending (value_figures v)) ≤ 37
ending_fits no_values s = omega arith
ending_fits (its_cost c) s = omega (arith, ending_more (Number c) [], number_width 17 c s)
ending_fits (its_bound F) s =
    let b = F.bound in
    let m = F.splits in
    let n = F.leaves in
    omega (
      arith,
      ending_more (bound_figure b) (Number m ∷ Number n ∷ []),
      ending_more (Number m) (Number n ∷ []),
      ending_more (Number n) [],
      bound_width b s.0,
      number_width 6 m s.1.0,
      number_width 6 n s.1.1,
    )

-- document 01, The listing program: at most 64 bytes
pub line_fits : (a : Stated) → Small a → length (answer_line a) ≤ 64
unfolding answer_line
line_fits (refused n l u t) s =
    omega (
      arith,
      ending_more (Number n) (Number l ∷ Number u ∷ Number t ∷ []),
      ending_more (Number l) (Number u ∷ Number t ∷ []),
      ending_more (Number u) (Number t ∷ []),
      ending_more (Number t) [],
      number_width 1 n s.0,
      number_width 6 l s.1.0,
      number_width 1 u s.1.1.0,
      number_width 1 t s.1.1.1,
    )
line_fits (held v) s = omega (arith, ending_fits v s)
line_fits (passed v) s = omega (arith, ending_fits v s)
