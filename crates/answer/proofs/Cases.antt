-- What a number of a bound is shown as.
use mathlib.Core.Path.{◌≡◌, sym, ap}
use lib.IntN.{ℤ}
use Rattle.model.specs.Figures.{Bound}
use Rattle.std.specs.Prelude.{Some as number}
use Rattle.writer.specs.Written.{figure_of}
use Rattle.answer.specs.AnswerLines.{bound_figure}

pub number_shown : (b : Bound) (z : ℤ) → b ≡ number z → figure_of z ≡ bound_figure b
number_shown b z e = sym (ap bound_figure e)
