-- `difference_figure` meets its contract: both are small, so that the difference fits.
use mathlib.Core.Path.{◌≡◌, ap, ap₂, ◌∙◌}
use native.Mathlib.Omega.{arith}
use lib.IntN.{pos, ◌-ℤ◌}
use mir.Syntax.{w64}
use mir.Val.{SFits, to_z, of_z}
use mir.Facts.{to_z_pos, to_z-of_z}
use borrow.Author.Rules.{rules}
use Rattle.writer.specs.Written.{figure_of}
use Rattle.docket.proofs.Differences.{gap_fits}
use Rattle.docket.proofs.figures.difference_figure.Goals as goal
use Rattle.docket.proofs.figures.difference_figure.Tie as tie
use Rattle.docket.proofs.figures.difference_figure.Reads as reads
use Rattle.docket.proofs.figures.difference_figure.Lts as lts

module _ (c : lts.Start tie.the-claims reads.Pre reads.Post) where
  -- what is computed from is the cost and the value
  difference : to_z w64 c.args.cost -ℤ to_z w64 (of_z w64 c.args.value) ≡ pos c.args.cost -ℤ c.args.value
  difference =
      let v : to_z w64 (of_z w64 c.args.value) ≡ c.args.value = search rules in
      ap₂ ◌-ℤ◌ (to_z_pos w64 (omega (arith, c.requires.0))) v

  fits : SFits w64 (to_z w64 c.args.cost -ℤ to_z w64 (of_z w64 c.args.value))
  fits = rw difference (gap_fits c.args.cost c.args.value c.requires.0 c.requires.1)

pub overflow_sub-cost : goal.overflow_sub-cost
overflow_sub-cost c = fits c

pub returns : goal.returns
returns c = c.from.ensures ∙ ap figure_of (to_z-of_z (fits c.before) ∙ difference c.before)
