-- What is shown is the size, behind a minus below 0.
use borrow.Author.Rules.{rules}
use mathlib.Core.Path.{◌≡◌, ap, ◌∙◌}
use mir.Syntax.{w64}
use mir.Val.{to_z, of_z}
use Rattle.writer.specs.declared.Figure.TheVariants.{Number, Minus}
use Rattle.writer.proofs.Sizes.{minus_is, number_is}
use Rattle.writer.proofs.FigureFromI64.from.Goals as goal

pub returns-then-z-lt0 : goal.returns-then-z-lt0
returns-then-z-lt0 c =
    let b : to_z w64 (of_z w64 c.args.z) ≡ c.args.z = search rules in
    ap Minus (rw b at c.unsigned_abs-size.ensures.value) ∙ minus_is c.args.z (rw b at c.if-z-lt0.true)

pub returns : goal.returns
returns c =
    let b : to_z w64 (of_z w64 c.args.z) ≡ c.args.z = search rules in
    ap Number (rw b at c.unsigned_abs-size.ensures.value) ∙ number_is c.args.z (rw b at c.if-z-lt0.false)
