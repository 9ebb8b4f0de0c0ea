-- What the units answer is taken apart: 35, or one leaf more.
use borrow.Author.Rules.{rules}
use mathlib.Core.Path.{sym, ap, ◌∙◌}
use lib.IntN.{ℤ}
use mir.Syntax.{w64}
use mir.Val.{SFits}
use mir.ValLaws.{to_z-of_z}
use Rattle.std.specs.Prelude.{Some as Number}
use Rattle.model.specs.Figures.{add_leaf}
use Rattle.tree.specs.ReadAnswers.{reached}
use Rattle.tree.specs.RampReads.{ramp_ended}
use Rattle.tree.proofs.ramp.end_ramp.Goals as goal

pub returns-in_default : goal.returns-in_default
returns-in_default c =
    let a = c.args in
    ap (ramp_ended a.next a.line a.figures) (sym c.in_default.is ∙ c.with_requirement.ensures)

pub with_leaf-requires : goal.with_leaf-requires
with_leaf-requires c = c.requires.small_least.2

pub returns : goal.returns
returns c =
    let a = c.args in
    let fits : SFits w64 c.in-Some.value = search rules in
    ap (reached a.next a.line) (c.with_leaf.ensures ∙ ap (λ (z : ℤ). add_leaf a.figures (Number z)) (to_z-of_z w64 c.in-Some.value fits))
    ∙ ap (ramp_ended a.next a.line a.figures) (sym c.in-Some.is ∙ c.with_requirement.ensures)
