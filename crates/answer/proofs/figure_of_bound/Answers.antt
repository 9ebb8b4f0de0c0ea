-- `figure_of_bound` meets its contract, case by case.
use mathlib.Core.Path.{◌≡◌, ap, ◌∙◌}
use mir.Syntax.{w64}
use mir.Val.{to_z, of_z}
use borrow.Author.Rules.{rules}
use Rattle.writer.specs.Written.{figure_of}
use Rattle.answer.proofs.Cases.{number_shown}
use Rattle.answer.proofs.figure_of_bound.Goals as goal

pub returns-in-Some : goal.returns-in-Some
returns-in-Some c =
    let z : to_z w64 (of_z w64 c.in-Some.z) ≡ c.in-Some.z = search rules in
    c.from.ensures ∙ ap figure_of z ∙ number_shown _ c.in-Some.z c.in-Some.is
