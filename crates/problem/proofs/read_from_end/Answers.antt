use mathlib.Core.Path.{sym, ap, ◌∙◌}
use Rattle.std.specs.Prelude.{Err}
use Rattle.refusal.specs.declared.Refusal.{Refusal}
use Rattle.model.specs.Held.{view}
use Rattle.text.specs.declared.End.TheVariants.{Missing, Followed, Last}
use Rattle.problem.specs.ReadAnswers.{read_as}
use Rattle.problem.proofs.Ends.{end_read}
use Rattle.problem.proofs.read_from_end.Goals as goal

pub returns-in-Missing : goal.returns-in-Missing
unfolding read_as
returns-in-Missing c =
    let a = c.args in
    let e = sym c.in-Missing.is ∙ c.read_end.ensures in
    ap (λ (x : Refusal). Err x) c.refuse_line.ensures ∙ end_read (view a.problem) a.s.now a.at a.line Missing e

pub returns-in-Followed : goal.returns-in-Followed
unfolding read_as
returns-in-Followed c =
    let a = c.args in
    let e = sym c.in-Followed.is ∙ c.read_end.ensures in
    ap (λ (x : Refusal). Err x) c.refuse_line-in-Followed.ensures ∙ end_read (view a.problem) a.s.now a.at a.line Followed e

pub returns-in-Last : goal.returns-in-Last
unfolding read_as
returns-in-Last c =
    let a = c.args in
    let e = sym c.in-Last.is ∙ c.read_end.ensures in
    rw c.requires.1 at (end_read (view a.problem) a.s.now a.at a.line Last e)
