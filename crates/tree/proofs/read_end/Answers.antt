-- The end line stands where the tree ends, and it is the last.
use mathlib.Core.Path.{sym, ap, ◌∙◌}
use Rattle.std.specs.Prelude.{Err}
use Rattle.refusal.specs.Refusals.{refusal_of}
use Rattle.refusal.specs.declared.Refusal.{Refusal}
use Rattle.text.specs.declared.End.TheVariants.{Missing, Followed}
use Rattle.tree.specs.declared.read.BrokenLine.{BrokenLine}
use Rattle.tree.specs.ReadAnswers.{read_as}
use Rattle.tree.proofs.Texts.{tree_ended, tree_accepted}
use Rattle.tree.proofs.read_end.Goals as goal

pub returns-in-Missing : goal.returns-in-Missing
unfolding read_as
returns-in-Missing c =
    let a = c.args in
    ap (λ (x : Refusal). Err x) (c.from.ensures ∙ ap (λ (b : BrokenLine). refusal_of b.number b.line 0 0) c.by.ensures)
    ∙ tree_ended a.text.now a.writer a.read Missing (sym c.in-Missing.is ∙ c.read_end.ensures)

pub returns-in-Followed : goal.returns-in-Followed
unfolding read_as
returns-in-Followed c =
    let a = c.args in
    ap (λ (x : Refusal). Err x) (c.from-in-Followed.ensures ∙ ap (λ (b : BrokenLine). refusal_of b.number b.line 0 0) c.by-in-Followed.ensures)
    ∙ tree_ended a.text.now a.writer a.read Followed (sym c.in-Followed.is ∙ c.read_end.ensures)

pub returns-in-Last : goal.returns-in-Last
returns-in-Last c =
    let a = c.args in
    tree_accepted a.text.now a.writer a.read (sym c.in-Last.is ∙ c.read_end.ensures)
