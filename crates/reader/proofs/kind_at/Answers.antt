use mathlib.Core.Path.{sym, ◌∙◌}
use Rattle.text.specs.Lines.{line_at}
use Rattle.reader.proofs.KindsAndEnds.{problem_kind, schedule_kind, tree_kind, unknown_kind}
use Rattle.reader.proofs.kind_at.Goals as goal

pub returns-then-is_line : goal.returns-then-is_line
returns-then-is_line c =
    problem_kind (line_at c.args.s.now c.args.at) (sym c.is_line.ensures ∙ c.if-is_line.true)

pub returns-then-is_line-2 : goal.returns-then-is_line-2
returns-then-is_line-2 c =
    let first = sym c.is_line.ensures ∙ c.if-is_line.false in
    schedule_kind (line_at c.args.s.now c.args.at) first (sym c.is_line-2.ensures ∙ c.if-is_line-2.true)

pub returns-then-is_line-3 : goal.returns-then-is_line-3
returns-then-is_line-3 c =
    let first = sym c.is_line.ensures ∙ c.if-is_line.false in
    let second = sym c.is_line-2.ensures ∙ c.if-is_line-2.false in
    tree_kind (line_at c.args.s.now c.args.at) first second (sym c.is_line-3.ensures ∙ c.if-is_line-3.true)

pub returns : goal.returns
returns c =
    let first = sym c.is_line.ensures ∙ c.if-is_line.false in
    let second = sym c.is_line-2.ensures ∙ c.if-is_line-2.false in
    unknown_kind (line_at c.args.s.now c.args.at) first second (sym c.is_line-3.ensures ∙ c.if-is_line-3.false)
