use native.Mathlib.Omega.{arith}
use mathlib.Core.Path.{sym, ◌∙◌}
use Rattle.reader.proofs.KindsAndEnds.{end_missing, end_within, end_followed, end_last}
use Rattle.reader.proofs.end_at.Goals as goal

pub overflow_add-next : goal.overflow_add-next
overflow_add-next c =
    omega (arith, c.well_formed, end_within c.args.word.now c.args.s.now c.args.at (sym c.is_line.ensures ∙ c.if-not-is_line.false))

pub returns-then-next-s : goal.returns-then-next-s
returns-then-next-s c =
    let a = c.args in
    let there = sym c.is_line.ensures ∙ c.if-not-is_line.false in
    end_followed a.word.now a.s.now a.at there c.if-next-s.true

pub returns : goal.returns
returns c =
    let a = c.args in
    let there = sym c.is_line.ensures ∙ c.if-not-is_line.false in
    end_last a.word.now a.s.now a.at there c.if-next-s.false

pub returns-then-not-is_line : goal.returns-then-not-is_line
returns-then-not-is_line c =
    let a = c.args in
    end_missing a.word.now a.s.now a.at (sym c.is_line.ensures ∙ c.if-not-is_line.true)
