use native.Mathlib.Omega.{arith}
use mathlib.Core.Path.{sym, ◌∙◌}
use Rattle.text.proofs.Keys.{key_fits}
use Rattle.text.proofs.Words.{word_on, word_off}
use Rattle.text.proofs.is_line.Goals as goal

pub overflow_add-at : goal.overflow_add-at
overflow_add-at c =
    let a = c.args in
    omega (arith, key_fits a.s.now a.word.now a.at (sym c.starts.ensures ∙ c.if-starts.true), c.well_formed, c.ranges)

pub returns-then-starts : goal.returns-then-starts
returns-then-starts c =
    let a = c.args in
    c.byte_is.ensures ∙ word_on a.s.now a.word.now a.at c.requires (sym c.starts.ensures ∙ c.if-starts.true)

pub returns-else-starts : goal.returns-else-starts
returns-else-starts c =
    let a = c.args in
    c.if-starts.false ∙ word_off a.s.now a.word.now a.at c.requires (sym c.starts.ensures ∙ c.if-starts.false)
