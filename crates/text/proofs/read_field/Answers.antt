-- `read_field` meets its contract: behind a minus, where one may stand, or without one.
use native.Mathlib.Omega.{arith}
use mathlib.Core.Path.{sym, ◌∙◌}
use Rattle.text.proofs.Fields.{byte_inside, field_plain, field_barred, field_minus}
use Rattle.text.proofs.read_field.Goals as goal

pub overflow_add-at : goal.overflow_add-at
overflow_add-at c =
    let a = c.args in
    omega (arith, byte_inside a.s.now a.at 45 (sym c.byte_is.ensures ∙ c.if-not-byte_is.false), c.well_formed)

pub returns-then-not-byte_is : goal.returns-then-not-byte_is
returns-then-not-byte_is c =
    let a = c.args in
    c.read_unsigned.ensures ∙ field_plain a.s.now a.at a.signed (sym c.byte_is.ensures ∙ c.if-not-byte_is.true)

pub returns-then-bars_minus : goal.returns-then-bars_minus
returns-then-bars_minus c =
    let a = c.args in
    field_barred a.s.now a.at (sym c.byte_is.ensures ∙ c.if-not-byte_is.false) a.signed (sym c.bars_minus.ensures ∙ c.if-bars_minus.true)

pub returns : goal.returns
returns c =
    let a = c.args in
    c.read_unsigned-2.ensures ∙ field_minus a.s.now a.at (sym c.byte_is.ensures ∙ c.if-not-byte_is.false) a.signed (sym c.bars_minus.ensures ∙ c.if-bars_minus.false)
