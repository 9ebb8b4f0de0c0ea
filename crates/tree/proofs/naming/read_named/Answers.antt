-- The line's one number less 1 is what the line names.
use native.Mathlib.Omega.{arith}
use mathlib.Core.Path.{refl}
use mathlib.Core.List.{[], ◌∷◌}
use Rattle.std.proofs.lemmas.Result.{err_from_is_err_and}
use Rattle.text.specs.Lines.{line_at}
use Rattle.text.specs.Forms.{plain}
use Rattle.text.proofs.Rows.{below_same}
use Rattle.text.proofs.Verdicts.{ruled_refused}
use Rattle.text.proofs.Fills.{plain_filled}
use Rattle.tree.proofs.Rows.{one_value, named_refused, named_good}
use Rattle.tree.proofs.naming.read_named.Goals as goal

pub fill_line-requires : goal.fill_line-requires
fill_line-requires c =
    record { key_value = (c.requires.key_value.0, (omega arith, (refl, (below_same 1 c.args.most (omega (arith, c.requires.key_value.1)), refl)))); s_value = c.requires.text_value }

pub overflow_sub-result : goal.overflow_sub-result
overflow_sub-result c =
    let a = c.args in
    let r = c.fill_line in
    (one_value (plain_filled a.key.now 1 a.most a.text.now (0 ∷ []) a.at c.requires.key_value.0 (omega (arith, c.requires.key_value.1)) r.ensures.stored refl r.ensures.answer c.in_ok-next.was)).low

pub returns-in_err-next : goal.returns-in_err-next
returns-in_err-next c =
    let a = c.args in
    let r = c.fill_line in
    let p = err_from_is_err_and c.from_residual.result c.from_residual.ensures.1 in
    rw (p.1, p.2) (named_refused a.key.now a.most a.text.now a.at _
    (ruled_refused (plain a.key.now 1 1 a.most) (line_at a.text.now a.at) a.at r.result r.ensures.answer _ c.in_err-next.was))

pub returns : goal.returns
returns c =
    let a = c.args in
    let r = c.fill_line in
    let g = plain_filled a.key.now 1 a.most a.text.now (0 ∷ []) a.at c.requires.key_value.0 (omega (arith, c.requires.key_value.1)) r.ensures.stored refl r.ensures.answer c.in_ok-next.was in
    named_good a.key.now a.most a.text.now a.at g.line_good _ _ (one_value g).is_named g.next_is
