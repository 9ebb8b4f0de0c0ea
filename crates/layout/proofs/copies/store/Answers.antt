use mathlib.Core.Path.{sym}
use native.Mathlib.Omega.{arith}
use Rattle.std.proofs.lemmas.List.Edits.{paste_more}
use Rattle.layout.proofs.copies.store.Goals as goal

pub loop-i-preserved : goal.loop-i-preserved
loop-i-preserved g c =
    let a = c.args in
    let i = c.loop-i.i in
    let more = paste_more a.numbers.now a.from a.values.now i c.index-values-i.result (omega (arith, c.requires, c.loop-i-test.true)) c.loop-i-test.true in
    rw (c.loop-i.invariant) (rw (sym c.index-values-i.is) at more)
