use native.Mathlib.Omega.{arith}
use Rattle.std.proofs.lemmas.List.Edits.{paste_more}
use Rattle.model.specs.Ranges.{GoodOutput}
use Rattle.judge.proofs.Rows.{all_at}
use Rattle.schedule.proofs.rows.store_row.Goals as goal

pub overflow_cast-rows : goal.overflow_cast-rows
overflow_cast-rows c =
    omega (arith, (all_at GoodOutput c.args.values.now 0 c.requires.1.1 c.loop-t.t c.loop-t-test.true).1)

pub loop-t-preserved : goal.loop-t-preserved
loop-t-preserved c =
    let a = c.args in
    let l = c.loop-t in
    rw (l.invariant) (paste_more a.rows.now a.from a.values.now l.t 0 (omega (arith, c.requires, c.loop-t-test.true)) c.loop-t-test.true)
