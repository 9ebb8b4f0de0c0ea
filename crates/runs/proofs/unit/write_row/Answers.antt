use mathlib.Core.Path.{◌∙◌}
use native.Mathlib.Omega.{arith}
use Rattle.runs.proofs.Forward.{spent_least, spent_most, written_more, written_all}
use Rattle.runs.proofs.unit.write_row.Goals as goal

pub loop-t-preserved : goal.loop-t-preserved
loop-t-preserved c =
    let a = c.args in
    let now = c.loop-t in
    let chosen = c.next_status-next in
    let written =
    written_more a.unit.generator a.q.now a.on.now a.off.now a.fixed.now c.args.unit.good a.table.now c.requires.kept
    now.row now.t now.status now.k (omega (arith, c.loop-t-test.true, c.requires.row_len)) (now.auto.row ∙ c.requires.row_len) now.invariant.2 chosen.result chosen.ensures in (
      omega (arith, c.periods_spent-k.ensures, spent_least now.status now.k chosen.result),
      omega (arith, c.periods_spent-k.ensures, spent_most now.status now.k chosen.result, now.invariant.1),
      rw (c.periods_spent-k.ensures, c.output_of.ensures) written,
    )

pub returns : goal.returns
returns c =
    let now = c.loop-t in
    let a = c.args in
    written_all a.unit.generator a.q.now a.on.now a.off.now a.fixed.now now.row now.t now.status now.k (omega (arith, c.loop-t-test.false, c.requires.row_len)) (now.auto.row ∙ c.requires.row_len) now.invariant.2
