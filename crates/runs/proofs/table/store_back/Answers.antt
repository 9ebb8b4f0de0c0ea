use Prim.Native.Nat.{◌≤◌, ◌<◌}
use native.Mathlib.Omega.{arith}
use lib.ListN.{length}
use Rattle.walk.specs.Marks.{marks_of}
use Rattle.walk.specs.GoingBack.{costs_of}
use Rattle.walk.proofs.Rising.{tabled_rising}
use Rattle.runs.proofs.Tables.{begun_end, begun_back}
use Rattle.runs.proofs.table.store_back.Goals as goal

pub loop-t-init : goal.loop-t-init
loop-t-init c =
    let a = c.args in
    let begun = begun_end a.unit.generator c.args.unit.good (length a.on.now) a.on.now a.off.now a.fixed.now c.requires.good_costs.0 in
    (omega arith, begun _ _ _ _ c.requires.ons_len c.requires.by_index c.requires.table_len c.store_states.ensures)

pub step_back-requires-clause-rising : goal.step_back-requires-clause-rising
step_back-requires-clause-rising c =
    let a = c.args in
    let rising = tabled_rising (length a.on.now) a.unit.generator (marks_of a.fixed.now) (costs_of a.on.now a.off.now) c.loop-t.t in
    (rising _ _ c.loop-t.invariant.1.0.of_on, rising _ _ c.loop-t.invariant.1.0.of_off)

pub loop-t-preserved : goal.loop-t-preserved
loop-t-preserved c =
    let a = c.args in
    let t = c.loop-t.t in
    let more : 0 < t = c.loop-t-test.true in
    let within : t ≤ length a.on.now = c.loop-t.invariant.0 in
    let begun = begun_back a.unit.generator c.args.unit.good (length a.on.now) a.on.now a.off.now a.fixed.now c.requires.good_costs.0 t more within in
    (omega arith, begun _ _ _ _ _ _ c.loop-t.invariant.1 c.step_back.ensures c.store_states-in-loop-t.ensures)
