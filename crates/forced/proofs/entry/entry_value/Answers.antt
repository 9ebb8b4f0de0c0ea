-- `entry_value` meets its contract: the least sum of the states' lists, and that of the run that has not changed its status where it has the status.
use mathlib.Core.Path.{ap, ◌∙◌}
use Rattle.model.specs.Walk.{lesser}
use Rattle.forced.proofs.JoinedEntries.{entry_own, entry_other}
use Rattle.forced.proofs.entry.entry_value.Goals as goal

pub returns-then-g-status : goal.returns-then-g-status
returns-then-g-status c =
    let a = c.args in
    c.lesser_value.ensures
    ∙ ap (lesser c.join_states-found.result) c.both_values.ensures
    ∙ entry_own a.unit.generator a.table.now a.t a.status a.states.now a.own c.min.result c.begin_of.result c.join_states-found.result
    c.min.ensures c.begin_of.ensures c.join_states-found.ensures c.if-g-status.true c.kept_at-kept.result
    c.kept_at-kept.ensures

pub returns-else-g-status : goal.returns-else-g-status
returns-else-g-status c =
    let a = c.args in
    entry_other a.unit.generator a.table.now a.t a.status a.states.now a.own c.min.result c.begin_of.result c.join_states-found.result
    c.min.ensures c.begin_of.ensures c.join_states-found.ensures c.if-g-status.false
