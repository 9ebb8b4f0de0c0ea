-- `step_back` meets its contract: where the first state of a status has a value every state has.
use Rattle.std.proofs.Common.{sym, ◌∙◌, true, false}
use Rattle.walk.specs.Marks.{mark_of}
use Rattle.model.specs.Instance.{◌at◌}
use Rattle.walk.proofs.StatusMarks.{free_allows}
use Rattle.walk.proofs.Rising.{open_is}
use Rattle.walk.proofs.table.step_back.Goals as goal

pub free_back-requires : goal.free_back-requires
free_back-requires c =
    let a = c.args in
    let o = open_is a.mark (a.ons.now at 0) (a.offs.now at 0) (sym c.is_open.ensures ∙ c.if-is_open.true) in
    record { good_cost = c.requires.good_cost; between = c.requires.between; by_index = c.requires.by_index; valued = (c.requires.rising.0 o.1.0, c.requires.rising.1 o.1.1) }

pub returns-then-is_open : goal.returns-then-is_open
returns-then-is_open c =
    let a = c.args in
    let o = open_is a.mark (a.ons.now at 0) (a.offs.now at 0) (sym c.is_open.ensures ∙ c.if-is_open.true) in
    c.free_back.ensures (mark_of a.mark) (free_allows a.mark o.0 true) (free_allows a.mark o.0 false)
