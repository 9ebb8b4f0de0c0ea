-- A docket is had where the numbers begin with the mark and it is sound.
use Rattle.std.proofs.Common.{sym, ◌∙◌, inl, inr}
use Rattle.state.proofs.Opening.{opened_some, opened_none}
use Rattle.state.proofs.opened_in.Goals as goal
use Rattle.state.proofs.opened_in.Goals.{else-numbers-eq-MARK-via-then-numbers-eq-MARK+else-is_sound as unsound, else-numbers-eq-MARK-via-else-numbers-eq-MARK as unmarked}

pub returns-then-is_sound : goal.returns-then-is_sound
returns-then-is_sound c =
    let d = c.docket_in-docket in
    opened_some c.args.numbers.now c.args.rows.now d.result d.ensures c.if-numbers-eq-MARK.true (sym c.is_sound.ensures ∙ c.if-is_sound.true)

pub returns : goal.returns
returns c =
    let d = c.docket_in-docket in
    let none = opened_none c.args.numbers.now c.args.rows.now d.result d.ensures in
    elim c.else-numbers-eq-MARK.branch [ unsound w ↦ none (inr (sym w.is_sound.ensures ∙ w.if-is_sound.false)) | unmarked w ↦ none (inl w.if-numbers-eq-MARK.false) ]
