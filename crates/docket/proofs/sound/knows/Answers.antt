-- `knows` meets its contract: a known problem is tested with what is held under it.
use Rattle.std.proofs.Common.{sym, ◌∙◌}
use Rattle.docket.proofs.HoldingAnswers.{knows_if}
use Rattle.docket.proofs.sound.knows.Goals as goal

pub returns-then-docket : goal.returns-then-docket
returns-then-docket c = c.is_sound_under.ensures ∙ sym (knows_if _ c.if-docket.true)
