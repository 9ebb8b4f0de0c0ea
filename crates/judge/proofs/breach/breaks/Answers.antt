-- Each rule's own test answers for it.
use mathlib.Core.Bool.{not-not}
use Rattle.judge.proofs.breach.breaks.Goals as goal

pub returns-in-Limits : goal.returns-in-Limits
returns-in-Limits c = simp (c.is_off_limits.ensures, c.in-Limits.is)

pub returns-in-UpDown : goal.returns-in-UpDown
returns-in-UpDown c = simp (c.is_permitted.ensures, c.in-UpDown.is, not-not)

pub returns-in-Ramps : goal.returns-in-Ramps
returns-in-Ramps c = simp (c.is_off_ramp.ensures, c.in-Ramps.is)
