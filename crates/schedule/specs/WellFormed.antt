-- Document 01, Texts: well-formed, for a schedule.
use Rattle.std.specs.Prelude.{ℕ, List}
use Rattle.model.specs.Instance.{Instance}
use Rattle.text.specs.Lines.{kind_schedule}
use Rattle.text.specs.WellFormed.{Formed}
use Rattle.schedule.specs.Refusals.{BrokenAt}

abbrev pub WellFormed : Instance → List ℕ → Type 0
WellFormed P text = Formed kind_schedule (BrokenAt P) text
