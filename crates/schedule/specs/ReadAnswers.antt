-- The whole answer to a schedule's text, and what reading it gives.
use Rattle.std.specs.Prelude.{ℕ, ◌≡◌, replicate, Ok, Err}
use mathlib.Core.List.{List, flatten}
use Rattle.std.proofs.Math.Option.{Option, none, some}
use Rattle.model.specs.Instance.{Instance, Schedule}
use Rattle.model.specs.Held.{pad}
use Rattle.model.specs.Cost.{cost}
use Rattle.model.specs.Breach.{Breach, first_breach}
use Rattle.refusal.specs.declared.Refusal.{Refusal}
use Rattle.refusal.specs.Refusals.{refusal_of}
use Rattle.text.specs.Lines.{line_at, kind_of}
use Rattle.text.specs.Course.{Judged, refused_at, accepted}
use Rattle.text.specs.declared.Kind.TheVariants as kind
use Rattle.schedule.specs.Course.{schedule_judged}
use Rattle.schedule.specs.Refusals.{Written}
use Rattle.schedule.specs.declared.ScheduleRead.{ScheduleRead}

-- the first line is kind=schedule
abbrev pub IsSchedule : List ℕ → Type 0
IsSchedule text = kind_of (line_at text 0) ≡ kind.Schedule

-- the answer to a schedule's text: refused, or accepted as rows by a writer, with their cost
pub data Outcome : Type 0 where
  refused_by : Refusal → Outcome
  accepted_as : (writer cost : ℕ) → (rows : Schedule) → Outcome

-- ---- document 01, Numbers that come from the docket: when all lines are good, the rules are judged

abbrev pub by_rules : Instance → Written → Option Breach → Outcome
by_rules P v (some b) = refused_by (refusal_of b.number 0 b.unit b.period)
by_rules P v none = accepted_as v.writer (cost P v.rows) v.rows

-- what all the lines say, judged by the rules
abbrev pub ruled : Instance → Written → Outcome
ruled P v = by_rules P v (first_breach P v.rows)

abbrev pub by_lines : Instance → Judged Written → Outcome
by_lines P (refused_at n l) = refused_by (refusal_of n l 0 0)
by_lines P (accepted v) = ruled P v

-- the answer to a text whose first line is kind=schedule
unfoldable pub schedule_outcome : Instance → List ℕ → Outcome
schedule_outcome P text = by_lines P (schedule_judged P text)

-- ---- the same in arrays: the rows one after the other and zeros after them, only zeros where the text is refused

unfoldable pub in_arrays : Outcome → ScheduleRead
in_arrays (refused_by r) = record { answer = Err r; rows = replicate 1536 0 }
in_arrays (accepted_as w c s) = record { answer = Ok (record { writer = w; cost = c }); rows = pad 0 1536 (flatten s) }

unfoldable pub schedule_read : Instance → List ℕ → ScheduleRead
schedule_read P text = in_arrays (schedule_outcome P text)
