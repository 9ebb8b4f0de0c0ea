-- What the reader of a schedule follows: the rest of a text from a place on, and an array of rows that fills up.
use Rattle.std.specs.Prelude.{ℕ, ◌*◌, ◌≡◌, List, length, take, drop}
use Rattle.model.specs.Instance.{Instance}
use Rattle.model.specs.Ranges.{All, GoodOutput}
use Rattle.model.specs.Held.{pad}
use Rattle.refusal.specs.Refusals.{refusal_of}
use Rattle.text.specs.Lines.{lines_of}
use Rattle.text.specs.Course.{judged_from}
use Rattle.schedule.specs.Course.{Due, judge, end}
use Rattle.schedule.specs.ReadAnswers.{refused_by, by_lines, in_arrays}
use Rattle.schedule.specs.declared.ScheduleRead.{ScheduleRead}

-- what reading gives of a text that n refuses at line l
abbrev pub refused_read : ℕ → ℕ → ScheduleRead
refused_read n l = in_arrays (refused_by (refusal_of n l 0 0))

-- the text from the place `at` on, where line l starts and s is due
unfoldable pub read_from : Instance → List ℕ → ℕ → ℕ → Due → ScheduleRead
read_from P text at l s = in_arrays (by_lines P (judged_from (judge P) end l s (lines_of (drop at text))))

-- the first k rows of T outputs of an array are filled with outputs in range, and zeros follow them
pub record Filled (k T : ℕ) (l : List ℕ) : Type 0 where
  pub zeros_after : l ≡ pad 0 1536 (take (k * T) l)
  pub long : length (take (k * T) l) ≡ k * T
  pub outputs_in : All GoodOutput (take (k * T) l)
