-- Document 01, Numbers that come from the text: when a number refuses a line of a schedule's text, whose first line is kind=schedule.
use Rattle.std.specs.Prelude.{ℕ, suc, ◌<◌, List, length}
use Rattle.model.specs.Instance.{Instance, Schedule}
use Rattle.model.specs.Ranges.{GoodWriter, GoodRows}
use Rattle.text.specs.Lines.{Line, later, lines_of, end_schedule}
use Rattle.text.specs.Forms.{Form, plain}
use Rattle.text.specs.Writer.{writer_form}
use Rattle.text.specs.LineRefused.{Unfit, LineRefused}
use Rattle.schedule.specs.Rendering.{run_key, lines_after}

-- ---- document 01, Texts: the form of a run line

-- T outputs, 0 to 10,000
abbrev pub run_form : ℕ → Form
run_form T = plain run_key T 0 10000

-- ---- document 01, Texts: the lines of numbers of a schedule's text in their order, counted from 0 after the first line

pub data FormAt (P : Instance) : ℕ → Form → Type 0 where
  writer : FormAt P 0 writer_form
  run : (u : ℕ) → u < length P.units → FormAt P (suc u) (run_form P.periods)

-- what the lines say: a writer, and rows
pub record Written : Type 0 where
  pub writer : ℕ
  pub rows : Schedule

abbrev pub written : ℕ → Schedule → Written
written w s = record { writer = w; rows = s }

-- the lines of the text of a writer and rows after the first
abbrev pub written_lines : Written → List (List ℕ)
written_lines v = lines_after v.writer v.rows

module _ (P : Instance) where
  -- 12, 14, 13: n refuses the line l where line k is due
  abbrev pub Breaks : Written → ℕ → Line → ℕ → Type 0
  Breaks v k l n = (f : Form) × FormAt P k f × Unfit f l n

  -- a writer and rows in range
  abbrev pub InLimits : Written → ℕ → Type 0
  InLimits v k = GoodWriter v.writer × GoodRows P v.rows

  -- the lines before line m begin the text of a writer and rows in range, and n refuses line m; ls are the lines after the first
  abbrev pub BrokenAt : ℕ → ℕ → List Line → Type 0
  BrokenAt n m ls = LineRefused written_lines end_schedule InLimits Breaks n m ls

  -- n refuses line m of the text
  abbrev pub RefusedAt : List ℕ → ℕ → ℕ → Type 0
  RefusedAt text n m = BrokenAt n m (later (lines_of text))
