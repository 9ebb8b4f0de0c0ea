-- The text of a schedule.
use Rattle.std.specs.Prelude.{ℕ, List, [], ◌∷◌, ◌++◌, map}
use Rattle.model.specs.Instance.{Schedule}
use Rattle.text.specs.Lines.{kind_schedule, end_schedule}
use Rattle.text.specs.Rendering.{plain_line, text_of}
use Rattle.text.specs.Writer.{writer_key}

-- ---- document 01, Texts: the lines of a schedule in their order

-- run=
abbrev pub run_key : List ℕ
run_key = 114 ∷ 117 ∷ 110 ∷ 61 ∷ []

-- a run line for each row, and the end line
abbrev pub lines_of_rows : Schedule → List (List ℕ)
lines_of_rows s = map (plain_line run_key) s ++ (end_schedule ∷ [])

-- the lines after the first
abbrev pub lines_after : ℕ → Schedule → List (List ℕ)
lines_after w s = plain_line writer_key (w ∷ []) ∷ lines_of_rows s

-- the whole text of the rows s by the writer w
unfoldable pub render : ℕ → Schedule → List ℕ
render w s = text_of (kind_schedule ∷ lines_after w s)
