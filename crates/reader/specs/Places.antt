-- The reader of a text: the text that it keeps, and the next line's start.
use Rattle.std.specs.Prelude.{ℕ, List, drop}
use Rattle.std.specs.Borrow.{Bor}
use Rattle.text.specs.Lines.{Line, lines_of}
use Rattle.reader.specs.declared.Reader.{Reader}

-- the reader of this text whose next line starts at the place `at`
abbrev pub placed : Bor (List ℕ) → ℕ → Reader
placed text at = record { text = text; at = at }

-- the lines that are left
abbrev pub lines_left : Reader → List Line
lines_left r = lines_of (drop r.at r.text.now)
