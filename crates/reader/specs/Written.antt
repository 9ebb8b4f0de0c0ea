-- The writer's line of a schedule and of a tree, as the reader of a text finds it.
use Rattle.std.specs.Prelude.{ℕ, cond, get_or, Result, Ok, Err}
use Rattle.std.specs.Result.{result_map_both}
use Rattle.text.specs.Lines.{Line, due}
use Rattle.text.specs.Forms.{numbers_of, form_refusal, fault_of, good_line, place_after}
use Rattle.text.specs.Writer.{writer_form}
use Rattle.reader.specs.Places.{placed, lines_left}
use Rattle.reader.specs.declared.Reader.{Reader}
use Rattle.reader.specs.declared.WriterLine.{WriterLine}
use Rattle.reader.specs.declared.WriterRead.{WriterRead}
use Rattle.text.specs.declared.Fault.{Fault}

-- the line l, which starts at the place `at` and is due to be the writer's: its number and the next line's start, or what is wrong with it, by the first of
-- 12, 14 and 13 whose test holds
unfoldable pub writer_line : Line → ℕ → Result WriterLine Fault
writer_line l at =
    cond (good_line writer_form l)
    (Ok (record { writer = get_or (numbers_of writer_form l) 0 0; next = place_after l at }))
    (Err (fault_of (form_refusal writer_form l)))

-- what the reader finds on its next line, and the reader of the same text past it
abbrev pub past : Reader → WriterLine → WriterRead
past r l = record { writer = l.writer; reader = placed r.text l.next }

abbrev pub writer_read : Reader → Result WriterRead Fault
writer_read r = result_map_both (past r) (λ e. e) (writer_line (due (lines_left r)) r.at)
