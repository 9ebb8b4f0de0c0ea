-- What the readers of a problem's lines follow: the text from a place on, and the row of a unit line.
use Rattle.std.specs.Prelude.{ℕ, ◌≡◌, cond, List, take, drop, Result, Ok, Err}
use Rattle.model.specs.Ranges.{ordered}
use Rattle.model.specs.declared.arrays.Problem.{Problem}
use Rattle.refusal.specs.declared.Refusal.{Refusal}
use Rattle.text.specs.Lines.{Line, lines_of}
use Rattle.text.specs.Forms.{pad_48, form_refusal, fault_of, good_line, place_after}
use Rattle.text.specs.Course.{judged_from}
use Rattle.text.specs.declared.Fault.{Fault}
use Rattle.text.specs.declared.Fault.TheVariants.{Disordered}
use Rattle.problem.specs.Units.{unit_form, unit_of}
use Rattle.problem.specs.Course.{Due, judge, end}
use Rattle.problem.specs.ReadAnswers.{read_as}
use Rattle.problem.specs.declared.unit.UnitRow.{UnitRow}

-- the text from the place `at` on, where line l starts and s is due
unfoldable pub read_from : List ℕ → ℕ → ℕ → Due → Result Problem Refusal
read_from text at l s = read_as (judged_from judge end l s (lines_of (drop at text)))

-- a row of 48 numbers holds n, and zeros after them
abbrev pub FilledTo : ℕ → List ℕ → Type 0
FilledTo n row = pad_48 (take n row) ≡ row

-- the unit line l, which starts at the place `at`: where the next line starts and its generator, or what is wrong with it, by 12, 14, 13, and then by 15
unfoldable pub unit_row : Line → ℕ → Result UnitRow Fault
unit_row l at =
    cond (good_line unit_form l)
    (cond (ordered (unit_of l)) (Ok (record { next = place_after l at; generator = unit_of l })) (Err Disordered))
    (Err (fault_of (form_refusal unit_form l)))
