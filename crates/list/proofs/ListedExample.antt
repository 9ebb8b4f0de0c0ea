-- Document 01, The listing program: its example's input gives its output. The input is cut into the three texts; their answers and what is held after
-- them are known, and written out they are the output.
use mathlib.Core.Path.{◌≡◌, refl, ap, ◌∙◌}
use mathlib.Core.List.{List, [], ◌∷◌, ◌++◌, map, flatten}
use Prim.Native.Nat.{ℕ}
use Rattle.decimal.specs.Decimal.{digits, digits_by}
use Rattle.writer.specs.Written.{figure, figure_of}
use Rattle.pieces.specs.Pieces.{pieces}
use Rattle.report.specs.Report.{report_lines}
use Rattle.answer.specs.declared.Answer.{Answer}
use Rattle.answer.specs.StatedAnswers.{stated}
use Rattle.answer.specs.AnswerLines.{answer_line}
use Rattle.docket.specs.Docket.{fresh_docket}
use Rattle.docket.specs.Lodging.{lodge_of}
use Rattle.docket.specs.Report.{report_text}
use Rattle.docket.specs.Demand3.{answers_to}
use Rattle.docket.specs.Promised.{stated_lines}
use Rattle.docket.specs.Specimens.{problem_of, schedule_text, tree_text, listed_texts, listed_input, listed_output}
use Rattle.docket.proofs.SpecimenList.{listing_answers, listing_held}
use Rattle.list.specs.Listing.{answer_lines, listed, listing_text}

-- the input's pieces
pub input_pieces : pieces listed_input ≡ listed_texts
unfolding pieces problem_of schedule_text tree_text
input_pieces = refl

-- the lines of answers are those of what they state
pub lines_stated : (l : List Answer) → answer_lines l ≡ stated_lines (map stated l)
lines_stated [] = refl
lines_stated (a ∷ l) = ap (λ (x : List ℕ). answer_line (stated a) ++ x) (lines_stated l)

texts_listed : listed listed_texts ≡ listed_output
unfolding answer_line report_lines flatten figure figure_of digits digits_by listed_output
texts_listed =
    let a = lines_stated (answers_to lodge_of fresh_docket listed_texts) ∙ ap stated_lines listing_answers in
    λ i. a i ++ report_text (listing_held i)

pub input_listed : listing_text listed_input ≡ listed_output
unfolding listing_text problem_of schedule_text tree_text
input_listed = ap listed input_pieces ∙ texts_listed
