-- Document 01, The listing program: the input cut into pieces, a line for each answer, then the report.
use Rattle.std.specs.Prelude.{Bool, cond, List, [], ◌∷◌, ◌++◌, ℕ, ltb, length, Option, Some, None}
use Rattle.pieces.specs.Pieces.{pieces}
use Rattle.writer.specs.Written.{over}
use Rattle.answer.specs.declared.Answer.{Answer}
use Rattle.docket.specs.Docket.{nothing_held, fresh_docket}
use Rattle.answer.specs.StatedAnswers.{refused, stated}
use Rattle.answer.specs.AnswerLines.{answer_line}
use Rattle.docket.specs.Lodging.{lodge_of}
use Rattle.docket.specs.Demand3.{docket_after, answers_to}
use Rattle.docket.specs.Report.{report_text}

-- ---- a line for each answer

abbrev pub answer_lines : List Answer → List ℕ
answer_lines [] = []
answer_lines (a ∷ l) = answer_line (stated a) ++ answer_lines l

-- ---- the whole

-- the pieces lodged in turn in one fresh docket: a line for each, then the report
abbrev pub listed : List (List ℕ) → List ℕ
listed texts = answer_lines (answers_to lodge_of fresh_docket texts) ++ report_text (docket_after lodge_of fresh_docket texts).held

-- of more than 65,536 bytes nothing is lodged: 11 is the one answer
abbrev pub too_much : List ℕ
too_much = answer_line (refused 11 0 0 0) ++ report_text nothing_held

unfoldable pub listing_text : List ℕ → List ℕ
listing_text input = cond (ltb 65536 (length input)) too_much (listed (pieces input))

-- ---- into a lent buffer, which 1,048,576 bytes are always enough for

abbrev pub too_small : List ℕ → Bool
too_small output = ltb (length output) 1048576

unfoldable pub listed_of : List ℕ → List ℕ → Option ℕ
listed_of input output = cond (too_small output) None (Some (length (listing_text input)))

unfoldable pub output_of : List ℕ → List ℕ → List ℕ
output_of input output = cond (too_small output) output (over (listing_text input) output)
