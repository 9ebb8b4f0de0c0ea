-- Document 01, The listing program: an input of 65,536 bytes is cut and lodged; of one byte more nothing is.
use mathlib.Core.Path.{◌≡◌, refl}
use mathlib.Core.List.{List, [], ◌∷◌, flatten}
use Prim.Native.Nat.{ℕ}
use lib.ListN.{length, replicate, length-replicate}
use Rattle.decimal.specs.Decimal.{digits, digits_by}
use Rattle.writer.specs.Written.{figure, figure_of}
use Rattle.pieces.specs.Pieces.{pieces}
use Rattle.report.specs.Report.{report_lines}
use Rattle.answer.specs.AnswerLines.{answer_line}
use Rattle.text.specs.Strings.{lines}
use Rattle.list.specs.Listing.{listed, too_much, listing_text}

most_is : (input : List ℕ) → length input ≡ 65536 → listing_text input ≡ listed (pieces input)
unfolding listing_text
most_is input e = rw e refl

over_is : (input : List ℕ) → length input ≡ 65537 → listing_text input ≡ too_much
unfolding listing_text
over_is input e = rw e refl

-- 65,536 bytes 10, and 65,537
pub input_ends : (listing_text (replicate 65536 10) ≡ listed (pieces (replicate 65536 10))) × (listing_text (replicate 65537 10) ≡ too_much)
input_ends = (most_is (replicate 65536 10) (length-replicate {0} {A = ℕ} 65536 10), over_is (replicate 65537 10) (length-replicate {0} {A = ℕ} 65537 10))

-- what is printed then
pub too_much_shown : too_much ≡ lines ("answer=refused,11,0,0,0" ∷ "kind=report" ∷ "cost=none" ∷ "costwriter=none" ∷ "bound=none" ∷ "boundwriter=none" ∷ "gap=none" ∷ "end=report" ∷ [])
unfolding answer_line report_lines flatten figure figure_of digits digits_by
too_much_shown = refl
