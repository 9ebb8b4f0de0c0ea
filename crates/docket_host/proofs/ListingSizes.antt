-- Every listing fits 1,048,576 bytes. A piece that is not the last has five bytes at least, the line of an answer 64 at most and the
-- report 171.
use Prim.Native.Nat.{ℕ, ◌+◌, ◌*◌, ◌≤◌}
use native.Mathlib.Omega.{arith}
use mathlib.Core.Path.{◌≡◌, refl, ap}
use mathlib.Core.Bool.{Bool, true, false, cond}
use mathlib.Core.List.{List, [], ◌∷◌, flatten}
use lib.Dec.{ltb}
use borrow.Author.Tests.{ltb-false}
use lib.ListN.{length, length-append}
use Rattle.pieces.specs.Pieces.{pieces}
use Rattle.pieces.specs.Cut.{Cut}
use Rattle.pieces.proofs.TheCut.{joined_pieces, pieces_cut, first_some, first_long, cut_later}
use Rattle.answer.specs.AnswerLines.{answer_line}
use Rattle.answer.specs.StatedAnswers.{refused}
use Rattle.docket.specs.Docket.{nothing_held, fresh_docket}
use Rattle.docket.specs.Lodging.{lodge_of}
use Rattle.docket.specs.Report.{report_text}
use Rattle.docket.specs.Demand3.{docket_after, answers_to}
use Rattle.list.specs.Listing.{answer_lines, listed, too_much, listing_text}
use Rattle.list.proofs.ListSizes.{lines_fit}
use Rattle.docket.proofs.ReportSizes.{reached_most}
use Rattle.docket.proofs.Reports.{shown_reached}
use Rattle.list.proofs.ListedCases.{eleven_size, nothing_size}

-- five bytes for each piece but the last, which has one
pieces_few : (ps : List (List ℕ)) → Cut ps → 5 * length ps ≤ length (flatten ps) + 4
unfolding flatten
pieces_few [] k = omega arith
pieces_few (p ∷ []) k = omega (arith, first_some p [] k, length-append p [])
pieces_few (p ∷ q ∷ ps) k =
    omega (arith, first_long p q ps k, pieces_few (q ∷ ps) (cut_later p (q ∷ ps) k), length-append p (flatten (q ∷ ps)))

listed_fits : (input : List ℕ) → length input ≤ 65536 → length (listed (pieces input)) ≤ 1048576
listed_fits input h =
    let texts = pieces input in
    omega (
      arith,
      h,
      ap length (joined_pieces input),
      lines_fit texts,
      pieces_few texts (pieces_cut input),
      reached_most texts,
      ap length (shown_reached texts),
      length-append (answer_lines (answers_to lodge_of fresh_docket texts)) (report_text (docket_after lodge_of fresh_docket texts).held),
    )

fits_by : (input : List ℕ) (t : Bool) → ltb 65536 (length input) ≡ t → length (cond t too_much (listed (pieces input))) ≤ 1048576
fits_by input true e = omega (arith, length-append (answer_line (refused 11 0 0 0)) (report_text nothing_held), eleven_size, nothing_size)
fits_by input false e = listed_fits input (ltb-false 65536 (length input) e)

pub listing_fits : (input : List ℕ) → length (listing_text input) ≤ 1048576
unfolding listing_text
listing_fits input = fits_by input (ltb 65536 (length input)) refl
