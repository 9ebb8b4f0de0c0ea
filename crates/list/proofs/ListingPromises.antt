-- The promises of the listing: what it writes into a lent output for every input, and what it answers. The pieces of the input are the one cut after
-- each ended line that begins end= (`Cut`, crates/pieces); they are a list of texts, so all of crates/docket/proofs/Promises.antt holds of them.
use mathlib.Core.Path.{◌≡◌, refl, sym, ap, subst, ◌∙◌}
use mathlib.Core.List.{List, [], ◌++◌, flatten}
use mathlib.Core.Option.{none}
use Prim.Native.Nat.{ℕ, ◌≤◌, ◌<◌}
use lib.ListN.{length}
use Rattle.pieces.specs.Pieces.{pieces}
use Rattle.pieces.specs.Cut.{Cut}
use Rattle.pieces.proofs.TheCut.{joined_pieces, pieces_cut, the_cut}
use Rattle.writer.specs.Written.{over}
use Rattle.answer.specs.StatedAnswers.{refused}
use Rattle.answer.specs.AnswerLines.{answer_line}
use Rattle.docket.specs.Docket.{nothing_held, fresh_docket}
use Rattle.docket.specs.Verdicts.{Verdict}
use Rattle.docket.specs.Texts.{Are, no_more}
use Rattle.docket.specs.Lodging.{lodge_of}
use Rattle.docket.specs.Report.{report_text, text_shown}
use Rattle.docket.specs.ReportDue.{ReportDue}
use Rattle.docket.specs.Demand3.{answers_to, answers_due}
use Rattle.docket.specs.Promised.{after, given, stated_lines}
use Rattle.docket.specs.Specimens.{listed_input, listed_output}
use Rattle.docket.proofs.ListVerdicts.{verdicts_of, are_verdicts}
use Rattle.docket.proofs.ReportDue.{lines_due}
use Rattle.docket.proofs.Lists.{lodges}
use Rattle.docket.proofs.Reports.{shown_reached}
use Rattle.docket.proofs.Demand3.{demand3}
use Rattle.docket.proofs.Determined.{answers_are_due}
use Rattle.std.specs.Prelude.{Some, None}
use Rattle.list.specs.Listing.{too_much, listing_text, listed_of, output_of}
use Rattle.list.proofs.ListedCases.{input_listed, input_refused, small_answer, small_output, large_answer, large_output}
use Rattle.list.proofs.ListedExample as example
use Rattle.list.proofs.list.Statement as list
use Rattle.list.proofs.list.Met as list_met

-- Demand 1, of the listing: it comes to its end and does nothing undefined, whatever input and output it is given
pub call_ends : {M : Type 1} → list.statement M
call_ends = list_met.met

-- That theorem asks nothing of the caller, and fixes all that comes back: list_says of Contracts.antt. So `listed_of` and `output_of` below are what it does

-- what is held after a list shows the lines that are due to its texts
shown_due : (texts : List (List ℕ)) (vs : List Verdict) → Are none texts vs → ReportDue vs (report_text (after texts).held)
shown_due texts vs are =
    let r = lodges none [] (refl, refl) texts in
    subst (λ (us : List Verdict). ReportDue us (report_text (after texts).held)) (are_verdicts none texts vs tt are)
    (subst (ReportDue (verdicts_of none texts)) (ap text_shown (sym r.docket_is) ∙ shown_reached texts)
    (lines_due (given (verdicts_of none texts)) (verdicts_of none texts) r.proper))

-- an input has one list of pieces: they are cut as document 01 says, and joined they are the input
pub one_cut : (input : List ℕ) → (texts : List (List ℕ)) × (Cut texts × (flatten texts ≡ input)) × ((ps : List (List ℕ)) → Cut ps → flatten ps ≡ input → ps ≡ texts)
one_cut input = (pieces input, (pieces_cut input, joined_pieces input), the_cut input)

-- of at most 65,536 bytes: a line for the answer due to each piece, then the report due after them; the bytes behind stay
pub lists : (input output : List ℕ) (texts : List (List ℕ)) → Cut texts → flatten texts ≡ input → (vs : List Verdict) → Are none texts vs
    → length input ≤ 65536 → 1048576 ≤ length output
    → (lines : List ℕ) × ReportDue vs lines × (output_of input output ≡ over (stated_lines (answers_due [] vs) ++ lines) output)
    × (listed_of input output ≡ Some (length (stated_lines (answers_due [] vs) ++ lines)))
lists input output ps cut whole vs of few room =
    let texts = pieces input in
    let are = subst (λ (ts : List (List ℕ)). Are none ts vs) (the_cut input ps cut whole) of in
    let lines = report_text (after texts).held in
    let l = stated_lines (answers_due [] vs) ++ lines in
    let is : listing_text input ≡ l =
    input_listed input output few
    ∙ ap (λ (x : List ℕ). x ++ lines)
    (example.lines_stated (answers_to lodge_of fresh_docket texts) ∙ ap stated_lines (answers_are_due lodge_of demand3 texts vs are)) in
    (lines, shown_due texts vs are, sym (large_output input output room l is), sym (large_answer input output room l is))

-- of more bytes nothing is lodged: 11 is the one answer, and the report is that of no text
pub lists_eleven : (input output : List ℕ) → 65536 < length input → 1048576 ≤ length output
    → (lines : List ℕ) × ReportDue [] lines × (output_of input output ≡ over (answer_line (refused 11 0 0 0) ++ lines) output)
    × (listed_of input output ≡ Some (length (answer_line (refused 11 0 0 0) ++ lines)))
lists_eleven input output many room =
    let is = input_refused input output many in
    (report_text nothing_held, shown_due [] [] no_more, sym (large_output input output room too_much is), sym (large_answer input output room too_much is))

-- an output of fewer than 1,048,576 bytes stays as it was
pub lists_nothing : (input output : List ℕ) → length output < 1048576 → (listed_of input output ≡ None) × (output_of input output ≡ output)
lists_nothing input output small = (sym (small_answer input output small), sym (small_output input output small))

-- ---- A witness: document 01's example, byte for byte

pub lists_example : (output : List ℕ) → 1048576 ≤ length output → output_of listed_input output ≡ over listed_output output
lists_example output room = sym (large_output listed_input output room listed_output example.input_listed)
