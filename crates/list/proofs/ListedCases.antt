-- The listing by its cases: an output that is too small, an input of more than 65,536 bytes, and the report after the answers.
use Prim.Native.Nat.{ℕ, ◌+◌, ◌≤◌, ◌<◌}
use native.Mathlib.Omega.{arith}
use mathlib.Core.Path.{◌≡◌, refl, sym, ap, ◌∙◌}
use mathlib.Core.Bool.{Bool, true, false, cond}
use mathlib.Core.List.{List, flatten}
use lib.Dec.{ltb}
use lib.ListN.{length, drop, length-append}
use borrow.Author.Tests.{lt-ltb, le-ltb}
use Rattle.decimal.specs.Decimal.{digits, digits_by}
use Rattle.refusal.specs.Refusals.{refusal_of, carries_line, carries_unit, carries_period}
use Rattle.pieces.specs.Pieces.{pieces}
use Rattle.writer.specs.Written.{over, figure}
use Rattle.report.specs.Report.{report_lines, written_at, placed_at, put_at}
use Rattle.std.specs.Prelude.{Ok, Some, None}
use Rattle.report.proofs.Places.{with_room}
use Rattle.answer.specs.declared.Answer.TheVariants.{Refused}
use Rattle.answer.specs.StatedAnswers.{refused, stated}
use Rattle.answer.specs.AnswerLines.{answer_line}
use Rattle.docket.specs.declared.Docket.{Docket}
use Rattle.docket.specs.Docket.{nothing_held, sound}
use Rattle.docket.specs.Report.{report_text, text_shown, report_of, buffer_of}
use Rattle.docket.proofs.Reports.{trusted_sound}
use Rattle.list.specs.Listing.{listed, too_much, listing_text, listed_of, output_of}

-- ---- the report of a docket that is sound, where it has room

module _ (d : Docket) (b : List ℕ) (k : ℕ) (s : sound d ≡ true) (room : k + length (report_text d.held) ≤ length b) where
  shown_is : text_shown d ≡ report_text d.held
  shown_is = ap (λ (x : Docket). report_text x.held) (trusted_sound d s)

  pub report_written : (report_of d b k).answer ≡ Ok (length (report_text d.held))
  unfolding report_of
  report_written = ap (written_at b k) shown_is ∙ (with_room b k (report_text d.held) room).0

  pub report_placed : buffer_of d b k ≡ put_at b k (report_text d.held)
  unfolding buffer_of
  report_placed = ap (placed_at b k) shown_is ∙ (with_room b k (report_text d.held) room).1

-- ---- the one answer to too much input

pub eleven : answer_line (stated (Refused (refusal_of 11 0 0 0))) ≡ answer_line (refused 11 0 0 0)
unfolding refusal_of carries_line carries_unit carries_period
eleven = refl

pub eleven_size : length (answer_line (refused 11 0 0 0)) ≡ 24
unfolding answer_line figure digits digits_by
eleven_size = refl

pub nothing_size : length (report_text nothing_held) ≡ 86
unfolding report_lines flatten figure
nothing_size = refl

-- ---- the answer and the output

module _ (input output : List ℕ) where
  pub small_answer : length output < 1048576 → None ≡ listed_of input output
  unfolding listed_of
  small_answer h = rw (lt-ltb (length output) 1048576 h)

  pub small_output : length output < 1048576 → output ≡ output_of input output
  unfolding output_of
  small_output h = rw (lt-ltb (length output) 1048576 h)

  pub input_refused : 65536 < length input → listing_text input ≡ too_much
  unfolding listing_text
  input_refused h = rw (lt-ltb 65536 (length input) h)

  pub input_listed : length input ≤ 65536 → listing_text input ≡ listed (pieces input)
  unfolding listing_text
  input_listed h = rw (le-ltb 65536 (length input) h)

  module _ (h : 1048576 ≤ length output) (l : List ℕ) (is : listing_text input ≡ l) where
    pub large_answer : Some (length l) ≡ listed_of input output
    unfolding listed_of
    large_answer = ap (λ (x : List ℕ). Some (length x)) (sym is) ∙ sym (ap (λ (t : Bool). cond t None (Some (length (listing_text input)))) (le-ltb (length output) 1048576 h))

    pub large_output : over l output ≡ output_of input output
    unfolding output_of
    large_output = ap (λ (x : List ℕ). over x output) (sym is) ∙ sym (ap (λ (t : Bool). cond t output (over (listing_text input) output)) (le-ltb (length output) 1048576 h))

-- what was written lies within the output
pub written_within : (input output : List ℕ) (k : ℕ) → listed_of input output ≡ Some k → k ≤ length (output_of input output)
unfolding listed_of output_of
written_within input output k e = go (ltb (length output) 1048576) e
  where
    go : (t : Bool) → cond t None (Some (length (listing_text input))) ≡ Some k → k ≤ length (cond t output (over (listing_text input) output))
    go true e = absurd (let z : ◌≡◌ {A = ℕ} 0 1 = cc in omega arith)
    go false e =
        let n : length (listing_text input) ≡ k = cc in
        omega (arith, length-append (listing_text input) (drop (length (listing_text input)) output))
