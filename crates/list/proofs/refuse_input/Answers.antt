-- `refuse_input` meets its contract: the line of 11 and the report of a fresh docket, which holds nothing, have 24 and 86 bytes.
use Prim.Native.Nat.{ℕ}
use native.Mathlib.Omega.{arith}
use mathlib.Core.Path.{◌≡◌, ap, ◌∙◌}
use mathlib.Core.List.{List}
use lib.ListN.{length, length-append}
use Rattle.refusal.specs.declared.Refusal.{Refusal}
use Rattle.refusal.specs.Refusals.{refusal_of}
use Rattle.writer.specs.Written.{over}
use Rattle.writer.proofs.Parts.{length_over}
use Rattle.report.specs.Report.{put_at}
use Rattle.answer.specs.declared.Answer.TheVariants.{Refused}
use Rattle.answer.specs.StatedAnswers.{refused, stated}
use Rattle.answer.specs.AnswerLines.{answer_line}
use Rattle.docket.specs.declared.Docket.{Docket}
use Rattle.docket.specs.Docket.{nothing_held, sound}
use Rattle.docket.specs.Report.{report_text}
use Rattle.docket.proofs.HoldingAnswers.{fresh_sound}
use Rattle.list.proofs.ListedSoFar.{place_on}
use Rattle.list.proofs.ListedCases.{eleven, eleven_size, nothing_size}
use Rattle.list.proofs.refuse_input.Goals as goal
use Rattle.list.proofs.refuse_input.Tie as tie
use Rattle.list.proofs.refuse_input.Reads as reads
use Rattle.list.proofs.refuse_input.Lts as lts

abbrev line : List ℕ
line = answer_line (refused 11 0 0 0)

-- the line is that of 11
line_is : (r : Refusal) → r ≡ refusal_of 11 0 0 0 → answer_line (stated (Refused r)) ≡ line
line_is r e = ap (λ (x : Refusal). answer_line (stated (Refused x))) e ∙ eleven

-- what stands in the output after the line
module _ (c : lts.After-write_refusal tie.the-claims reads.Pre reads.Post tie.handed_clauses) where
  many : c.write_refusal-n.result ≡ length line
  many = c.write_refusal-n.ensures.value ∙ ap length (line_is c.refuse.result c.refuse.ensures)

  written : c.write_refusal-n.new.buf ≡ over line c.args.output.now
  written = c.write_refusal-n.ensures.buf_after ∙ ap (λ (l : List ℕ). over l c.args.output.now) (line_is c.refuse.result c.refuse.ensures)

pub write_refusal-n-requires : goal.write_refusal-n-requires
write_refusal-n-requires c =
    omega (arith, ap length (line_is c.refuse.result c.refuse.ensures), eleven_size, c.requires)

pub write_report-requires : goal.write_report-requires
write_report-requires c =
    let room = c.args.output.now in
    let f = c.fresh.ensures in record {
      docket_value = ap sound f ∙ fresh_sound;
      held_in_bounds = omega (
        arith,
        ap (λ (d : Docket). length (report_text d.held)) f,
        nothing_size,
        eleven_size,
        many c.before.before.before.before,
        ap length (written c.before.before.before.before) ∙ length_over line room (omega (arith, eleven_size, c.requires)),
        c.requires,
      );
    }

pub returns : goal.returns
returns c =
    let room = c.args.output.now in
    let f = c.fresh.ensures in
    let r = c.write_report in record {
      value = omega (arith, r.ensures.value, many c.before.before.before.before.before.before.before.before, ap (λ (d : Docket). length (report_text d.held)) f, length-append line (report_text nothing_held));
      output_after = r.ensures.output_after
          ∙ ap (λ (d : Docket). put_at c.write_refusal-n.new.buf c.write_refusal-n.result (report_text d.held)) f
          ∙ ap (λ (x : List ℕ). put_at x c.write_refusal-n.result (report_text nothing_held)) (written c.before.before.before.before.before.before.before.before)
          ∙ ap (λ (k : ℕ). put_at (over line room) k (report_text nothing_held)) (many c.before.before.before.before.before.before.before.before)
          ∙ place_on line (report_text nothing_held) room;
    }
