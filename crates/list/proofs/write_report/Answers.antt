-- `write_report` meets its contract: the docket is sound and the report has room, so that it is written.
use Prim.Native.Nat.{ℕ, ◌+◌}
use native.Mathlib.Omega.{arith}
use mathlib.Core.Path.{◌≡◌, ap, ◌∙◌}
use lib.ListN.{length}
use Rattle.docket.specs.declared.Reported.{Reported}
use Rattle.std.specs.Prelude.{Ok}
use Rattle.docket.specs.Report.{report_text}
use Rattle.list.proofs.ListedCases.{report_written, report_placed}
use Rattle.list.proofs.write_report.Goals as goal
use Rattle.list.proofs.write_report.Tie as tie
use Rattle.list.proofs.write_report.Reads as reads
use Rattle.list.proofs.write_report.Lts as lts

-- what the report answered, and what it left in the output
module _ (c : lts.After-report tie.the-claims reads.Pre reads.Post tie.handed_clauses) where
  answered : c.report.result.answer ≡ Ok (length (report_text c.args.docket.held))
  answered =
      ap (λ (r : Reported). r.answer) c.report.ensures.answer ∙ report_written c.args.docket c.args.output.now c.args.n c.requires.docket_value c.requires.held_in_bounds

pub overflow_add-result : goal.overflow_add-result
overflow_add-result c =
    let w = answered c.before.before.before.before in
    let k : c.in-Ok.k ≡ length (report_text c.args.docket.held) = cc c.in-Ok.is in
    omega (arith, k, c.requires.held_in_bounds, c.well_formed)

pub returns-in-Err : goal.returns-in-Err
returns-in-Err c =
    let w = answered c.before.before.before.before in
    let z : ◌≡◌ {A = ℕ} 0 1 = cc c.in-Err.is in
    record { value = absurd (omega arith); output_after = absurd (omega arith) }

pub returns-in-Ok : goal.returns-in-Ok
returns-in-Ok c =
    let w = answered c.before.before.before.before in
    let k : c.in-Ok.k ≡ length (report_text c.args.docket.held) = cc c.in-Ok.is in
    record { value = ap (λ (x : ℕ). c.args.n + x) k; output_after = c.report.ensures.bytes ∙ report_placed c.args.docket c.args.output.now c.args.n c.requires.docket_value c.requires.held_in_bounds }
