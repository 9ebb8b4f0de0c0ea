-- `list` meets its contract: an output that is too small is left, and else the listing is written, for too much input the one answer.
use mathlib.Core.Path.{ap, ◌∙◌}
use Rattle.pieces.specs.Pieces.{pieces}
use Rattle.std.specs.Prelude.{Some}
use Rattle.list.specs.Listing.{listed, too_much}
use Rattle.list.proofs.ListedCases.{small_answer, small_output, input_refused, input_listed, large_answer, large_output}
use Rattle.list.proofs.list.Goals as goal

pub returns-then-output-lt1048576 : goal.returns-then-output-lt1048576
returns-then-output-lt1048576 c =
    let a = c.args in
    record { answer = small_answer a.input.now a.output.now c.if-output-lt1048576.true; bytes = small_output a.input.now a.output.now c.if-output-lt1048576.true }

pub returns-then-input-gt65536 : goal.returns-then-input-gt65536
returns-then-input-gt65536 c =
    let a = c.args in
    let is = input_refused a.input.now a.output.now c.if-input-gt65536.true in record { answer = ap Some c.refuse_input.ensures.value ∙ large_answer a.input.now a.output.now c.if-output-lt1048576.false too_much is; bytes = c.refuse_input.ensures.output_after ∙ large_output a.input.now a.output.now c.if-output-lt1048576.false too_much is }

pub returns : goal.returns
returns c =
    let a = c.args in
    let is = input_listed a.input.now a.output.now c.if-input-gt65536.false in record { answer = ap Some c.lodge_pieces.ensures.value ∙ large_answer a.input.now a.output.now c.if-output-lt1048576.false (listed (pieces a.input.now)) is; bytes = c.lodge_pieces.ensures.output_after ∙ large_output a.input.now a.output.now c.if-output-lt1048576.false (listed (pieces a.input.now)) is }
