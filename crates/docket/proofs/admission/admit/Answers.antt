-- `admit` meets its contract: a text that is too long is 11, any other goes by its first line.
use Rattle.std.proofs.Common.{Err, ap, ◌∙◌, arith}
use Rattle.docket.proofs.HoldingAnswers.{admit_long, admit_short}
use Rattle.docket.proofs.admission.admit.Goals as goal

pub returns-then-text-gt-MOST_BYTES : goal.returns-then-text-gt-MOST_BYTES
returns-then-text-gt-MOST_BYTES c =
    let a = c.args in
    ap Err c.refuse.ensures ∙ admit_long a.known a.text.now (omega (arith, c.if-text-gt-MOST_BYTES.true))

pub returns : goal.returns
returns c =
    let a = c.args in
    simp (c.admit_kind.ensures, c.read_kind.ensures) (admit_short a.known a.text.now (omega (arith, c.if-text-gt-MOST_BYTES.false)))
