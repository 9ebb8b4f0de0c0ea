-- `not_off_of` meets its contract: only the byte 1 fixes off.
use Rattle.std.proofs.Common.{rules, ◌∙◌, ap, ◌+◌, ◌/◌, ℕ}
use Rattle.leaves.proofs.MarkBytes.{not_off_quotient}
use Rattle.leaves.proofs.marks.not_off_of.Goals as goal

pub returns : goal.returns
returns c = ap (λ (k : ℕ). (k + 255) / 256) c.from.ensures ∙ not_off_quotient c.args.mark (search rules)
