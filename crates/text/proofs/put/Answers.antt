use mathlib.Core.Path.{sym}
use lib.Seq.{set_out}
use Rattle.text.proofs.put.Goals as goal

pub returns-else-k-out : goal.returns-else-k-out
returns-else-k-out c = sym (set_out c.args.out.now c.args.k c.args.v c.if-k-out.false)
