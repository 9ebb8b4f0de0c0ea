use Rattle.std.proofs.Common.{ℕ, List, ◌++◌, length, replicate, ap, ◌∙◌, arith}
use Rattle.std.proofs.lemmas.List.{drop-replicate}
use lib.Seq.{take_all}
use Rattle.model.specs.Held.{pad}
use Rattle.writer.specs.Written.{over}
use Rattle.answer.proofs.values.padded.Goals as goal

pub returns : goal.returns
unfolding pad
returns c =
    let s = c.args.first.now in
    c.loop-i.invariant
    ∙ ap (λ (l : List ℕ). over l (replicate 16 0)) (take_all c.loop-i.i s (omega arith))
    ∙ ap (λ (l : List ℕ). s ++ l) (drop-replicate (length s) 16 0)
