-- The line is the one that names a period, and the rule decides between good and 36.
use borrow.Author.Rules.{rules}
use mathlib.Core.Path.{refl, ap, ◌∙◌}
use Prim.Native.Nat.{ℕ, ◌<◌}
use native.Mathlib.Omega.{arith}
use Rattle.layout.specs.Numbers.{instance_in}
use Rattle.walk.specs.Marks.{above_of}
use Rattle.leaves.specs.LeafLeasts.{crowd_at}
use Rattle.tree.specs.Rendering.{crowd_key}
use Rattle.tree.specs.ReadAnswers.{named_line_read, ruled}
use Rattle.tree.proofs.Keys.{crowd_begins}
use Rattle.tree.proofs.RuledLeaves.{crowd_ruled}
use Rattle.tree.proofs.leaf.read_crowd.Goals as goal

pub read_ruled-requires : goal.read_ruled-requires
read_ruled-requires c =
    let few = c.args.plan.laid.well_formed.periods_in.1 in record {
      placed = c.requires.placed;
      key_value = (refl, omega (arith, c.periods-most.ensures, few));
      text_value = crowd_begins c.args.text.now c.args.at c.requires.at_value;
      callable = λ i h.
          let k : i < (instance_in c.args.plan.numbers.now).periods = omega (arith, h, c.periods-most.ensures) in
          search (rules, k, c.args.plan.laid, c.requires.above_len);
    }

pub returns : goal.returns
returns c =
    let a = c.args in
    let P = instance_in a.plan.numbers.now in
    let A = above_of P a.above.now in
    c.read_ruled.ensures (crowd_at P A) (λ i b h post. search (rules, post))
    ∙ ap (λ (n : ℕ). ruled 36 (crowd_at P A) a.line a.figures (named_line_read crowd_key n a.text.now a.at)) c.periods-most.ensures
    ∙ crowd_ruled P a.text.now a.at a.line a.figures A 0 c.requires.at_value
