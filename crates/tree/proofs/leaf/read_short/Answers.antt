-- The line is the one that names a period, and the rule decides between good and 33.
use borrow.Author.Rules.{rules}
use mathlib.Core.Path.{refl, ap, ◌∙◌}
use Prim.Native.Nat.{ℕ, ◌<◌}
use native.Mathlib.Omega.{arith}
use Rattle.layout.specs.Numbers.{instance_in}
use Rattle.walk.specs.Marks.{above_of}
use Rattle.leaves.specs.LeafLeasts.{short_at}
use Rattle.tree.specs.Rendering.{short_key}
use Rattle.tree.specs.ReadAnswers.{named_line_read, ruled}
use Rattle.tree.proofs.Keys.{short_begins}
use Rattle.tree.proofs.RuledLeaves.{short_ruled}
use Rattle.tree.proofs.leaf.read_short.Goals as goal

pub read_ruled-requires : goal.read_ruled-requires
read_ruled-requires c =
    let few = c.args.plan.laid.well_formed.periods_in.1 in record {
      placed = c.requires.placed;
      key_value = (refl, omega (arith, c.periods-most.ensures, few));
      text_value = short_begins c.args.text.now c.args.at c.requires.at_value;
      callable = λ i h.
          let k : i < (instance_in c.args.plan.numbers.now).periods = omega (arith, h, c.periods-most.ensures) in
          search (rules, k, c.args.plan.laid, c.requires.above_len);
    }

pub returns : goal.returns
returns c =
    let a = c.args in
    let P = instance_in a.plan.numbers.now in
    let A = above_of P a.above.now in
    c.read_ruled.ensures (short_at P A) (λ i b h post. search (rules, post))
    ∙ ap (λ (n : ℕ). ruled 33 (short_at P A) a.line a.figures (named_line_read short_key n a.text.now a.at)) c.periods-most.ensures
    ∙ short_ruled P a.text.now a.at a.line a.figures A 0 c.requires.at_value
