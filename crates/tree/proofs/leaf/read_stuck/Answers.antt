-- The line is the one that names a unit, and the rule decides between good and 34.
use borrow.Author.Rules.{rules}
use mathlib.Core.Path.{refl, ap, ◌∙◌}
use Prim.Native.Nat.{ℕ, ◌<◌}
use native.Mathlib.Omega.{arith}
use lib.ListN.{length}
use Rattle.layout.specs.Numbers.{instance_in}
use Rattle.walk.specs.Marks.{above_of}
use Rattle.walk.proofs.AboveMarks.{statuses_inside}
use Rattle.model.specs.Leaf.{stuck_at}
use Rattle.tree.specs.Rendering.{stuck_key}
use Rattle.tree.specs.ReadAnswers.{named_line_read, ruled}
use Rattle.tree.proofs.Keys.{stuck_begins}
use Rattle.tree.proofs.RuledLeaves.{stuck_ruled}
use Rattle.tree.proofs.leaf.read_stuck.Goals as goal

pub read_ruled-requires : goal.read_ruled-requires
read_ruled-requires c =
    let few = c.args.plan.laid.well_formed.units_in.1 in record {
      placed = c.requires.placed;
      key_value = (refl, omega (arith, c.units-most.ensures, few));
      text_value = stuck_begins c.args.text.now c.args.at c.requires.at_value;
      callable = λ i h.
          let P = instance_in c.args.plan.numbers.now in
          let inside = statuses_inside P c.args.plan.laid.well_formed c.args.above.now c.requires.above_len in
          let k : i < length P.units = omega (arith, h, c.units-most.ensures) in
          search (rules, k, inside, c.args.plan.laid);
    }

pub returns : goal.returns
returns c =
    let a = c.args in
    let P = instance_in a.plan.numbers.now in
    let A = above_of P a.above.now in
    c.read_ruled.ensures (stuck_at P.periods P.units A.marks) (λ i b h post. search (rules, post))
    ∙ ap (λ (n : ℕ). ruled 34 (stuck_at P.periods P.units A.marks) a.line a.figures (named_line_read stuck_key n a.text.now a.at)) c.units-most.ensures
    ∙ stuck_ruled P a.text.now a.at a.line a.figures A 0 c.requires.at_value
