use Rattle.std.proofs.Common.{arith}
use mathlib.Core.Path.{sym, ap, ◌∙◌}
use mathlib.Core.List.{List}
use lib.ListN.{set, length-set}
use Rattle.std.specs.Prelude.{Ok, Err}
use Rattle.std.proofs.lemmas.Result.{err_from_is_err_and}
use Rattle.model.specs.Instance.{◌at◌}
use Rattle.layout.specs.Numbers.{instance_in}
use Rattle.walk.specs.Marks.{above_of}
use Rattle.tree.specs.Kinds.{line_kind}
use Rattle.tree.specs.ReadAnswers.{node_read}
use Rattle.tree.proofs.Marked.{set_length, set_back}
use Rattle.tree.proofs.ForkLines.{fork_says}
use Rattle.tree.proofs.ReadLines.{node_past, moved_placed}
use Rattle.tree.proofs.Leaves.{leaf_anywhere}
use Rattle.tree.proofs.WaysThrough.{node_refused, node_fork, trees_refused, trees_both}
use Prim.Native.Nat.{ℕ}
use Rattle.tree.proofs.node.+read_node_read_split.Goals as goal

-- ---- a node

pub read_node-read_split-requires : goal.read_node-read_split-requires
read_node-read_split-requires t c =
    let a = c.args in
    let P = instance_in a.plan.numbers.now in
    let A = above_of P a.above.now in
    let kind = sym c.find_kind.ensures ∙ ap line_kind c.in-Fork.is in
    let k = fork_says P c.args.plan.laid.well_formed a.text.now a.at a.above.now c.requires.depth_bound.1 a.depth c.in-Fork.kind kind (Ok c.in-Ok.fork) (sym c.in-Ok.is ∙ c.read_fork_line.ensures) in (
      omega (arith, c.decreases, k.moved.fewer),
      (
        moved_placed a.text.now a.at a.line a.figures c.requires.placed c.in-Ok.fork.next k.moved c.with_split-more.result (rw c.with_split-more.ensures (omega arith)),
        ((omega (arith, k.depth), c.requires.depth_bound.1), (k.first_in, k.second_in)),
      ),
    )

pub read_node-returns-in-Leaf-clause-read : goal.read_node-returns-in-Leaf-clause-read
read_node-returns-in-Leaf-clause-read t c =
    let a = c.args in
    let P = instance_in a.plan.numbers.now in
    let A = above_of P a.above.now in
    let kind = sym c.find_kind.ensures ∙ ap line_kind c.in-Leaf.is in
    c.read_leaf.ensures ∙ leaf_anywhere P a.text.now a.at a.line a.figures A a.depth c.in-Leaf.leaf kind

pub read_node-returns-in-Err-clause-read : goal.read_node-returns-in-Err-clause-read
read_node-returns-in-Err-clause-read t c =
    let a = c.args in
    let P = instance_in a.plan.numbers.now in
    let A = above_of P a.above.now in
    let kind = sym c.find_kind.ensures ∙ ap line_kind c.in-Fork.is in
    let k = fork_says P c.args.plan.laid.well_formed a.text.now a.at a.above.now c.requires.depth_bound.1 a.depth c.in-Fork.kind kind (Err c.in-Err.number) (sym c.in-Err.is ∙ c.read_fork_line.ensures) in
    node_refused P a.text.now a.at a.line a.figures A a.depth c.in-Err.number k

pub read_node-returns-in-Ok-clause-read : goal.read_node-returns-in-Ok-clause-read
read_node-returns-in-Ok-clause-read t c =
    let a = c.args in
    let P = instance_in a.plan.numbers.now in
    let A = above_of P a.above.now in
    let kind = sym c.find_kind.ensures ∙ ap line_kind c.in-Fork.is in
    let k = fork_says P c.args.plan.laid.well_formed a.text.now a.at a.above.now c.requires.depth_bound.1 a.depth c.in-Fork.kind kind (Ok c.in-Ok.fork) (sym c.in-Ok.is ∙ c.read_fork_line.ensures) in
    let trees = rw (k.first_is, k.second_is, c.with_split-more.ensures) at c.read_split.ensures.read in
    node_fork P a.text.now a.at a.line a.figures A a.depth k.on c.in-Ok.fork.next c.read_split.result k.judged k.moved trees

-- ---- the trees of a fork

pub read_split-read_node-two-requires : goal.read_split-read_node-two-requires
read_split-read_node-two-requires t c =
    let a = c.args in
    let q = node_past _ _ _ _ _ _ _ c.requires.placed _ (sym c.in_ok-one.was ∙ c.read_node-one.ensures.read) in
    let long = set_length a.above.now a.fork.first.place a.fork.first.byte c.read_node-one.ensures.same ∙ c.requires.depth_bound.1 in
    (omega (arith, c.decreases, q.1), (q.0, (c.requires.depth_bound.0, simp length-set long)))

pub read_split-returns-in_err-one-clause-read : goal.read_split-returns-in_err-one-clause-read
read_split-returns-in_err-one-clause-read t c =
    let a = c.args in
    let P = instance_in a.plan.numbers.now in
    let p = err_from_is_err_and c.from_residual.result c.from_residual.ensures.1 in
    rw (p.1, p.2) (trees_refused P a.text.now a.fork.next a.line a.figures (above_of P (set a.above.now a.fork.first.place a.fork.first.byte)) a.depth
    (above_of P (set a.above.now a.fork.second.place a.fork.second.byte)) _ (sym c.in_err-one.was ∙ c.read_node-one.ensures.read))

-- the first side's byte is taken back
pub read_split-returns-in_err-one-clause-same : goal.read_split-returns-in_err-one-clause-same
read_split-returns-in_err-one-clause-same t c = set_back c.args.above.now c.args.fork.first.place c.args.fork.first.byte c.read_node-one.ensures.same

pub read_split-returns-clause-read : goal.read_split-returns-clause-read
read_split-returns-clause-read t c =
    let a = c.args in
    let P = instance_in a.plan.numbers.now in
    let one = c.in_ok-one.one in
    let back = set_back a.above.now a.fork.first.place a.fork.first.byte c.read_node-one.ensures.same in
    trees_both P a.text.now a.fork.next a.line a.figures (above_of P (set a.above.now a.fork.first.place a.fork.first.byte)) a.depth
    (above_of P (set a.above.now a.fork.second.place a.fork.second.byte)) one c.read_node-two.result (sym c.in_ok-one.was ∙ c.read_node-one.ensures.read)
    (c.read_node-two.ensures.read
    ∙ ap (λ (x : List ℕ). node_read P a.text.now one.next one.line one.figures (above_of P (set x a.fork.second.place a.fork.second.byte)) a.depth) back)

pub read_split-returns-clause-same : goal.read_split-returns-clause-same
read_split-returns-clause-same t c =
    let a = c.args in
    set_back (set c.read_node-one.new.above a.fork.first.place (a.above.now at a.fork.first.place)) a.fork.second.place a.fork.second.byte c.read_node-two.ensures.same
    ∙ set_back a.above.now a.fork.first.place a.fork.first.byte c.read_node-one.ensures.same
