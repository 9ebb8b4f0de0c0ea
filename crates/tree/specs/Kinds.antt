-- The code's kinds of node lines.
use Rattle.tree.specs.declared.forking.ForkKind.{ForkKind}
use Rattle.tree.specs.declared.forking.ForkKind.TheVariants.{Split, Count}
use Rattle.tree.specs.declared.leaf.LeafKind.{LeafKind}
use Rattle.tree.specs.declared.leaf.LeafKind.TheVariants.{Short, Crowd, Stuck, Price, Ramp}
use Rattle.tree.specs.declared.node.NodeKind.{NodeKind}
use Rattle.tree.specs.declared.node.NodeKind.TheVariants.{Fork, Leaf}
use Rattle.tree.specs.Refusals.{LineKind, split_line, count_line, short_line, crowd_line, stuck_line, price_line, ramp_line}

abbrev pub fork_kind : ForkKind → LineKind
fork_kind Split = split_line
fork_kind Count = count_line

abbrev pub leaf_kind : LeafKind → LineKind
leaf_kind Short = short_line
leaf_kind Crowd = crowd_line
leaf_kind Stuck = stuck_line
leaf_kind Price = price_line
leaf_kind Ramp = ramp_line

abbrev pub line_kind : NodeKind → LineKind
line_kind (Fork k) = fork_kind k
line_kind (Leaf k) = leaf_kind k
