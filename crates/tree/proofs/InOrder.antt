-- The numbers of a tree's lines are tried in document 01's order, whatever is due.
use mathlib.Core.List.{[], ◌∷◌}
use Prim.Native.Nat.{ℕ}
use Rattle.model.specs.Instance.{Instance}
use Rattle.model.specs.Above.{Above}
use Rattle.text.specs.Lines.{Line, end_tree}
use Rattle.text.specs.Writer.{writer_form}
use Rattle.text.proofs.InOrder.{after_form, InTurn, no_more, taken, left_out, numbers, InOrder, form_in_order, word_in_order, nothing_in_order}
use Rattle.tree.specs.Places.{Part}
use Rattle.tree.specs.NodeLines.{line_kind_of, kind_tests, leaf_tests}
use Rattle.tree.specs.Refusals.{LineKind, split_line, count_line, short_line, crowd_line, stuck_line, price_line, ramp_line, node_form, part_form}
use Rattle.tree.specs.Course.{Due, writer_due, nodes_due, part_due, nothing_due, tests}

-- a node line by its kind: 31 and 32, 32 and 37, 33, 36, 34, or none
kind_in_turn : (P : Instance) (A : Above) (d : ℕ) (k : LineKind) (l : Line) → InTurn (numbers (kind_tests P A d k l)) after_form
unfolding kind_tests
kind_in_turn P A d split_line l = left_out (taken (taken no_more))
kind_in_turn P A d count_line l = left_out (left_out (taken (left_out (left_out (left_out (left_out (taken no_more)))))))
kind_in_turn P A d short_line l = left_out (left_out (left_out (taken no_more)))
kind_in_turn P A d crowd_line l = left_out (left_out (left_out (left_out (left_out (left_out (taken no_more))))))
kind_in_turn P A d stuck_line l = left_out (left_out (left_out (left_out (taken no_more))))
kind_in_turn P A d price_line l = no_more
kind_in_turn P A d ramp_line l = no_more

-- a later line of a leaf: 35
leaf_in_turn : (P : Instance) (A : Above) (p : Part) → InTurn (numbers (leaf_tests P A p)) after_form
unfolding leaf_tests
leaf_in_turn P A p = left_out (left_out (left_out (left_out (left_out (taken no_more)))))

pub in_order : (P : Instance) (s : Due) (l : Line) → InOrder (tests P s l)
unfolding tests
in_order P writer_due l = form_in_order writer_form l [] no_more
in_order P (nodes_due F []) l = word_in_order end_tree l
in_order P (nodes_due F (p ∷ ps)) l =
    let k = line_kind_of l in
    form_in_order (node_form P k) l (kind_tests P p.above p.depth k l) (kind_in_turn P p.above p.depth k l)
in_order P (part_due F A p ps) l = form_in_order (part_form P p) l (leaf_tests P A p) (leaf_in_turn P A p)
in_order P (nothing_due F) l = nothing_in_order
