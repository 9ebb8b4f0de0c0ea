-- Document 01's example of a tree, accepted, trees with counts (document 02, [1]), and texts that each number refuses, computed on its problem.
use mathlib.Core.Path.{◌≡◌, refl, sym, ap, ◌∙◌}
use mathlib.Core.Bool.{true, false}
use mathlib.Core.List.{List, [], ◌∷◌}
use Prim.Native.Nat.{ℕ}
use lib.Dec.{lit<, lit≤}
use lib.IntN.{pos}
use Rattle.decimal.specs.Decimal.{digits, digits_by}
use Rattle.model.specs.declared.generator.Generator.{Generator}
use Rattle.model.specs.Instance.{Instance}
use Rattle.model.specs.Above.{root, status}
use Rattle.model.specs.CountExamples.{by_count, by_both, count_limits, count_holds}
use Rattle.model.specs.Cost.{row_cost}
use Rattle.model.specs.Leaf.{usable, available, fixed_on, rows_of, is_stuck, revenue, value, unit_least, units_least, requirement, leaf_value}
use Rattle.model.specs.Figures.{Bound}
use Rattle.std.specs.Prelude.{Some as number}
use Rattle.model.specs.Figures.{tree_gives}
use Rattle.model.specs.Tree.{short, crowd, price, Tree, leaf, fork, GoodLeaf, LeafHolds, leaf_bound, Limits, Holds, bound, splits, leaves}
use Rattle.refusal.specs.Refusals.{line_refusal}
use Rattle.text.specs.Lines.{kind_tree}
use Rattle.text.specs.Course.{accepted, refused_at, judged_from}
use Rattle.text.specs.Forms.{malformed, wrong_count, outside_range}
use Rattle.text.specs.Rendering.{plain_line, text_of}
use Rattle.text.specs.Strings.{lines}
use Rattle.text.specs.Writer.{writer_key}
use Rattle.text.proofs.Courses as courses
use Rattle.text.proofs.WellFormed.{form_only}
use Rattle.tree.specs.Rendering.{split_key, short_key, node_lines, render}
use Rattle.tree.specs.NodeLines.{line_kind_of, kind_tests, leaf_tests}
use Rattle.tree.specs.Acceptance.{bounded}
use Rattle.tree.specs.Course.{writer_due, tests, after_node, after_part, next_due, judge, end, tree_judged}
use Rattle.tree.specs.WellFormed.{WellFormed}
use Rattle.tree.specs.ReadAnswers.{answered, read_as, tree_read}
use Rattle.std.specs.Prelude.{Err}
use Rattle.tree.proofs.Complete.{tree_accepted}
use Rattle.tree.proofs.Acceptance.{refused_is}
use Rattle.tree.proofs.ReadAnswers.{read_refused}
use Rattle.tree.proofs.WhichLine.{line_broken_is}
use Rattle.tree.proofs.WellFormed.{well_formed_is}

-- ---- document 01's problem and tree

abbrev first : Generator
first = record { a = 100; b = 10; c = 0; pL = 20; pU = 80; TU = 2; TD = 2; on = true; since = 3; DR = 30; UR = 30; Hsc = 50; Csc = 90; Tcold = 1; Dc = 5; p0 = 60 }

abbrev second : Generator
second = record { a = 40; b = 14; c = 0; pL = 10; pU = 50; TU = 1; TD = 1; on = false; since = 2; DR = 50; UR = 50; Hsc = 20; Csc = 60; Tcold = 0; Dc = 0; p0 = 0 }

abbrev problem : Instance
problem = record { periods = 2; demand = 60 ∷ 100 ∷ []; spare = 10 ∷ 10 ∷ []; units = first ∷ second ∷ [] }

abbrev tree : Tree
tree = fork (status 1 1) (leaf (short 1)) (leaf (price (10 ∷ 14 ∷ []) (0 ∷ 0 ∷ [])))

-- kind=tree / writer=3 / split=2,2 / short=2 / price=10,14 / reserve=0,0 / end=tree
abbrev text : List ℕ
text =
    107 ∷ 105 ∷ 110 ∷ 100 ∷ 61 ∷ 116 ∷ 114 ∷ 101 ∷ 101 ∷ 10 ∷
    119 ∷ 114 ∷ 105 ∷ 116 ∷ 101 ∷ 114 ∷ 61 ∷ 51 ∷ 10 ∷
    115 ∷ 112 ∷ 108 ∷ 105 ∷ 116 ∷ 61 ∷ 50 ∷ 44 ∷ 50 ∷ 10 ∷
    115 ∷ 104 ∷ 111 ∷ 114 ∷ 116 ∷ 61 ∷ 50 ∷ 10 ∷
    112 ∷ 114 ∷ 105 ∷ 99 ∷ 101 ∷ 61 ∷ 49 ∷ 48 ∷ 44 ∷ 49 ∷ 52 ∷ 10 ∷
    114 ∷ 101 ∷ 115 ∷ 101 ∷ 114 ∷ 118 ∷ 101 ∷ 61 ∷ 48 ∷ 44 ∷ 48 ∷ 10 ∷
    101 ∷ 110 ∷ 100 ∷ 61 ∷ 116 ∷ 114 ∷ 101 ∷ 101 ∷ 10 ∷ []

written : render 3 tree ≡ text
unfolding render node_lines digits digits_by
written = refl

within : Limits problem root 0 tree
unfolding Limits GoodLeaf
within = ((lit< tt, lit< tt, refl), lit≤ tt, lit< tt, ((refl, ((lit≤ tt, lit≤ tt), ((lit≤ tt, lit≤ tt), tt))), (refl, ((lit≤ tt, lit≤ tt), ((lit≤ tt, lit≤ tt), tt)))))

holds : Holds problem root tree
unfolding Holds LeafHolds available usable is_stuck
holds = ((lit< tt, lit< tt), tt)

-- one split line and two leaves, and the bound of the tree
pub accepted_tree : tree_judged problem text ≡ accepted (bounded 3 (tree_gives (bound problem root tree) 1 2))
unfolding splits leaves
accepted_tree = ap (tree_judged problem) (sym written) ∙ tree_accepted problem (lit≤ tt) 3 tree (lit≤ tt, lit≤ tt) within holds

pub bound_1980 : bound problem root tree ≡ number (pos 1980)
unfolding bound leaf_bound leaf_value units_least unit_least rows_of value revenue requirement row_cost
bound_1980 = refl

-- ---- one price leaf alone: 10,14, and 0,2 on its reserve line

abbrev lone_price : Tree
lone_price = leaf (price (10 ∷ 14 ∷ []) (0 ∷ 2 ∷ []))

pub lone_price_accepted : tree_judged problem (render 3 lone_price) ≡ accepted (bounded 3 (tree_gives (number (pos 1940)) 0 1))
unfolding splits leaves Limits GoodLeaf Holds LeafHolds is_stuck bound leaf_bound leaf_value units_least unit_least rows_of value revenue requirement row_cost
lone_price_accepted =
    tree_accepted problem (lit≤ tt) 3 lone_price (lit≤ tt, lit≤ tt)
    ((refl, ((lit≤ tt, lit≤ tt), ((lit≤ tt, lit≤ tt), tt))), (refl, ((lit≤ tt, lit≤ tt), ((lit≤ tt, lit≤ tt), tt)))) tt

-- ---- trees with counts

abbrev count_text : List ℕ
count_text = lines ("kind=tree" ∷ "writer=3" ∷ "count=2,1" ∷ "short=2" ∷ "price=10,14" ∷ "reserve=0,0" ∷ "end=tree" ∷ [])

abbrev crowd_text : List ℕ
crowd_text = lines ("kind=tree" ∷ "writer=3" ∷ "count=2,1" ∷ "short=2" ∷ "split=2,2" ∷ "crowd=2" ∷ "price=10,14" ∷ "reserve=0,0" ∷ "end=tree" ∷ [])

counts_written : (render 3 by_count ≡ count_text) × (render 3 by_both ≡ crowd_text)
unfolding render node_lines digits digits_by
counts_written = (refl, refl)

-- the second is document 01's tree's, since the price leaf has the same statuses above it
counts_bound : (bound problem root by_count ≡ number (pos 1880)) × (bound problem root by_both ≡ bound problem root tree)
unfolding bound leaf_bound leaf_value units_least unit_least rows_of value revenue requirement row_cost
counts_bound = (refl, refl)

-- 1880 with one split line and two leaves; 1980 with two and three
pub counts_accepted : (tree_judged problem count_text ≡ accepted (bounded 3 (tree_gives (number (pos 1880)) 1 2)))
    × (tree_judged problem crowd_text ≡ accepted (bounded 3 (tree_gives (number (pos 1980)) 2 3)))
unfolding splits leaves
counts_accepted = (
  ap (tree_judged problem) (sym counts_written.0)
      ∙ tree_accepted problem (lit≤ tt) 3 by_count (lit≤ tt, lit≤ tt) count_limits.0 count_holds.0
      ∙ ap (λ (b : Bound). accepted (bounded 3 (tree_gives b 1 2))) counts_bound.0,
  ap (tree_judged problem) (sym counts_written.1)
      ∙ tree_accepted problem (lit≤ tt) 3 by_both (lit≤ tt, lit≤ tt) count_limits.1 count_holds.1
      ∙ ap (λ (b : Bound). accepted (bounded 3 (tree_gives b 2 3))) (counts_bound.1 ∙ bound_1980),
)

-- ---- texts that are refused

-- no second line
abbrev no_writer : List ℕ
no_writer =
    107 ∷ 105 ∷ 110 ∷ 100 ∷ 61 ∷ 116 ∷ 114 ∷ 101 ∷ 101 ∷ 10 ∷ []

no_writer_refused : tree_judged problem no_writer ≡ refused_at 12 2
unfolding tree_judged judged_from judge tests next_due after_node after_part line_kind_of malformed wrong_count outside_range kind_tests leaf_tests available usable is_stuck
no_writer_refused = refl

-- writer=0
abbrev writer_zero : List ℕ
writer_zero =
    107 ∷ 105 ∷ 110 ∷ 100 ∷ 61 ∷ 116 ∷ 114 ∷ 101 ∷ 101 ∷ 10 ∷
    119 ∷ 114 ∷ 105 ∷ 116 ∷ 101 ∷ 114 ∷ 61 ∷ 48 ∷ 10 ∷ []

writer_zero_refused : tree_judged problem writer_zero ≡ refused_at 13 2
unfolding tree_judged judged_from judge tests next_due after_node after_part line_kind_of malformed wrong_count outside_range kind_tests leaf_tests available usable is_stuck
writer_zero_refused = refl

-- a lone short=2
abbrev lone_short : List ℕ
lone_short =
    107 ∷ 105 ∷ 110 ∷ 100 ∷ 61 ∷ 116 ∷ 114 ∷ 101 ∷ 101 ∷ 10 ∷
    119 ∷ 114 ∷ 105 ∷ 116 ∷ 101 ∷ 114 ∷ 61 ∷ 51 ∷ 10 ∷
    115 ∷ 104 ∷ 111 ∷ 114 ∷ 116 ∷ 61 ∷ 50 ∷ 10 ∷
    101 ∷ 110 ∷ 100 ∷ 61 ∷ 116 ∷ 114 ∷ 101 ∷ 101 ∷ 10 ∷ []

lone_short_refused : tree_judged problem lone_short ≡ refused_at 33 3
unfolding tree_judged judged_from judge tests next_due after_node after_part line_kind_of malformed wrong_count outside_range kind_tests leaf_tests available usable is_stuck
lone_short_refused = refl

-- a lone stuck=1
abbrev lone_stuck : List ℕ
lone_stuck =
    107 ∷ 105 ∷ 110 ∷ 100 ∷ 61 ∷ 116 ∷ 114 ∷ 101 ∷ 101 ∷ 10 ∷
    119 ∷ 114 ∷ 105 ∷ 116 ∷ 101 ∷ 114 ∷ 61 ∷ 51 ∷ 10 ∷
    115 ∷ 116 ∷ 117 ∷ 99 ∷ 107 ∷ 61 ∷ 49 ∷ 10 ∷
    101 ∷ 110 ∷ 100 ∷ 61 ∷ 116 ∷ 114 ∷ 101 ∷ 101 ∷ 10 ∷ []

lone_stuck_refused : tree_judged problem lone_stuck ≡ refused_at 34 3
unfolding tree_judged judged_from judge tests next_due after_node after_part line_kind_of malformed wrong_count outside_range kind_tests leaf_tests available usable is_stuck
lone_stuck_refused = refl

-- split=0,1
abbrev no_unit : List ℕ
no_unit =
    107 ∷ 105 ∷ 110 ∷ 100 ∷ 61 ∷ 116 ∷ 114 ∷ 101 ∷ 101 ∷ 10 ∷
    119 ∷ 114 ∷ 105 ∷ 116 ∷ 101 ∷ 114 ∷ 61 ∷ 51 ∷ 10 ∷
    115 ∷ 112 ∷ 108 ∷ 105 ∷ 116 ∷ 61 ∷ 48 ∷ 44 ∷ 49 ∷ 10 ∷ []

no_unit_refused : tree_judged problem no_unit ≡ refused_at 13 3
unfolding tree_judged judged_from judge tests next_due after_node after_part line_kind_of malformed wrong_count outside_range kind_tests leaf_tests available usable is_stuck
no_unit_refused = refl

-- split=3: one value, and out of range
abbrev one_value : List ℕ
one_value =
    107 ∷ 105 ∷ 110 ∷ 100 ∷ 61 ∷ 116 ∷ 114 ∷ 101 ∷ 101 ∷ 10 ∷
    119 ∷ 114 ∷ 105 ∷ 116 ∷ 101 ∷ 114 ∷ 61 ∷ 51 ∷ 10 ∷
    115 ∷ 112 ∷ 108 ∷ 105 ∷ 116 ∷ 61 ∷ 51 ∷ 10 ∷ []

one_value_refused : tree_judged problem one_value ≡ refused_at 14 3
unfolding tree_judged judged_from judge tests next_due after_node after_part line_kind_of malformed wrong_count outside_range kind_tests leaf_tests available usable is_stuck
one_value_refused = refl

-- end=tree where a node is due
abbrev no_tree : List ℕ
no_tree =
    107 ∷ 105 ∷ 110 ∷ 100 ∷ 61 ∷ 116 ∷ 114 ∷ 101 ∷ 101 ∷ 10 ∷
    119 ∷ 114 ∷ 105 ∷ 116 ∷ 101 ∷ 114 ∷ 61 ∷ 51 ∷ 10 ∷
    101 ∷ 110 ∷ 100 ∷ 61 ∷ 116 ∷ 114 ∷ 101 ∷ 101 ∷ 10 ∷ []

no_tree_refused : tree_judged problem no_tree ≡ refused_at 12 3
unfolding tree_judged judged_from judge tests next_due after_node after_part line_kind_of malformed wrong_count outside_range kind_tests leaf_tests available usable is_stuck
no_tree_refused = refl

-- the first tree under split=1,1 begins with split=1,1
abbrev split_twice : List ℕ
split_twice =
    107 ∷ 105 ∷ 110 ∷ 100 ∷ 61 ∷ 116 ∷ 114 ∷ 101 ∷ 101 ∷ 10 ∷
    119 ∷ 114 ∷ 105 ∷ 116 ∷ 101 ∷ 114 ∷ 61 ∷ 51 ∷ 10 ∷
    115 ∷ 112 ∷ 108 ∷ 105 ∷ 116 ∷ 61 ∷ 49 ∷ 44 ∷ 49 ∷ 10 ∷
    115 ∷ 112 ∷ 108 ∷ 105 ∷ 116 ∷ 61 ∷ 49 ∷ 44 ∷ 49 ∷ 10 ∷ []

split_twice_refused : tree_judged problem split_twice ≡ refused_at 31 4
unfolding tree_judged judged_from judge tests next_due after_node after_part line_kind_of malformed wrong_count outside_range kind_tests leaf_tests available usable is_stuck
split_twice_refused = refl

-- unit 1 off in period 1 and on in period 2, against TD: at the reserve line
abbrev stuck_unit : List ℕ
stuck_unit =
    107 ∷ 105 ∷ 110 ∷ 100 ∷ 61 ∷ 116 ∷ 114 ∷ 101 ∷ 101 ∷ 10 ∷
    119 ∷ 114 ∷ 105 ∷ 116 ∷ 101 ∷ 114 ∷ 61 ∷ 51 ∷ 10 ∷
    115 ∷ 112 ∷ 108 ∷ 105 ∷ 116 ∷ 61 ∷ 49 ∷ 44 ∷ 49 ∷ 10 ∷
    115 ∷ 112 ∷ 108 ∷ 105 ∷ 116 ∷ 61 ∷ 49 ∷ 44 ∷ 50 ∷ 10 ∷
    112 ∷ 114 ∷ 105 ∷ 99 ∷ 101 ∷ 61 ∷ 49 ∷ 44 ∷ 49 ∷ 10 ∷
    114 ∷ 101 ∷ 115 ∷ 101 ∷ 114 ∷ 118 ∷ 101 ∷ 61 ∷ 49 ∷ 44 ∷ 49 ∷ 10 ∷
    112 ∷ 114 ∷ 105 ∷ 99 ∷ 101 ∷ 61 ∷ 49 ∷ 44 ∷ 49 ∷ 10 ∷
    114 ∷ 101 ∷ 115 ∷ 101 ∷ 114 ∷ 118 ∷ 101 ∷ 61 ∷ 49 ∷ 44 ∷ 49 ∷ 10 ∷ []

stuck_unit_refused : tree_judged problem stuck_unit ≡ refused_at 35 8
unfolding tree_judged judged_from judge tests next_due after_node after_part line_kind_of malformed wrong_count outside_range kind_tests leaf_tests available usable is_stuck
stuck_unit_refused = refl

-- a price line where the reserve line is due
abbrev no_reserve : List ℕ
no_reserve =
    107 ∷ 105 ∷ 110 ∷ 100 ∷ 61 ∷ 116 ∷ 114 ∷ 101 ∷ 101 ∷ 10 ∷
    119 ∷ 114 ∷ 105 ∷ 116 ∷ 101 ∷ 114 ∷ 61 ∷ 51 ∷ 10 ∷
    112 ∷ 114 ∷ 105 ∷ 99 ∷ 101 ∷ 61 ∷ 49 ∷ 44 ∷ 49 ∷ 10 ∷
    112 ∷ 114 ∷ 105 ∷ 99 ∷ 101 ∷ 61 ∷ 49 ∷ 44 ∷ 49 ∷ 10 ∷ []

no_reserve_refused : tree_judged problem no_reserve ≡ refused_at 12 4
unfolding tree_judged judged_from judge tests next_due after_node after_part line_kind_of malformed wrong_count outside_range kind_tests leaf_tests available usable is_stuck
no_reserve_refused = refl

-- a byte 10 after the end line
abbrev one_byte_more : List ℕ
one_byte_more =
    107 ∷ 105 ∷ 110 ∷ 100 ∷ 61 ∷ 116 ∷ 114 ∷ 101 ∷ 101 ∷ 10 ∷
    119 ∷ 114 ∷ 105 ∷ 116 ∷ 101 ∷ 114 ∷ 61 ∷ 51 ∷ 10 ∷
    112 ∷ 114 ∷ 105 ∷ 99 ∷ 101 ∷ 61 ∷ 49 ∷ 44 ∷ 49 ∷ 10 ∷
    114 ∷ 101 ∷ 115 ∷ 101 ∷ 114 ∷ 118 ∷ 101 ∷ 61 ∷ 49 ∷ 44 ∷ 49 ∷ 10 ∷
    101 ∷ 110 ∷ 100 ∷ 61 ∷ 116 ∷ 114 ∷ 101 ∷ 101 ∷ 10 ∷
    10 ∷ []

one_byte_more_refused : tree_judged problem one_byte_more ≡ refused_at 12 6
unfolding tree_judged judged_from judge tests next_due after_node after_part line_kind_of malformed wrong_count outside_range kind_tests leaf_tests available usable is_stuck
one_byte_more_refused = refl

-- ---- well-formed, though a leaf doesn't hold

-- a text of the kind by writer 1, with these lines after that
abbrev nodes : List (List ℕ) → List ℕ
nodes bs = text_of (kind_tree ∷ plain_line writer_key (1 ∷ []) ∷ bs)

-- a lone short=2 (33); the same where a second tree or the end line is due is judged on: split=2,2 / short=1 / short=3 has 33 at line 4 and 13 at line 5
pub lone_short_formed : WellFormed problem lone_short
unfolding Limits GoodLeaf render node_lines digits digits_by
lone_short_formed = (well_formed_is problem (lit≤ tt) lone_short).1 (lit≤ tt, (3, leaf (short 1), (refl, (lit≤ tt, lit≤ tt), lit< tt)))

pub judged_on : (tree_judged problem (nodes (plain_line split_key (2 ∷ 2 ∷ []) ∷ plain_line short_key (1 ∷ []) ∷ plain_line short_key (3 ∷ []) ∷ [])) ≡ refused_at 33 4)
    × (WellFormed problem (nodes (plain_line split_key (2 ∷ 2 ∷ []) ∷ plain_line short_key (1 ∷ []) ∷ plain_line short_key (3 ∷ []) ∷ [])) → ⊥)
unfolding tree_judged judged_from judge tests next_due after_node after_part line_kind_of malformed wrong_count outside_range kind_tests leaf_tests available usable is_stuck digits digits_by
judged_on = (
  refl,
  λ f. f.unbroken 13 5 refl
      ((line_broken_is problem (lit≤ tt) 13 5 _).0 ((courses.refused_is (λ s l. form_only (tests problem s l)) (next_due problem) end 13 5 2 writer_due _).0 refl)).1,
)

-- a lone crowd=1 (36)
abbrev lone_crowd : List ℕ
lone_crowd = lines ("kind=tree" ∷ "writer=3" ∷ "crowd=1" ∷ "end=tree" ∷ [])

pub lone_crowd_formed : WellFormed problem lone_crowd × (tree_judged problem lone_crowd ≡ refused_at 36 3)
unfolding Limits GoodLeaf render node_lines digits digits_by tree_judged judged_from judge tests next_due after_node after_part line_kind_of malformed wrong_count outside_range kind_tests leaf_tests usable fixed_on
lone_crowd_formed = ((well_formed_is problem (lit≤ tt) lone_crowd).1 (lit≤ tt, (3, leaf (crowd 0), (refl, (lit≤ tt, lit≤ tt), lit< tt))), refl)

-- the first tree under count=1,0 begins with count=1,0 (37): not well-formed, though nothing else is wrong with it
abbrev count_twice : List ℕ
count_twice =
    lines ("kind=tree" ∷ "writer=3" ∷ "count=1,0" ∷ "count=1,0" ∷ "price=1,1" ∷ "reserve=1,1" ∷ "price=1,1" ∷ "reserve=1,1" ∷ "price=1,1" ∷ "reserve=1,1" ∷ "end=tree" ∷ [])

pub count_twice_unformed : (tree_judged problem count_twice ≡ refused_at 37 4) × (WellFormed problem count_twice → ⊥)
unfolding tree_judged judged_from judge tests next_due after_node after_part line_kind_of malformed wrong_count outside_range kind_tests leaf_tests
count_twice_unformed = (
  refl,
  λ f. f.unbroken 37 4 refl
      ((line_broken_is problem (lit≤ tt) 37 4 _).0 ((courses.refused_is (λ s l. form_only (tests problem s l)) (next_due problem) end 37 4 2 writer_due _).0 refl)).1,
)

-- ---- the marked specimens, as read_tree answers them

pub specimen_tree : tree_read problem text ≡ answered 3 (tree_gives (number (pos 1980)) 1 2)
unfolding tree_read read_as
specimen_tree = ap read_as accepted_tree ∙ ap (λ (b : Bound). answered 3 (tree_gives b 1 2)) bound_1980

pub specimen_price : tree_read problem (render 3 lone_price) ≡ answered 3 (tree_gives (number (pos 1940)) 0 1)
unfolding tree_read read_as
specimen_price = ap read_as lone_price_accepted

pub specimen_short : tree_read problem lone_short ≡ Err (line_refusal 33 3)
specimen_short = (read_refused problem (lit≤ tt) lone_short 33 3).1 ((refused_is problem (lit≤ tt) lone_short 33 3).0 lone_short_refused)

-- and those with counts
pub specimen_counts : (tree_read problem count_text ≡ answered 3 (tree_gives (number (pos 1880)) 1 2))
    × (tree_read problem crowd_text ≡ answered 3 (tree_gives (number (pos 1980)) 2 3))
unfolding tree_read read_as
specimen_counts = (ap read_as counts_accepted.0, ap read_as counts_accepted.1)
