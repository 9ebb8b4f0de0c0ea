-- Trees' texts at both ends of every range, and the order of the numbers of a line, computed (document 01, and document 02, [1], for counts). Each text ends after the
-- line in question: where that is good, the next one is missing, 12.
use mathlib.Core.Path.{◌≡◌, refl}
use mathlib.Core.Bool.{true}
use mathlib.Core.List.{List, [], ◌∷◌, ◌++◌, map}
use Prim.Native.Nat.{ℕ}
use Prim.Native.String.{String}
use Rattle.decimal.specs.Decimal.{digits, digits_by}
use Rattle.model.specs.Instance.{Instance}
use Rattle.model.specs.Largest.{largest, falling}
use Rattle.model.specs.Leaf.{range, usable, available, fixed_on, is_stuck}
use Rattle.model.specs.Examples.{line, unit1, unit2, periods_of}
use Rattle.text.specs.Course.{refused_at, judged_from}
use Rattle.text.specs.Forms.{malformed, wrong_count, outside_range}
use Rattle.text.specs.Rendering.{plain_line, text_of}
use Rattle.text.specs.Strings.{bytes, lines}
use Rattle.tree.specs.Rendering.{split_key, count_key}
use Rattle.tree.specs.NodeLines.{line_kind_of, kind_tests, leaf_tests}
use Rattle.tree.specs.Course.{tests, after_node, after_part, next_due, judge, tree_judged}

-- document 01's units in three periods, so that a unit may be 2 at most and a period 3
abbrev longer : Instance
longer = record { periods = 3; demand = 60 ∷ 100 ∷ 60 ∷ []; spare = 10 ∷ 10 ∷ 10 ∷ []; units = unit1 ∷ unit2 ∷ [] }

-- ---- the ends of the ranges

-- writers 1, 65,535, 0, 65,536
pub writer_ends : map (λ l. tree_judged longer (lines ("kind=tree" ∷ l ∷ []))) ("writer=1" ∷ "writer=65535" ∷ "writer=0" ∷ "writer=65536" ∷ [])
    ≡ refused_at 12 3 ∷ refused_at 12 3 ∷ refused_at 13 2 ∷ refused_at 13 2 ∷ []
unfolding tree_judged judged_from judge tests next_due malformed wrong_count outside_range
writer_ends = refl

-- a split with U and P at 1, at I and T, then U 0 and I + 1, P 0 and T + 1; short with P 1, T, which doesn't hold, 0, T + 1; stuck with U 1, I, which doesn't hold, 0,
-- I + 1; prices 0 and 1,000,000,000, then 1,000,000,001
pub node_ends : map (λ l. tree_judged longer (lines ("kind=tree" ∷ "writer=1" ∷ l ∷ []))) (
    "split=1,1" ∷ "split=2,3" ∷ "split=0,1" ∷ "split=3,1" ∷ "split=1,0" ∷ "split=1,4" ∷ "short=1" ∷ "short=3" ∷ "short=0" ∷ "short=4"
    ∷ "stuck=1" ∷ "stuck=2" ∷ "stuck=0" ∷ "stuck=3" ∷ "price=0,1000000000,0" ∷ "price=0,1000000001,0" ∷ [])
    ≡ refused_at 12 4 ∷ refused_at 12 4 ∷ refused_at 13 3 ∷ refused_at 13 3 ∷ refused_at 13 3 ∷ refused_at 13 3
    ∷ refused_at 33 3 ∷ refused_at 33 3 ∷ refused_at 13 3 ∷ refused_at 13 3
    ∷ refused_at 34 3 ∷ refused_at 34 3 ∷ refused_at 13 3 ∷ refused_at 13 3
    ∷ refused_at 12 4 ∷ refused_at 13 3 ∷ []
unfolding tree_judged judged_from judge tests next_due after_node after_part line_kind_of malformed wrong_count outside_range kind_tests leaf_tests available usable is_stuck
node_ends = refl

-- a count with P and K at 1 and 0, at T and I - 1, then P 0 and T + 1, K = I; crowd with P 1, T, which doesn't hold, 0, T + 1
pub count_ends : map (λ l. tree_judged longer (lines ("kind=tree" ∷ "writer=1" ∷ l ∷ []))) (
    "count=1,0" ∷ "count=3,1" ∷ "count=0,0" ∷ "count=4,0" ∷ "count=1,2" ∷ "crowd=1" ∷ "crowd=3" ∷ "crowd=0" ∷ "crowd=4" ∷ [])
    ≡ refused_at 12 4 ∷ refused_at 12 4 ∷ refused_at 13 3 ∷ refused_at 13 3 ∷ refused_at 13 3
    ∷ refused_at 36 3 ∷ refused_at 36 3 ∷ refused_at 13 3 ∷ refused_at 13 3 ∷ []
unfolding tree_judged judged_from judge tests next_due after_node after_part line_kind_of malformed wrong_count outside_range kind_tests leaf_tests usable fixed_on
count_ends = refl

-- these lines in the second tree of a node
abbrev second_of : String → List String → List ℕ
second_of node ls = lines ("kind=tree" ∷ "writer=1" ∷ node ∷ "price=0,0,0" ∷ "reserve=0,0,0" ∷ ls)

-- a count equal to the upper, and below it; equal to the lower, and below it; both are 1: every K is 37; in another period nothing stands
pub narrower_ends : map (tree_judged longer) (
    lines ("kind=tree" ∷ "writer=1" ∷ "count=1,1" ∷ "count=1,1" ∷ []) ∷ lines ("kind=tree" ∷ "writer=1" ∷ "count=1,1" ∷ "count=1,0" ∷ [])
    ∷ second_of "count=1,0" ("count=1,1" ∷ []) ∷ second_of "count=1,0" ("count=1,0" ∷ [])
    ∷ second_of "count=1,0" ("count=1,1" ∷ "count=1,0" ∷ []) ∷ second_of "count=1,0" ("count=1,1" ∷ "count=1,1" ∷ [])
    ∷ second_of "count=1,0" ("count=2,0" ∷ []) ∷ [])
    ≡ refused_at 37 4 ∷ refused_at 12 5 ∷ refused_at 12 7 ∷ refused_at 37 6 ∷ refused_at 37 7 ∷ refused_at 37 7 ∷ refused_at 12 7 ∷ []
unfolding tree_judged judged_from judge tests next_due after_node after_part line_kind_of malformed wrong_count outside_range kind_tests leaf_tests is_stuck
narrower_ends = refl

-- at most none on: none is fixed on, which isn't too many, and one, which is; two or more on: two are not fixed off, which are enough, and one, which isn't.
-- What is short: with at most none or one on, where D + R is 70, and 110 in period 2
pub count_leaves : map (tree_judged longer) (
    lines ("kind=tree" ∷ "writer=1" ∷ "count=1,0" ∷ "crowd=1" ∷ [])
    ∷ lines ("kind=tree" ∷ "writer=1" ∷ "count=1,0" ∷ "split=1,1" ∷ "price=0,0,0" ∷ "reserve=0,0,0" ∷ "crowd=1" ∷ [])
    ∷ second_of "count=1,1" ("crowd=1" ∷ []) ∷ second_of "count=1,1" ("split=1,1" ∷ "crowd=1" ∷ [])
    ∷ lines ("kind=tree" ∷ "writer=1" ∷ "count=1,0" ∷ "short=1" ∷ []) ∷ lines ("kind=tree" ∷ "writer=1" ∷ "count=1,1" ∷ "short=1" ∷ [])
    ∷ lines ("kind=tree" ∷ "writer=1" ∷ "count=2,1" ∷ "short=2" ∷ []) ∷ [])
    ≡ refused_at 36 4 ∷ refused_at 12 8 ∷ refused_at 36 6 ∷ refused_at 12 8 ∷ refused_at 12 5 ∷ refused_at 33 4 ∷ refused_at 12 5 ∷ []
unfolding tree_judged judged_from judge tests next_due after_node after_part line_kind_of malformed wrong_count outside_range kind_tests leaf_tests available usable largest falling fixed_on is_stuck
count_leaves = refl

-- reserve prices 0 and 1,000,000,000, then 1,000,000,001
pub reserve_ends : map (λ l. tree_judged longer (lines ("kind=tree" ∷ "writer=1" ∷ "price=0,0,0" ∷ l ∷ []))) (
    "reserve=0,1000000000,0" ∷ "reserve=0,1000000001,0" ∷ []) ≡ refused_at 12 5 ∷ refused_at 13 4 ∷ []
unfolding tree_judged judged_from judge tests next_due after_node after_part line_kind_of malformed wrong_count outside_range kind_tests leaf_tests is_stuck
reserve_ends = refl

-- ---- the depth

-- with 48 periods: 64 split lines, each the first tree of the one above it, the last at depth 63; and this line after them
abbrev under_64 : List (List ℕ) → List ℕ
under_64 ls =
    text_of (bytes "kind=tree" ∷ bytes "writer=1"
    ∷ (map (λ t. plain_line split_key (1 ∷ t ∷ [])) (range 1 48) ++ (map (λ t. plain_line split_key (2 ∷ t ∷ [])) (range 1 16) ++ ls)))

-- nothing more; a split at depth 64 (32); and one that is also malformed (12), of one value (14), out of range (13), or on a status that is fixed (31)
pub depth_ends : map (λ ls. tree_judged (periods_of 48 (unit1 ∷ unit2 ∷ [])) (under_64 ls)) (
    [] ∷ (bytes "split=2,17" ∷ []) ∷ (bytes "split=02,17" ∷ []) ∷ (bytes "split=2" ∷ []) ∷ (bytes "split=2,49" ∷ []) ∷ (bytes "split=1,1" ∷ []) ∷ [])
    ≡ refused_at 12 67 ∷ refused_at 32 67 ∷ refused_at 12 67 ∷ refused_at 14 67 ∷ refused_at 13 67 ∷ refused_at 31 67 ∷ []
unfolding tree_judged judged_from judge tests next_due after_node after_part line_kind_of malformed wrong_count outside_range kind_tests leaf_tests digits digits_by
depth_ends = refl

-- with 48 periods: 48 count lines, each the first tree of the one above it, n split lines likewise, and these lines after them
abbrev under_counts : ℕ → List (List ℕ) → List ℕ
under_counts n ls =
    text_of (bytes "kind=tree" ∷ bytes "writer=1"
    ∷ (map (λ t. plain_line count_key (t ∷ 0 ∷ [])) (range 1 48) ++ (map (λ t. plain_line split_key (1 ∷ t ∷ [])) (range 1 n) ++ ls)))

-- a count line is a split for the depth. Nothing more; a split at depth 64 (32), and one on a status that is fixed (31); a count there that is no narrower (32), and one
-- that is malformed (12), of one value (14), or out of range (13); and at depth 63 the first of these (37)
pub count_depths : map (tree_judged (periods_of 48 (unit1 ∷ unit2 ∷ []))) (
    under_counts 16 [] ∷ under_counts 16 (bytes "split=1,17" ∷ []) ∷ under_counts 16 (bytes "split=1,1" ∷ [])
    ∷ under_counts 16 (bytes "count=1,0" ∷ []) ∷ under_counts 16 (bytes "count=01,0" ∷ []) ∷ under_counts 16 (bytes "count=1" ∷ [])
    ∷ under_counts 16 (bytes "count=1,2" ∷ []) ∷ under_counts 15 (bytes "count=1,0" ∷ []) ∷ [])
    ≡ refused_at 12 67 ∷ refused_at 32 67 ∷ refused_at 31 67 ∷ refused_at 32 67 ∷ refused_at 12 67 ∷ refused_at 14 67 ∷ refused_at 13 67 ∷ refused_at 37 66 ∷ []
unfolding tree_judged judged_from judge tests next_due after_node after_part line_kind_of malformed wrong_count outside_range kind_tests leaf_tests digits digits_by
count_depths = refl

-- ---- the order of the numbers on a line: each breaks two, and the first of them refuses it

-- 12 and 14, 12 and 13, 14 and 13: the writer line, a split, short, stuck, a price and a reserve line
pub form_order : map (λ ls. tree_judged longer (lines ("kind=tree" ∷ ls))) (
    ("writer=01,1" ∷ []) ∷ ("writer=065536" ∷ []) ∷ ("writer=0,1" ∷ [])
    ∷ ("writer=1" ∷ "split=01" ∷ []) ∷ ("writer=1" ∷ "split=03,1" ∷ []) ∷ ("writer=1" ∷ "split=3" ∷ [])
    ∷ ("writer=1" ∷ "short=01,1" ∷ []) ∷ ("writer=1" ∷ "short=04" ∷ []) ∷ ("writer=1" ∷ "short=4,1" ∷ [])
    ∷ ("writer=1" ∷ "stuck=01,1" ∷ []) ∷ ("writer=1" ∷ "stuck=03" ∷ []) ∷ ("writer=1" ∷ "stuck=3,1" ∷ [])
    ∷ ("writer=1" ∷ "price=01" ∷ []) ∷ ("writer=1" ∷ "price=01,1000000001,1" ∷ []) ∷ ("writer=1" ∷ "price=1000000001" ∷ [])
    ∷ ("writer=1" ∷ "price=1,1,1" ∷ "reserve=01" ∷ []) ∷ ("writer=1" ∷ "price=1,1,1" ∷ "reserve=01,1000000001,1" ∷ [])
    ∷ ("writer=1" ∷ "price=1,1,1" ∷ "reserve=1000000001" ∷ []) ∷ [])
    ≡ refused_at 12 2 ∷ refused_at 12 2 ∷ refused_at 14 2 ∷ refused_at 12 3 ∷ refused_at 12 3 ∷ refused_at 14 3
    ∷ refused_at 12 3 ∷ refused_at 12 3 ∷ refused_at 14 3 ∷ refused_at 12 3 ∷ refused_at 12 3 ∷ refused_at 14 3
    ∷ refused_at 12 3 ∷ refused_at 12 3 ∷ refused_at 14 3 ∷ refused_at 12 4 ∷ refused_at 12 4 ∷ refused_at 14 4 ∷ []
unfolding tree_judged judged_from judge tests next_due after_node after_part line_kind_of malformed wrong_count outside_range kind_tests leaf_tests available usable is_stuck
form_order = refl

-- 31 with 12 and with 14, below split=1,1; a unit 0 is 13, whatever is fixed of unit 1. 33 with 12, with 14 and with 13; 34 the same
pub leaf_order : map (λ ls. tree_judged longer (lines ("kind=tree" ∷ "writer=1" ∷ ls))) (
    ("split=1,1" ∷ "split=1,1" ∷ []) ∷ ("split=1,1" ∷ "split=01,1" ∷ []) ∷ ("split=1,1" ∷ "split=1,1,1" ∷ []) ∷ ("split=1,1" ∷ "split=0,1" ∷ [])
    ∷ ("short=1" ∷ []) ∷ ("short=01" ∷ []) ∷ ("short=1,1" ∷ []) ∷ ("short=4" ∷ [])
    ∷ ("stuck=1" ∷ []) ∷ ("stuck=01" ∷ []) ∷ ("stuck=1,1" ∷ []) ∷ ("stuck=3" ∷ []) ∷ [])
    ≡ refused_at 31 4 ∷ refused_at 12 4 ∷ refused_at 14 4 ∷ refused_at 13 4
    ∷ refused_at 33 3 ∷ refused_at 12 3 ∷ refused_at 14 3 ∷ refused_at 13 3
    ∷ refused_at 34 3 ∷ refused_at 12 3 ∷ refused_at 14 3 ∷ refused_at 13 3 ∷ []
unfolding tree_judged judged_from judge tests next_due after_node after_part line_kind_of malformed wrong_count outside_range kind_tests leaf_tests available usable is_stuck
leaf_order = refl

-- the same for a count and a crowd line: 12 and 14, 12 and 13, 14 and 13. 37 with 12, with 14 and with 13, below count=1,0; 36 the same
pub count_order : map (λ ls. tree_judged longer (lines ("kind=tree" ∷ "writer=1" ∷ ls))) (
    ("count=01" ∷ []) ∷ ("count=04,0" ∷ []) ∷ ("count=4" ∷ []) ∷ ("crowd=01,1" ∷ []) ∷ ("crowd=04" ∷ []) ∷ ("crowd=4,1" ∷ [])
    ∷ ("count=1,0" ∷ "count=1,0" ∷ []) ∷ ("count=1,0" ∷ "count=01,0" ∷ []) ∷ ("count=1,0" ∷ "count=1" ∷ []) ∷ ("count=1,0" ∷ "count=1,2" ∷ [])
    ∷ ("crowd=1" ∷ []) ∷ ("crowd=01" ∷ []) ∷ ("crowd=1,1" ∷ []) ∷ ("crowd=4" ∷ []) ∷ [])
    ≡ refused_at 12 3 ∷ refused_at 12 3 ∷ refused_at 14 3 ∷ refused_at 12 3 ∷ refused_at 12 3 ∷ refused_at 14 3
    ∷ refused_at 37 4 ∷ refused_at 12 4 ∷ refused_at 14 4 ∷ refused_at 13 4
    ∷ refused_at 36 3 ∷ refused_at 12 3 ∷ refused_at 14 3 ∷ refused_at 13 3 ∷ []
unfolding tree_judged judged_from judge tests next_due after_node after_part line_kind_of malformed wrong_count outside_range kind_tests leaf_tests usable fixed_on
count_order = refl

-- 35 with 12, with 14 and with 13: the only unit was on for one period of TU 2, and is off in period 1. At the price line it refuses nothing
pub stuck_order : map (λ ls. tree_judged (periods_of 2 (line 0 0 0 1 9 2 1 true 1 9 9 0 0 0 0 1 ∷ [])) (lines ("kind=tree" ∷ "writer=1" ∷ "split=1,1" ∷ ls))) (
    ("price=1,1" ∷ "reserve=1,1" ∷ []) ∷ ("price=1,1" ∷ "reserve=01,1" ∷ []) ∷ ("price=1,1" ∷ "reserve=1" ∷ []) ∷ ("price=1,1" ∷ "reserve=1,1000000001" ∷ [])
    ∷ ("price=1,1" ∷ []) ∷ ("price=01,1" ∷ []) ∷ ("price=1" ∷ []) ∷ ("price=1,1000000001" ∷ []) ∷ [])
    ≡ refused_at 35 5 ∷ refused_at 12 5 ∷ refused_at 14 5 ∷ refused_at 13 5 ∷ refused_at 12 5 ∷ refused_at 12 4 ∷ refused_at 14 4 ∷ refused_at 13 4 ∷ []
unfolding tree_judged judged_from judge tests next_due after_node after_part line_kind_of malformed wrong_count outside_range kind_tests leaf_tests is_stuck
stuck_order = refl
