-- A ramp leaf's lines at both ends of their ranges and of their counts (document 02, [6]), and the order of the numbers of a line, computed. Each text ends after the
-- line in question: where that is good, the next one is missing, 12.
use mathlib.Core.Path.{◌≡◌, refl}
use mathlib.Core.List.{List, [], ◌∷◌, map}
use Prim.Native.Nat.{ℕ}
use lib.ListN.{replicate}
use Rattle.decimal.specs.Decimal.{digits, digits_by}
use Rattle.model.specs.Leaf.{is_stuck}
use Rattle.model.specs.Examples.{unit1, unit2, example, periods_of, three}
use Rattle.text.specs.Course.{refused_at, judged_from}
use Rattle.text.specs.Forms.{malformed, wrong_count, outside_range}
use Rattle.text.specs.Rendering.{plain_line, text_of}
use Rattle.text.specs.Strings.{bytes, lines}
use Rattle.tree.specs.Rendering.{reserve_key, rampprice_key, up_key, down_key}
use Rattle.tree.specs.NodeLines.{line_kind_of, kind_tests, leaf_tests}
use Rattle.tree.specs.Course.{tests, after_node, after_part, next_due, judge, tree_judged}

-- ---- document 01's units in three periods: three values, and two in an up or a down line

-- 0 and 1,000,000,000, then 1,000,000,001, first and last; two values and four: the rampprice line and the reserve line
pub period_ends : map (λ ls. tree_judged (three 0 0 (unit1 ∷ unit2 ∷ [])) (lines ("kind=tree" ∷ "writer=1" ∷ ls))) (
    ("rampprice=0,1000000000,0" ∷ []) ∷ ("rampprice=1000000001,0,0" ∷ []) ∷ ("rampprice=0,0,1000000001" ∷ []) ∷ ("rampprice=0,0" ∷ []) ∷ ("rampprice=0,0,0,0" ∷ [])
    ∷ ("rampprice=0,0,0" ∷ "reserve=0,1000000000,0" ∷ []) ∷ ("rampprice=0,0,0" ∷ "reserve=1000000001,0,0" ∷ []) ∷ ("rampprice=0,0,0" ∷ "reserve=0,0,1000000001" ∷ [])
    ∷ ("rampprice=0,0,0" ∷ "reserve=0,0" ∷ []) ∷ ("rampprice=0,0,0" ∷ "reserve=0,0,0,0" ∷ []) ∷ [])
    ≡ refused_at 12 4 ∷ refused_at 13 3 ∷ refused_at 13 3 ∷ refused_at 14 3 ∷ refused_at 14 3
    ∷ refused_at 12 5 ∷ refused_at 13 4 ∷ refused_at 13 4 ∷ refused_at 14 4 ∷ refused_at 14 4 ∷ []
unfolding tree_judged judged_from judge tests next_due after_node after_part line_kind_of malformed wrong_count outside_range kind_tests leaf_tests is_stuck
period_ends = refl

-- the same with one value and three: unit 1's up line and its down line, and unit 2's, the last of which ends the leaf
pub step_ends : map (λ ls. tree_judged (three 0 0 (unit1 ∷ unit2 ∷ [])) (lines ("kind=tree" ∷ "writer=1" ∷ "rampprice=0,0,0" ∷ "reserve=0,0,0" ∷ ls))) (
    ("up=0,1000000000" ∷ []) ∷ ("up=1000000001,0" ∷ []) ∷ ("up=0,1000000001" ∷ []) ∷ ("up=0" ∷ []) ∷ ("up=0,0,0" ∷ [])
    ∷ ("up=0,0" ∷ "down=0,1000000000" ∷ []) ∷ ("up=0,0" ∷ "down=1000000001,0" ∷ []) ∷ ("up=0,0" ∷ "down=0,1000000001" ∷ [])
    ∷ ("up=0,0" ∷ "down=0" ∷ []) ∷ ("up=0,0" ∷ "down=0,0,0" ∷ [])
    ∷ ("up=0,0" ∷ "down=0,0" ∷ "up=1000000000,0" ∷ []) ∷ ("up=0,0" ∷ "down=0,0" ∷ "up=1000000001,0" ∷ [])
    ∷ ("up=0,0" ∷ "down=0,0" ∷ "up=0" ∷ []) ∷ ("up=0,0" ∷ "down=0,0" ∷ "up=0,0,0" ∷ [])
    ∷ ("up=0,0" ∷ "down=0,0" ∷ "up=0,0" ∷ "down=1000000000,0" ∷ []) ∷ ("up=0,0" ∷ "down=0,0" ∷ "up=0,0" ∷ "down=1000000001,0" ∷ [])
    ∷ ("up=0,0" ∷ "down=0,0" ∷ "up=0,0" ∷ "down=0" ∷ []) ∷ ("up=0,0" ∷ "down=0,0" ∷ "up=0,0" ∷ "down=0,0,0" ∷ []) ∷ [])
    ≡ refused_at 12 6 ∷ refused_at 13 5 ∷ refused_at 13 5 ∷ refused_at 14 5 ∷ refused_at 14 5
    ∷ refused_at 12 7 ∷ refused_at 13 6 ∷ refused_at 13 6 ∷ refused_at 14 6 ∷ refused_at 14 6
    ∷ refused_at 12 8 ∷ refused_at 13 7 ∷ refused_at 14 7 ∷ refused_at 14 7
    ∷ refused_at 12 9 ∷ refused_at 13 8 ∷ refused_at 14 8 ∷ refused_at 14 8 ∷ []
unfolding tree_judged judged_from judge tests next_due after_node after_part line_kind_of malformed wrong_count outside_range kind_tests leaf_tests is_stuck
step_ends = refl

-- ---- the order of the numbers on a line: each breaks two, and the first of them refuses it

-- 12 and 14, 12 and 13, 14 and 13: the rampprice line, the reserve line, an up line and a down line
pub ramp_order : map (λ ls. tree_judged (three 0 0 (unit1 ∷ unit2 ∷ [])) (lines ("kind=tree" ∷ "writer=1" ∷ ls))) (
    ("rampprice=01" ∷ []) ∷ ("rampprice=01,1000000001,1" ∷ []) ∷ ("rampprice=1000000001" ∷ [])
    ∷ ("rampprice=1,1,1" ∷ "reserve=01" ∷ []) ∷ ("rampprice=1,1,1" ∷ "reserve=01,1000000001,1" ∷ []) ∷ ("rampprice=1,1,1" ∷ "reserve=1000000001" ∷ [])
    ∷ ("rampprice=1,1,1" ∷ "reserve=1,1,1" ∷ "up=01" ∷ []) ∷ ("rampprice=1,1,1" ∷ "reserve=1,1,1" ∷ "up=01,1000000001" ∷ [])
    ∷ ("rampprice=1,1,1" ∷ "reserve=1,1,1" ∷ "up=1000000001" ∷ [])
    ∷ ("rampprice=1,1,1" ∷ "reserve=1,1,1" ∷ "up=1,1" ∷ "down=01" ∷ []) ∷ ("rampprice=1,1,1" ∷ "reserve=1,1,1" ∷ "up=1,1" ∷ "down=01,1000000001" ∷ [])
    ∷ ("rampprice=1,1,1" ∷ "reserve=1,1,1" ∷ "up=1,1" ∷ "down=1000000001" ∷ []) ∷ [])
    ≡ refused_at 12 3 ∷ refused_at 12 3 ∷ refused_at 14 3 ∷ refused_at 12 4 ∷ refused_at 12 4 ∷ refused_at 14 4
    ∷ refused_at 12 5 ∷ refused_at 12 5 ∷ refused_at 14 5 ∷ refused_at 12 6 ∷ refused_at 12 6 ∷ refused_at 14 6 ∷ []
unfolding tree_judged judged_from judge tests next_due after_node after_part line_kind_of malformed wrong_count outside_range kind_tests leaf_tests
ramp_order = refl

-- ---- two periods: one value in an up or a down line, where none is 12; and 48

pub one_step : map (λ ls. tree_judged example (lines ("kind=tree" ∷ "writer=1" ∷ "rampprice=0,0" ∷ "reserve=0,0" ∷ ls))) (
    ("up=0" ∷ []) ∷ ("up=" ∷ []) ∷ ("up=0,0" ∷ []) ∷ ("up=0" ∷ "down=0" ∷ []) ∷ ("up=0" ∷ "down=" ∷ []) ∷ ("up=0" ∷ "down=0,0" ∷ []) ∷ [])
    ≡ refused_at 12 6 ∷ refused_at 12 5 ∷ refused_at 14 5 ∷ refused_at 12 7 ∷ refused_at 12 6 ∷ refused_at 14 6 ∷ []
unfolding tree_judged judged_from judge tests next_due after_node after_part line_kind_of malformed wrong_count outside_range kind_tests leaf_tests
one_step = refl

-- a line of n zeros, and a text of these lines
abbrev zeros : List ℕ → ℕ → List ℕ
zeros key n = plain_line key (replicate n 0)

abbrev of_zeros : List (List ℕ) → List ℕ
of_zeros ls = text_of (bytes "kind=tree" ∷ bytes "writer=1" ∷ ls)

-- 48, 47 and 49 values in the rampprice line and in the reserve line; 47, 46 and 48 in an up line and in a down line
pub steps_of_48 : map (λ ls. tree_judged (periods_of 48 (unit1 ∷ unit2 ∷ [])) (of_zeros ls)) (
    (zeros rampprice_key 48 ∷ []) ∷ (zeros rampprice_key 47 ∷ []) ∷ (zeros rampprice_key 49 ∷ [])
    ∷ (zeros rampprice_key 48 ∷ zeros reserve_key 48 ∷ []) ∷ (zeros rampprice_key 48 ∷ zeros reserve_key 47 ∷ []) ∷ (zeros rampprice_key 48 ∷ zeros reserve_key 49 ∷ [])
    ∷ (zeros rampprice_key 48 ∷ zeros reserve_key 48 ∷ zeros up_key 47 ∷ []) ∷ (zeros rampprice_key 48 ∷ zeros reserve_key 48 ∷ zeros up_key 46 ∷ [])
    ∷ (zeros rampprice_key 48 ∷ zeros reserve_key 48 ∷ zeros up_key 48 ∷ [])
    ∷ (zeros rampprice_key 48 ∷ zeros reserve_key 48 ∷ zeros up_key 47 ∷ zeros down_key 47 ∷ [])
    ∷ (zeros rampprice_key 48 ∷ zeros reserve_key 48 ∷ zeros up_key 47 ∷ zeros down_key 46 ∷ [])
    ∷ (zeros rampprice_key 48 ∷ zeros reserve_key 48 ∷ zeros up_key 47 ∷ zeros down_key 48 ∷ []) ∷ [])
    ≡ refused_at 12 4 ∷ refused_at 14 3 ∷ refused_at 14 3 ∷ refused_at 12 5 ∷ refused_at 14 4 ∷ refused_at 14 4
    ∷ refused_at 12 6 ∷ refused_at 14 5 ∷ refused_at 14 5 ∷ refused_at 12 7 ∷ refused_at 14 6 ∷ refused_at 14 6 ∷ []
unfolding tree_judged judged_from judge tests next_due after_node after_part line_kind_of malformed wrong_count outside_range kind_tests leaf_tests digits digits_by
steps_of_48 = refl
