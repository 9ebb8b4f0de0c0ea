-- The lines of a ramp leaf (document 02, [6]), computed on document 01's problem: how they are written, in which order they are due, and where 35 stands. A text that ends
-- after a good line is 12 at the next.
use mathlib.Core.Path.{◌≡◌, refl, sym, ap, ◌∙◌}
use mathlib.Core.Bool.{true}
use mathlib.Core.List.{List, [], ◌∷◌, ◌++◌, map}
use Prim.Native.Nat.{ℕ}
use Prim.Native.String.{String}
use lib.Dec.{lit≤}
use lib.IntN.{pos}
use lib.ListN.{take}
use Rattle.decimal.specs.Decimal.{digits, digits_by}
use Rattle.model.specs.Instance.{Instance}
use Rattle.model.specs.Above.{root}
use Rattle.model.specs.Cost.{row_cost}
use Rattle.model.specs.Leaf.{rows_of, is_stuck, revenue, value, requirement}
use Rattle.model.specs.Ramps.{RampPrices, ramp_charge, ramp_value, ramp_least, ramp_leasts, ramp_leaf_value}
use Rattle.std.specs.Prelude.{Some as number}
use Rattle.model.specs.Figures.{tree_gives}
use Rattle.model.specs.Tree.{Leaf, ramp, leaf, GoodLeaf, LeafHolds, leaf_bound, Limits, Holds, bound, splits, leaves}
use Rattle.model.specs.Examples.{example, timed, unit2}
use Rattle.text.specs.Course.{accepted, refused_at, judged_from}
use Rattle.text.specs.Forms.{malformed, wrong_count, outside_range}
use Rattle.text.specs.Strings.{bytes, lines}
use Rattle.tree.specs.Rendering.{reserve_key, rampprice_key, up_key, down_key, leaf_lines, node_lines, render}
use Rattle.tree.specs.NodeLines.{line_kind_of, kind_tests, leaf_tests}
use Rattle.tree.specs.Refusals.{RefusedAt}
use Rattle.tree.specs.Acceptance.{bounded}
use Rattle.tree.specs.Course.{tests, after_node, after_part, next_due, judge, tree_judged}
use Rattle.tree.specs.ReadAnswers.{answered, read_as, tree_read}
use Rattle.tree.proofs.Complete.{tree_accepted}
use Rattle.tree.proofs.Acceptance.{refused_is}

-- ---- how it is written

pub keys_written : (rampprice_key ≡ bytes "rampprice=") × (reserve_key ≡ bytes "reserve=") × (up_key ≡ bytes "up=") × (down_key ≡ bytes "down=")
keys_written = (refl, refl, refl, refl)

abbrev steps : List ℕ → List ℕ → RampPrices
steps x y = record { up = x; down = y }

abbrev lone_ramp : Leaf
lone_ramp = ramp (10 ∷ 14 ∷ []) (0 ∷ 2 ∷ []) (steps (3 ∷ []) (0 ∷ []) ∷ steps (1 ∷ []) (2 ∷ []) ∷ [])

abbrev pub ramp_lines : List String
ramp_lines = "rampprice=10,14" ∷ "reserve=0,2" ∷ "up=3" ∷ "down=0" ∷ "up=1" ∷ "down=2" ∷ []

abbrev ramp_text : List ℕ
ramp_text = lines ("kind=tree" ∷ "writer=3" ∷ (ramp_lines ++ ("end=tree" ∷ [])))

pub ramp_written : (leaf_lines lone_ramp ≡ map bytes ramp_lines) × (render 3 (leaf lone_ramp) ≡ ramp_text)
unfolding render node_lines digits digits_by
ramp_written = (refl, refl)

-- ---- accepted: one leaf and no split, and the bound is its value

within : Limits example root 0 (leaf lone_ramp)
unfolding Limits GoodLeaf
within = (
  (refl, ((lit≤ tt, lit≤ tt), ((lit≤ tt, lit≤ tt), tt))),
  (refl, ((lit≤ tt, lit≤ tt), ((lit≤ tt, lit≤ tt), tt))),
  (refl, (((refl, ((lit≤ tt, lit≤ tt), tt)), (refl, ((lit≤ tt, lit≤ tt), tt))), (((refl, ((lit≤ tt, lit≤ tt), tt)), (refl, ((lit≤ tt, lit≤ tt), tt))), tt))),
)

pub ramp_accepted : tree_judged example ramp_text ≡ accepted (bounded 3 (tree_gives (number (pos 1700)) 0 1))
unfolding splits leaves Holds LeafHolds is_stuck bound leaf_bound ramp_leaf_value ramp_leasts ramp_least ramp_value ramp_charge value revenue requirement rows_of row_cost
ramp_accepted = ap (tree_judged example) (sym ramp_written.1) ∙ tree_accepted example (lit≤ tt) 3 (leaf lone_ramp) (lit≤ tt, lit≤ tt) within tt

-- as read_tree answers it
pub specimen_ramp : tree_read example ramp_text ≡ answered 3 (tree_gives (number (pos 1700)) 0 1)
unfolding tree_read read_as
specimen_ramp = ap read_as ramp_accepted

-- ---- which line is due

-- these lines as the tree
abbrev pub lone : List String → List ℕ
lone ls = lines ("kind=tree" ∷ "writer=1" ∷ ls)

-- exchanged: unit 1's two lines; unit 2's; unit 1's down line and unit 2's up line, so that the up lines come first; the reserve line and unit 1's up line. Twice: the
-- rampprice line, the reserve line, an up line, a down line. Missing: the reserve line, unit 1's up line, its down line, a unit's two lines, the last down line. And a third
-- unit's lines
pub out_of_order : map (λ ls. tree_judged example (lone ls)) (
    ("rampprice=1,1" ∷ "reserve=1,1" ∷ "down=1" ∷ "up=1" ∷ "up=1" ∷ "down=1" ∷ "end=tree" ∷ [])
    ∷ ("rampprice=1,1" ∷ "reserve=1,1" ∷ "up=1" ∷ "down=1" ∷ "down=1" ∷ "up=1" ∷ "end=tree" ∷ [])
    ∷ ("rampprice=1,1" ∷ "reserve=1,1" ∷ "up=1" ∷ "up=1" ∷ "down=1" ∷ "down=1" ∷ "end=tree" ∷ [])
    ∷ ("rampprice=1,1" ∷ "up=1" ∷ "reserve=1,1" ∷ "down=1" ∷ "up=1" ∷ "down=1" ∷ "end=tree" ∷ [])
    ∷ ("rampprice=1,1" ∷ "rampprice=1,1" ∷ "reserve=1,1" ∷ "up=1" ∷ "down=1" ∷ "up=1" ∷ "down=1" ∷ "end=tree" ∷ [])
    ∷ ("rampprice=1,1" ∷ "reserve=1,1" ∷ "reserve=1,1" ∷ "up=1" ∷ "down=1" ∷ "up=1" ∷ "down=1" ∷ "end=tree" ∷ [])
    ∷ ("rampprice=1,1" ∷ "reserve=1,1" ∷ "up=1" ∷ "up=1" ∷ "down=1" ∷ "up=1" ∷ "down=1" ∷ "end=tree" ∷ [])
    ∷ ("rampprice=1,1" ∷ "reserve=1,1" ∷ "up=1" ∷ "down=1" ∷ "down=1" ∷ "up=1" ∷ "down=1" ∷ "end=tree" ∷ [])
    ∷ ("rampprice=1,1" ∷ "up=1" ∷ "down=1" ∷ "up=1" ∷ "down=1" ∷ "end=tree" ∷ [])
    ∷ ("rampprice=1,1" ∷ "reserve=1,1" ∷ "down=1" ∷ "up=1" ∷ "down=1" ∷ "end=tree" ∷ [])
    ∷ ("rampprice=1,1" ∷ "reserve=1,1" ∷ "up=1" ∷ "up=1" ∷ "down=1" ∷ "end=tree" ∷ [])
    ∷ ("rampprice=1,1" ∷ "reserve=1,1" ∷ "up=1" ∷ "down=1" ∷ "end=tree" ∷ [])
    ∷ ("rampprice=1,1" ∷ "reserve=1,1" ∷ "up=1" ∷ "down=1" ∷ "up=1" ∷ "end=tree" ∷ [])
    ∷ ("rampprice=1,1" ∷ "reserve=1,1" ∷ "up=1" ∷ "down=1" ∷ "up=1" ∷ "down=1" ∷ "up=1" ∷ "down=1" ∷ "end=tree" ∷ []) ∷ [])
    ≡ refused_at 12 5 ∷ refused_at 12 7 ∷ refused_at 12 6 ∷ refused_at 12 4
    ∷ refused_at 12 4 ∷ refused_at 12 5 ∷ refused_at 12 6 ∷ refused_at 12 7
    ∷ refused_at 12 4 ∷ refused_at 12 5 ∷ refused_at 12 6 ∷ refused_at 12 7 ∷ refused_at 12 8 ∷ refused_at 12 9 ∷ []
unfolding tree_judged judged_from judge tests next_due after_node after_part line_kind_of malformed wrong_count outside_range kind_tests leaf_tests is_stuck
out_of_order = refl

-- ---- 35: with unit 1 off in period 1 it is not stuck if it is off in period 2, and stuck if it is on

-- the ramp leaf, which holds, and these lines where the same leaf does not: from line 11 on
abbrev pub above_stuck : List String → List ℕ
above_stuck ls = lines ("kind=tree" ∷ "writer=1" ∷ "split=1,1" ∷ "split=1,2" ∷ (ramp_lines ++ ls))

-- cut after each of its lines: all pass but the last down line
pub refused_at_last : map (λ n. tree_judged example (above_stuck (take n ramp_lines))) (0 ∷ 1 ∷ 2 ∷ 3 ∷ 4 ∷ 5 ∷ 6 ∷ [])
    ≡ refused_at 12 11 ∷ refused_at 12 12 ∷ refused_at 12 13 ∷ refused_at 12 14 ∷ refused_at 12 15 ∷ refused_at 12 16 ∷ refused_at 35 16 ∷ []
unfolding tree_judged judged_from judge tests next_due after_node after_part line_kind_of malformed wrong_count outside_range kind_tests leaf_tests is_stuck
refused_at_last = refl

pub last_down_refused : tree_judged example (above_stuck ramp_lines) ≡ refused_at 35 16
unfolding tree_judged judged_from judge tests next_due after_node after_part line_kind_of malformed wrong_count outside_range kind_tests leaf_tests is_stuck
last_down_refused = refl

-- as document 02 says it: 35 at line 16, no other number there, and no number at any other line
pub stuck_at_last_down : RefusedAt example (above_stuck ramp_lines) 35 16 × ((n m : ℕ) → RefusedAt example (above_stuck ramp_lines) n m → (n ≡ 35) × (m ≡ 16))
stuck_at_last_down = (
  (refused_is example (lit≤ tt) (above_stuck ramp_lines) 35 16).0 last_down_refused,
  (λ n m r.
      let e = sym ((refused_is example (lit≤ tt) (above_stuck ramp_lines) n m).1 r) ∙ last_down_refused in
      (cc, cc)),
)

-- 12, 14 and 13 come before it: at unit 1's up line, at its down line, and at the last line
pub faults_first : map (λ ls. tree_judged example (above_stuck ("rampprice=1,1" ∷ "reserve=1,1" ∷ ls))) (
    ("up=01" ∷ "down=1" ∷ "up=1" ∷ "down=1" ∷ []) ∷ ("up=1,1" ∷ "down=1" ∷ "up=1" ∷ "down=1" ∷ []) ∷ ("up=1000000001" ∷ "down=1" ∷ "up=1" ∷ "down=1" ∷ [])
    ∷ ("up=1" ∷ "down=01" ∷ "up=1" ∷ "down=1" ∷ []) ∷ ("up=1" ∷ "down=1,1" ∷ "up=1" ∷ "down=1" ∷ []) ∷ ("up=1" ∷ "down=1000000001" ∷ "up=1" ∷ "down=1" ∷ [])
    ∷ ("up=1" ∷ "down=1" ∷ "up=1" ∷ "down=01" ∷ []) ∷ ("up=1" ∷ "down=1" ∷ "up=1" ∷ "down=1,1" ∷ []) ∷ ("up=1" ∷ "down=1" ∷ "up=1" ∷ "down=1000000001" ∷ []) ∷ [])
    ≡ refused_at 12 13 ∷ refused_at 14 13 ∷ refused_at 13 13 ∷ refused_at 12 14 ∷ refused_at 14 14 ∷ refused_at 13 14
    ∷ refused_at 12 16 ∷ refused_at 14 16 ∷ refused_at 13 16 ∷ []
unfolding tree_judged judged_from judge tests next_due after_node after_part line_kind_of malformed wrong_count outside_range kind_tests leaf_tests is_stuck
faults_first = refl

-- ---- one period: the leaf is its first two lines, and 35 stands at the second

-- a unit that may not go off in period 1, with outputs 1 to 9 for nothing, and document 01's unit 2
abbrev one_period : Instance
one_period = record { periods = 1; demand = 9 ∷ []; spare = 1 ∷ []; units = timed 2 1 0 true 1 ∷ unit2 ∷ [] }

-- at the prices 1 and 1 unit 1 earns 9 and 9, and unit 2 is off: 9 + 10 - 18
pub two_lines_accepted : tree_judged one_period (lone ("rampprice=1" ∷ "reserve=1" ∷ "end=tree" ∷ [])) ≡ accepted (bounded 1 (tree_gives (number (pos 1)) 0 1))
unfolding tree_judged judged_from judge tests next_due after_node after_part line_kind_of malformed wrong_count outside_range kind_tests leaf_tests leaf_bound ramp_leaf_value ramp_leasts ramp_least ramp_value ramp_charge value revenue requirement rows_of row_cost is_stuck
two_lines_accepted = refl

-- an up or a down line behind it is 12. With unit 1 off: the rampprice line passes, and the reserve line is 35; 12, 14 and 13 come before it
pub two_lines_refused : map (λ ls. tree_judged one_period (lone ls)) (
    ("rampprice=1" ∷ "reserve=1" ∷ "up=" ∷ "down=" ∷ "end=tree" ∷ []) ∷ ("rampprice=1" ∷ "reserve=1" ∷ "up=1" ∷ "down=1" ∷ "end=tree" ∷ [])
    ∷ ("rampprice=1" ∷ "reserve=1" ∷ "down=1" ∷ "end=tree" ∷ [])
    ∷ ("split=1,1" ∷ "rampprice=1" ∷ []) ∷ ("split=1,1" ∷ "rampprice=1" ∷ "reserve=1" ∷ [])
    ∷ ("split=1,1" ∷ "rampprice=1" ∷ "reserve=01" ∷ []) ∷ ("split=1,1" ∷ "rampprice=1" ∷ "reserve=1,1" ∷ [])
    ∷ ("split=1,1" ∷ "rampprice=1" ∷ "reserve=1000000001" ∷ []) ∷ [])
    ≡ refused_at 12 5 ∷ refused_at 12 5 ∷ refused_at 12 5 ∷ refused_at 12 5 ∷ refused_at 35 5
    ∷ refused_at 12 5 ∷ refused_at 14 5 ∷ refused_at 13 5 ∷ []
unfolding tree_judged judged_from judge tests next_due after_node after_part line_kind_of malformed wrong_count outside_range kind_tests leaf_tests is_stuck
two_lines_refused = refl
