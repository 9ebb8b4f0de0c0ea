-- 35 stands at the reserve line of a price leaf and not before it, computed on document 01's problem.
use mathlib.Core.Path.{◌≡◌, refl, sym, ◌∙◌}
use mathlib.Core.List.{List, [], ◌∷◌, ◌++◌}
use Prim.Native.Nat.{ℕ}
use native.Mathlib.Omega.{arith}
use lib.Dec.{lit≤}
use Rattle.decimal.specs.Decimal.{digits, digits_by}
use Rattle.model.specs.Leaf.{usable, available, is_stuck}
use Rattle.model.specs.Examples.{example}
use Rattle.text.specs.Lines.{kind_tree}
use Rattle.text.specs.Course.{refused_at, judged_from}
use Rattle.text.specs.Forms.{malformed, wrong_count, outside_range}
use Rattle.text.specs.Rendering.{plain_line, text_of}
use Rattle.text.specs.Writer.{writer_key}
use Rattle.tree.specs.Rendering.{split_key, price_key, reserve_key}
use Rattle.tree.specs.NodeLines.{line_kind_of, kind_tests, leaf_tests}
use Rattle.tree.specs.Refusals.{RefusedAt}
use Rattle.tree.specs.Course.{tests, after_node, after_part, next_due, judge, tree_judged}
use Rattle.tree.proofs.Acceptance.{refused_is}

-- split=1,1 / split=1,2 / price=1,1 / reserve=1,1 / price=1,1: unit 1 is stuck above the last line
abbrev to_price : List (List ℕ)
to_price =
    plain_line writer_key (1 ∷ []) ∷ plain_line split_key (1 ∷ 1 ∷ []) ∷ plain_line split_key (1 ∷ 2 ∷ []) ∷ plain_line price_key (1 ∷ 1 ∷ [])
    ∷ plain_line reserve_key (1 ∷ 1 ∷ []) ∷ plain_line price_key (1 ∷ 1 ∷ []) ∷ []

abbrev up_to_price : List ℕ
up_to_price = text_of (kind_tree ∷ to_price)

abbrev up_to_reserve : List ℕ
up_to_reserve = text_of (kind_tree ∷ (to_price ++ (plain_line reserve_key (1 ∷ 1 ∷ []) ∷ [])))

-- line 7, the price line, passes: alone it leaves the line after it missing
pub price_line_passes : tree_judged example up_to_price ≡ refused_at 12 8
unfolding tree_judged judged_from judge tests next_due after_node after_part line_kind_of malformed wrong_count outside_range kind_tests leaf_tests available usable is_stuck digits digits_by
price_line_passes = refl

pub reserve_line_refused : tree_judged example up_to_reserve ≡ refused_at 35 8
unfolding tree_judged judged_from judge tests next_due after_node after_part line_kind_of malformed wrong_count outside_range kind_tests leaf_tests available usable is_stuck digits digits_by
reserve_line_refused = refl

-- as document 01 says it: 35 at line 8, and no number at line 7
pub stuck_at_reserve : RefusedAt example up_to_reserve 35 8 × ((n : ℕ) → RefusedAt example up_to_reserve n 7 → ⊥)
stuck_at_reserve = (
  (refused_is example (lit≤ tt) up_to_reserve 35 8).0 reserve_line_refused,
  (λ n r.
      let e = sym ((refused_is example (lit≤ tt) up_to_reserve n 7).1 r) ∙ reserve_line_refused in
      let z : ◌≡◌ {A = ℕ} 7 8 = cc in
      omega arith),
)
