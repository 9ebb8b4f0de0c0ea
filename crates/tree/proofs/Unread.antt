-- A tree's text is judged the same whatever p0 is: every test of a line, and what is due after it, is what it is with 0 for every p0. So two problems that
-- differ in p0 alone accept the same trees, with the same figures, and refuse the others with the same number at the same line.
use mathlib.Core.Path.{◌≡◌, refl, ap, ◌∙◌}
use mathlib.Core.Bool.{not, cond, ◌&&◌, ◌||◌}
use mathlib.Core.List.{List, [], ◌∷◌, ◌++◌}
use Prim.Native.Nat.{ℕ, suc, ◌+◌, ◌-◌}
use lib.Dec.{eqb, ltb}
use lib.ListN.{length}
use Rattle.model.specs.Instance.{Instance, ◌at◌}
use Rattle.model.specs.Figures.{Bound}
use Rattle.model.specs.Above.{Above, status, count}
use Rattle.model.specs.Ramps.{RampPrices}
use Rattle.model.specs.Tree.{Leaf, short, crowd, stuck, price, ramp, ramped}
use Rattle.model.specs.Unread.{AlikeButMidnight}
use Rattle.model.proofs.Unread.{without_p0, count_without, usable_without, fixed_on_without, available_without, stuck_at_without, any_stuck_without, leaf_bound_without, both}
use Rattle.leaves.specs.LeafLeasts.{above_most, crowd_at}
use Rattle.text.specs.Lines.{Line, later, lines_of}
use Rattle.text.specs.Forms.{Form, form, plain, numbers_of, form_tests}
use Rattle.text.specs.Course.{judged_from}
use Rattle.text.specs.Tests.{◌if◌, found}
use Rattle.tree.specs.Rendering.{split_key, count_key, stuck_key}
use Rattle.tree.specs.Places.{Part, priced, ramp_priced, with_steps, with_ups}
use Rattle.tree.specs.NodeLines.{line_kind_of, named, counted, is_fixed, narrows, kind_tests, node_tests, is_last, leaf_tests, part_tests}
use Rattle.tree.specs.Refusals.{LineKind, split_line, count_line, short_line, crowd_line, stuck_line, price_line, ramp_line, node_form, part_form}
use Rattle.tree.specs.Course.{with_leaf, Pending, Due, writer_due, nodes_due, part_due, nothing_due, tests, after_fork, after_leaf, after_node, after_steps, after_numbers, after_part, next_due, judge, end, tree_judged}
use Rattle.tree.specs.Acceptance.{Bounded}

-- ---- a problem, with 0 for every p0

module _ (P : Instance) where
  node_form_without : (k : LineKind) → node_form (without_p0 P) k ≡ node_form P k
  node_form_without split_line = λ i. form split_key 0 (1 ∷ 1 ∷ []) (count_without P.units i ∷ P.periods ∷ [])
  node_form_without count_line = λ i. form count_key 0 (1 ∷ 0 ∷ []) (P.periods ∷ (count_without P.units i - 1) ∷ [])
  node_form_without short_line = refl
  node_form_without crowd_line = refl
  node_form_without stuck_line = ap (plain stuck_key 1 1) (count_without P.units)
  node_form_without price_line = refl
  node_form_without ramp_line = refl

  -- crowd's rule
  crowd_at_without : (A : Above) (t : ℕ) → crowd_at (without_p0 P) A t ≡ crowd_at P A t
  crowd_at_without A t =
      λ i. above_most (fixed_on_without P.units A.marks t i) (A.most t) || ltb (length (usable_without P.units A.marks t i)) (A.least t)

  -- 31 to 34, 36, 37
  kind_tests_without : (A : Above) (d : ℕ) (k : LineKind) (l : Line) → kind_tests (without_p0 P) A d k l ≡ kind_tests P A d k l
  unfolding kind_tests
  kind_tests_without A d split_line l =
      ap (λ (f : Form). 31 if is_fixed (A.marks (named f l 0) (named f l 1)) ∷ 32 if ltb 63 d ∷ []) (node_form_without split_line)
  kind_tests_without A d count_line l =
      ap (λ (f : Form). 32 if ltb 63 d ∷ 37 if not (narrows (A.least (named f l 0)) (A.most (named f l 0)) (counted f l)) ∷ []) (node_form_without count_line)
  kind_tests_without A d short_line l =
      let t = named (node_form P short_line) l 0 in
      ap (λ (x : ℕ). 33 if not (ltb x (P.demand at t + P.spare at t)) ∷ []) (available_without P A t)
  kind_tests_without A d crowd_line l = λ i. 36 if not (crowd_at_without A (named (node_form P crowd_line) l 0) i) ∷ []
  kind_tests_without A d stuck_line l =
      λ i. 34 if not (stuck_at_without P.periods P.units A.marks (named (node_form_without stuck_line i) l 0) i) ∷ []
  kind_tests_without A d price_line l = refl
  kind_tests_without A d ramp_line l = refl

  node_tests_without : (A : Above) (d : ℕ) (k : LineKind) (l : Line) → node_tests (without_p0 P) A d k l ≡ node_tests P A d k l
  node_tests_without A d k l i = form_tests (node_form_without k i) l (kind_tests_without A d k l i)

  part_form_without : (p : Part) → part_form (without_p0 P) p ≡ part_form P p
  part_form_without (priced q) = refl
  part_form_without (ramp_priced q) = refl
  part_form_without (with_steps q s k) = refl
  part_form_without (with_ups q s k x) = refl

  ramped_without : ramped (without_p0 P) ≡ ramped P
  ramped_without = ap (cond (eqb P.periods 1) 0) (count_without P.units)

  is_last_without : (p : Part) → is_last (without_p0 P) p ≡ is_last P p
  is_last_without (priced q) = refl
  is_last_without (ramp_priced q) = ap (λ (n : ℕ). eqb n 0) ramped_without
  is_last_without (with_steps q s k) = refl
  is_last_without (with_ups q s k x) = ap (λ (n : ℕ). eqb n (suc (length k))) ramped_without

  -- 35
  leaf_tests_without : (A : Above) (p : Part) → leaf_tests (without_p0 P) A p ≡ leaf_tests P A p
  unfolding leaf_tests
  leaf_tests_without A p = λ i. 35 if (is_last_without p i && any_stuck_without P.periods P.units A.marks i) ∷ []

  part_tests_without : (A : Above) (p : Part) (l : Line) → part_tests (without_p0 P) A p l ≡ part_tests P A p l
  part_tests_without A p l i = form_tests (part_form_without p i) l (leaf_tests_without A p i)

  tests_without : (s : Due) (l : Line) → tests (without_p0 P) s l ≡ tests P s l
  unfolding tests
  tests_without writer_due l = refl
  tests_without (nodes_due F []) l = refl
  tests_without (nodes_due F (p ∷ ps)) l = node_tests_without p.above p.depth (line_kind_of l) l
  tests_without (part_due F A p ps) l = part_tests_without A p l
  tests_without (nothing_due F) l = refl

  after_leaf_without : (F : Bounded) (A : Above) (ps : List Pending) (x : Leaf) → after_leaf (without_p0 P) F A ps x ≡ after_leaf P F A ps x
  after_leaf_without F A ps x = ap (λ (b : Bound). nodes_due (with_leaf F b) ps) (leaf_bound_without P A x)

  after_node_without : (F : Bounded) (p : Pending) (ps : List Pending) (k : LineKind) (l : Line)
      → after_node (without_p0 P) F p ps k l ≡ after_node P F p ps k l
  unfolding after_node
  after_node_without F p ps split_line l = ap (λ (f : Form). after_fork F p ps (status (named f l 0) (named f l 1))) (node_form_without split_line)
  after_node_without F p ps count_line l = ap (λ (f : Form). after_fork F p ps (count (named f l 0) (counted f l))) (node_form_without count_line)
  after_node_without F p ps short_line l = after_leaf_without F p.above ps (short (named (node_form P short_line) l 0))
  after_node_without F p ps crowd_line l = after_leaf_without F p.above ps (crowd (named (node_form P crowd_line) l 0))
  after_node_without F p ps stuck_line l =
      after_leaf_without F p.above ps (stuck (named (node_form (without_p0 P) stuck_line) l 0))
      ∙ ap (λ (f : Form). after_leaf P F p.above ps (stuck (named f l 0))) (node_form_without stuck_line)
  after_node_without F p ps price_line l = refl
  after_node_without F p ps ramp_line l = refl

  after_part_without : (F : Bounded) (A : Above) (p : Part) (ps : List Pending) (l : Line) → after_part (without_p0 P) F A p ps l ≡ after_part P F A p ps l
  unfolding after_part
  after_part_without F A p ps l =
      ap (λ (f : Form). after_numbers (without_p0 P) F A p ps (numbers_of f l)) (part_form_without p) ∙ go p (numbers_of (part_form P p) l)
    where
      steps : (q s : List ℕ) (k : List RampPrices) → after_steps (without_p0 P) F A ps q s k ≡ after_steps P F A ps q s k
      steps q s k = λ i. cond (eqb (ramped_without i) (length k)) (after_leaf_without F A ps (ramp q s k) i) (part_due F A (with_steps q s k) ps)

      go : (p : Part) (vs : List ℕ) → after_numbers (without_p0 P) F A p ps vs ≡ after_numbers P F A p ps vs
      go (priced q) vs = after_leaf_without F A ps (price q vs)
      go (ramp_priced q) vs = steps q vs []
      go (with_steps q s k) vs = refl
      go (with_ups q s k x) vs = steps q s (k ++ (record { up = x; down = vs } ∷ []))

  next_without : (s : Due) (l : Line) → next_due (without_p0 P) s l ≡ next_due P s l
  unfolding next_due
  next_without writer_due l = refl
  next_without (nodes_due F []) l = refl
  next_without (nodes_due F (p ∷ ps)) l = after_node_without F p ps (line_kind_of l) l
  next_without (part_due F A p ps) l = after_part_without F A p ps l
  next_without (nothing_due F) l = refl

  judge_without : judge (without_p0 P) ≡ judge P
  unfolding judge
  judge_without i s l = found (tests_without s l i) (next_without s l i)

  judged_without : (text : List ℕ) → tree_judged (without_p0 P) text ≡ tree_judged P text
  unfolding tree_judged
  judged_without text i = judged_from (judge_without i) end 2 writer_due (later (lines_of text))

-- ---- two problems alike but for p0

pub judged_unread : (P P' : Instance) → AlikeButMidnight P P' → (text : List ℕ) → tree_judged P text ≡ tree_judged P' text
judged_unread P P' a text = both P P' a (λ Q. tree_judged Q text) (λ Q. judged_without Q text)
