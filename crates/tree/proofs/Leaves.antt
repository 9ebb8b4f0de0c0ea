-- A leaf's line, judged at its place by what the code found of its rule: one law for each way through the readers of leaves.
use mathlib.Core.Path.{◌≡◌, refl, sym, ap, ◌∙◌}
use mathlib.Core.Bool.{Bool, true, false, not, cond}
use mathlib.Core.List.{List, [], ◌∷◌}
use Prim.Native.Nat.{ℕ}
use native.Mathlib.Omega.{arith}
use lib.IntN.{ℤ}
use lib.ListN.{take}
use Rattle.model.specs.Instance.{Instance, ◌at◌}
use Rattle.model.specs.Above.{Above}
use Rattle.model.specs.Leaf.{stuck_at, any_stuck, leaf_value}
use Rattle.std.specs.Prelude.{None as never, Some as number}
use Rattle.model.specs.declared.figures.TreeFigures.{TreeFigures}
use Rattle.model.specs.Tree.{leaf_bound}
use Rattle.text.specs.Lines.{line_at}
use Rattle.text.specs.Forms.{row_of, numbers_of}
use Rattle.text.specs.Forms as forms
use Rattle.text.specs.Course.{refused, good}
use Rattle.text.specs.declared.Row.{Row}
use Rattle.text.specs.declared.Fault.{Fault}
use Rattle.std.specs.Prelude.{Result, Ok}
use Rattle.text.specs.Tests.{Test, ◌if◌, found}
use Rattle.text.proofs.Verdicts.{form_found}
use Rattle.std.specs.Prelude.{None, Some}
use Rattle.leaves.specs.LeafLeasts.{short_at, crowd_at, leaf_of}
use Rattle.tree.specs.Rendering.{price_key, reserve_key, rampprice_key}
use Rattle.tree.specs.Places.{Part, priced, ramp_priced}
use Rattle.tree.specs.NodeLines.{line_kind_of, named, kind_tests, node_tests, leaf_tests}
use Rattle.tree.specs.Refusals.{LineKind, short_line, crowd_line, stuck_line, price_line, ramp_line, node_form, part_form}
use Rattle.tree.specs.declared.leaf.LeafKind.{LeafKind}
use Rattle.tree.specs.declared.leaf.LeafKind.TheVariants as leaf
use Rattle.tree.specs.Kinds.{leaf_kind}
use Rattle.tree.specs.Course.{with_leaf, Pending, pending, nodes_due, part_due, tests, next_due, after_node, after_part, judge}
use Rattle.tree.specs.Acceptance.{Bounded, bounded}
use Rattle.tree.specs.ReadAnswers.{node_read, leaf_read}
use Rattle.tree.proofs.Rows.{LineRefused, refused_found, row_good, values_taken}
use Rattle.tree.proofs.ReadLines.{read_same}
use Rattle.tree.proofs.WaysThrough.{AtNode, AtPart}

-- ---- where a node is due

module _ (P : Instance) (text : List ℕ) (here : ℕ) (A : Above) (d : ℕ) where
  -- the tests by the line's kind
  pub judge_by : (k : LineKind) → line_kind_of (line_at text here) ≡ k → (F : Bounded) (rest : List Pending)
      → judge P (nodes_due F (pending A d ∷ rest)) (line_at text here)
      ≡ found (node_tests P A d k (line_at text here)) (after_node P F (pending A d) rest k (line_at text here))
  unfolding judge tests next_due
  judge_by k e F rest = ap (λ (x : LineKind). found (node_tests P A d x (line_at text here)) (after_node P F (pending A d) rest x (line_at text here))) e

  module _ (k : LineKind) (e : line_kind_of (line_at text here) ≡ k) where
    -- 12, 14 or 13
    pub line_refused : (n : ℕ) → LineRefused (node_form P k) (line_at text here) n → AtNode P text here A d (λ F rest. refused n)
    line_refused n h F rest =
        judge_by k e F rest
        ∙ refused_found (node_form P k) (line_at text here) n (kind_tests P A d k (line_at text here)) (after_node P F (pending A d) rest k (line_at text here)) h

    -- none of these: the kind's own tests are left
    line_passed : forms.good_line (node_form P k) (line_at text here) ≡ true → {ts : List Test} → kind_tests P A d k (line_at text here) ≡ ts
        → AtNode P text here A d (λ F rest. found ts (after_node P F (pending A d) rest k (line_at text here)))
    line_passed p t F rest =
        let s = after_node P F (pending A d) rest k (line_at text here) in
        judge_by k e F rest
        ∙ form_found (node_form P k) (line_at text here) (kind_tests P A d k (line_at text here)) s p
        ∙ ap (λ (ts : List Test). found ts s) t

  -- a leaf that names the period t
  module _ (e : line_kind_of (line_at text here) ≡ short_line) (p : forms.good_line (node_form P short_line) (line_at text here) ≡ true) (t : ℕ)
      (is : t ≡ named (node_form P short_line) (line_at text here) 0) where
    short_tests : (b : Bool) → b ≡ short_at P A t → kind_tests P A d short_line (line_at text here) ≡ (33 if not b ∷ [])
    unfolding kind_tests
    short_tests b s = ap (λ (x : Bool). 33 if not x ∷ []) (sym (s ∙ ap (λ (x : ℕ). short_at P A x) is))

    pub short_holds : true ≡ short_at P A t → AtNode P text here A d (λ F rest. good (nodes_due (with_leaf F never) rest))
    unfolding after_node leaf_bound
    short_holds s = line_passed short_line e p (short_tests true s)

    pub short_fails : false ≡ short_at P A t → AtNode P text here A d (λ F rest. refused 33)
    short_fails s = line_passed short_line e p (short_tests false s)

  module _ (e : line_kind_of (line_at text here) ≡ crowd_line) (p : forms.good_line (node_form P crowd_line) (line_at text here) ≡ true) (t : ℕ)
      (is : t ≡ named (node_form P crowd_line) (line_at text here) 0) where
    crowd_tests : (b : Bool) → b ≡ crowd_at P A t → kind_tests P A d crowd_line (line_at text here) ≡ (36 if not b ∷ [])
    unfolding kind_tests
    crowd_tests b s = ap (λ (x : Bool). 36 if not x ∷ []) (sym (s ∙ ap (λ (x : ℕ). crowd_at P A x) is))

    pub crowd_holds : true ≡ crowd_at P A t → AtNode P text here A d (λ F rest. good (nodes_due (with_leaf F never) rest))
    unfolding after_node leaf_bound
    crowd_holds s = line_passed crowd_line e p (crowd_tests true s)

    pub crowd_fails : false ≡ crowd_at P A t → AtNode P text here A d (λ F rest. refused 36)
    crowd_fails s = line_passed crowd_line e p (crowd_tests false s)

  -- a leaf that names the unit U
  module _ (e : line_kind_of (line_at text here) ≡ stuck_line) (p : forms.good_line (node_form P stuck_line) (line_at text here) ≡ true) (U : ℕ)
      (is : U ≡ named (node_form P stuck_line) (line_at text here) 0) where
    stuck_tests : (b : Bool) → b ≡ stuck_at P.periods P.units A.marks U → kind_tests P A d stuck_line (line_at text here) ≡ (34 if not b ∷ [])
    unfolding kind_tests
    stuck_tests b s = ap (λ (x : Bool). 34 if not x ∷ []) (sym (s ∙ ap (λ (x : ℕ). stuck_at P.periods P.units A.marks x) is))

    pub stuck_holds : true ≡ stuck_at P.periods P.units A.marks U → AtNode P text here A d (λ F rest. good (nodes_due (with_leaf F never) rest))
    unfolding after_node leaf_bound
    stuck_holds s = line_passed stuck_line e p (stuck_tests true s)

    pub stuck_fails : false ≡ stuck_at P.periods P.units A.marks U → AtNode P text here A d (λ F rest. refused 34)
    stuck_fails s = line_passed stuck_line e p (stuck_tests false s)

  pub price_read : (e : line_kind_of (line_at text here) ≡ price_line) (r : Result Row Fault) (is : r ≡ row_of (node_form P price_line) (line_at text here) here) (row : Row)
      (v : r ≡ Ok row)
      → AtNode P text here A d (λ F rest. good (part_due F A (priced (take P.periods row.values)) rest))
  unfolding kind_tests after_node
  price_read e r is row v F rest =
      line_passed price_line e (row_good (node_form P price_line) text here r is row v) refl F rest
      ∙ ap (λ (q : List ℕ). good (part_due F A (priced q) rest)) (sym (values_taken P price_key text here r is row v))

  pub ramp_read : (e : line_kind_of (line_at text here) ≡ ramp_line) (r : Result Row Fault) (is : r ≡ row_of (node_form P ramp_line) (line_at text here) here) (row : Row)
      (v : r ≡ Ok row)
      → AtNode P text here A d (λ F rest. good (part_due F A (ramp_priced (take P.periods row.values)) rest))
  unfolding kind_tests after_node
  ramp_read e r is row v F rest =
      line_passed ramp_line e (row_good (node_form P ramp_line) text here r is row v) refl F rest
      ∙ ap (λ (q : List ℕ). good (part_due F A (ramp_priced q) rest)) (sym (values_taken P rampprice_key text here r is row v))

-- ---- a leaf's depth plays no part

pub leaf_anywhere : (P : Instance) (text : List ℕ) (here l : ℕ) (S : TreeFigures) (A : Above) (d : ℕ) (k : LeafKind) → line_kind_of (line_at text here) ≡ leaf_kind k
    → leaf_read P text here l S A ≡ node_read P text here l S A d
unfolding node_read kind_tests after_node
leaf_anywhere P text here l S A d k e =
    read_same P text here l (nodes_due (bounded 0 S) (pending A 0 ∷ [])) refl (nodes_due (bounded 0 S) (pending A d ∷ [])) refl
    (judge_by P text here A 0 (leaf_kind k) e (bounded 0 S) [] ∙ go k ∙ sym (judge_by P text here A d (leaf_kind k) e (bounded 0 S) []))
  where
    go : (k : LeafKind)
        → found (node_tests P A 0 (leaf_kind k) (line_at text here)) (after_node P (bounded 0 S) (pending A 0) [] (leaf_kind k) (line_at text here))
        ≡ found (node_tests P A d (leaf_kind k) (line_at text here)) (after_node P (bounded 0 S) (pending A d) [] (leaf_kind k) (line_at text here))
    go leaf.Short = refl
    go leaf.Crowd = refl
    go leaf.Stuck = refl
    go leaf.Price = refl
    go leaf.Ramp = refl

-- ---- where a later line of a leaf is due

module _ (P : Instance) (text : List ℕ) (here : ℕ) (A : Above) (p : Part) where
  -- 12, 14 or 13
  pub part_line_refused : (n : ℕ) → LineRefused (part_form P p) (line_at text here) n → AtPart P text here A p (λ F rest. refused n)
  unfolding judge tests
  part_line_refused n h F rest = refused_found (part_form P p) (line_at text here) n (leaf_tests P A p) (next_due P (part_due F A p rest) (line_at text here)) h

  -- none of these: the leaf's own tests are left
  pub part_passed : forms.good_line (part_form P p) (line_at text here) ≡ true → {ts : List Test} → leaf_tests P A p ≡ ts
      → AtPart P text here A p (λ F rest. found ts (after_part P F A p rest (line_at text here)))
  unfolding judge tests next_due
  part_passed g t F rest =
      let s = after_part P F A p rest (line_at text here) in
      form_found (part_form P p) (line_at text here) (leaf_tests P A p) s g ∙ ap (λ (ts : List Test). found ts s) t

-- ---- the reserve line of a price leaf

module _ (P : Instance) (text : List ℕ) (here : ℕ) (A : Above) (q : List ℕ) (r : Result Row Fault)
    (is : r ≡ row_of (part_form P (priced q)) (line_at text here) here) (row : Row) (v : r ≡ Ok row) where
  -- its value
  abbrev value : ℤ
  value = leaf_value P A.marks (λ t. q at t) (λ t. take P.periods row.values at t)

  passed : (b : Bool) → any_stuck P.periods P.units A.marks ≡ b
      → AtPart P text here A (priced q) (λ F rest. found (35 if b ∷ []) (after_part P F A (priced q) rest (line_at text here)))
  unfolding leaf_tests
  passed b e =
      part_passed P text here A (priced q) (row_good (part_form P (priced q)) text here r is row v) (ap (λ (x : Bool). 35 if x ∷ []) e)

  -- 35
  pub unit_stuck : None ≡ leaf_of P A.marks (λ t. q at t) (λ t. take P.periods row.values at t)
      → AtPart P text here A (priced q) (λ F rest. refused 35)
  unit_stuck e = go (any_stuck P.periods P.units A.marks) refl e
    where
      go : (b : Bool) → any_stuck P.periods P.units A.marks ≡ b → None ≡ cond b None (Some value)
          → AtPart P text here A (priced q) (λ F rest. refused 35)
      go true p z = passed true p
      go false p z = absurd (let y : ◌≡◌ {A = ℕ} 0 1 = cc in omega arith)

  value_same : value ≡ leaf_value P A.marks (λ t. q at t) (λ t. numbers_of (part_form P (priced q)) (line_at text here) at t)
  value_same = ap (λ (s : List ℕ). leaf_value P A.marks (λ t. q at t) (λ t. s at t)) (values_taken P reserve_key text here r is row v)

  pub value_read : (z : ℤ) → Some z ≡ leaf_of P A.marks (λ t. q at t) (λ t. take P.periods row.values at t)
      → AtPart P text here A (priced q) (λ F rest. good (nodes_due (with_leaf F (number z)) rest))
  unfolding after_part leaf_bound
  value_read z e = go (any_stuck P.periods P.units A.marks) refl e
    where
      go : (b : Bool) → any_stuck P.periods P.units A.marks ≡ b → Some z ≡ cond b None (Some value)
          → AtPart P text here A (priced q) (λ F rest. good (nodes_due (with_leaf F (number z)) rest))
      go true p x = absurd (let y : ◌≡◌ {A = ℕ} 0 1 = cc in omega arith)
      go false p x =
          let w : z ≡ value = cc in
          λ F rest. passed false p F rest ∙ ap (λ (y : ℤ). good (nodes_due (with_leaf F (number y)) rest)) (sym (w ∙ value_same))
