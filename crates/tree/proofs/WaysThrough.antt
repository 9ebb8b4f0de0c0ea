-- A reader's answer is what is read by definition: one law for each way through the code of the readers.
use mathlib.Core.Path.{◌≡◌, refl, sym, ap, ◌∙◌}
use mathlib.Core.Bool.{true, false}
use mathlib.Core.List.{List, [], ◌∷◌}
use Prim.Native.Nat.{ℕ, ◌+◌}
use native.Mathlib.Numerals.{add-one}
use Rattle.model.specs.Instance.{Instance}
use Rattle.model.specs.Above.{Above, Fork, side}
use Rattle.model.specs.Figures.{Bound}
use Rattle.model.specs.declared.figures.TreeFigures.{TreeFigures}
use Rattle.model.specs.Figures.{add_split, add_leaf}
use Rattle.text.specs.Lines.{line_at}
use Rattle.text.specs.Course.{Found, refused, good}
use Rattle.std.specs.Prelude.{Ok, Err}
use Rattle.tree.specs.declared.read.NodeRead.{NodeRead}
use Rattle.tree.specs.declared.read.BrokenLine.{BrokenLine}
use Rattle.tree.specs.Places.{Part}
use Rattle.tree.specs.Course.{with_leaf, Pending, pending, Due, nodes_due, part_due, after_fork, judge}
use Rattle.tree.specs.Acceptance.{Bounded, bounded}
use Rattle.tree.specs.ReadAnswers.{Read, stopped, reached, read_from, node_read, trees_read, part_read}
use Rattle.tree.proofs.Rows.{Moved}
use Rattle.tree.proofs.ReadLines.{read_over, read_refused, read_good, on, second_read}

-- the line at a place is found to be this where a node is due, and where a later line of a leaf is
abbrev pub AtNode : Instance → List ℕ → ℕ → Above → ℕ → (Bounded → List Pending → Found Due) → Type 0
AtNode P text at A d f = (F : Bounded) (rest : List Pending) → judge P (nodes_due F (pending A d ∷ rest)) (line_at text at) ≡ f F rest

abbrev pub AtPart : Instance → List ℕ → ℕ → Above → Part → (Bounded → List Pending → Found Due) → Type 0
AtPart P text at A p f = (F : Bounded) (rest : List Pending) → judge P (part_due F A p rest) (line_at text at) ≡ f F rest

-- where a leaf's last line is read
leaf_over : (P : Instance) (text : List ℕ) (l : ℕ) (S : TreeFigures) (b : Bound) (next : ℕ) (S' : TreeFigures) → S' ≡ add_leaf S b
    → reached next l S' ≡ read_from P text next l (nodes_due (with_leaf (bounded 0 S) b) [])
leaf_over P text l S b next S' a = ap (reached next l) a ∙ sym (read_over P text next l (with_leaf (bounded 0 S) b))

-- ---- a node

module _ (P : Instance) (text : List ℕ) (at l : ℕ) (S : TreeFigures) (A : Above) (d : ℕ) where
  abbrev node : Due
  node = nodes_due (bounded 0 S) (pending A d ∷ [])

  pub node_refused : (n : ℕ) → AtNode P text at A d (λ F rest. refused n) → stopped n l ≡ node_read P text at l S A d
  unfolding node_read
  node_refused n j = sym (read_refused P text at l node refl n (j (bounded 0 S) []))

  pub node_leaf : (b : Bound) (next : ℕ) (S' : TreeFigures) → AtNode P text at A d (λ F rest. good (nodes_due (with_leaf F b) rest)) → Moved text at next
      → S' ≡ add_leaf S b
      → reached next (l + 1) S' ≡ node_read P text at l S A d
  unfolding node_read
  node_leaf b next S' j m a = leaf_over P text (l + 1) S b next S' a ∙ sym (read_good P text at l node refl _ next (j (bounded 0 S) []) m)

  pub node_fork : (f : Fork) (next : ℕ) (r : Read) → AtNode P text at A d (λ F rest. good (after_fork F (pending A d) rest f)) → Moved text at next
      → r ≡ trees_read P text next (l + 1) (add_split S) (side f false A) (side f true A) (d + 1)
      → r ≡ node_read P text at l S A d
  unfolding node_read trees_read
  node_fork f next r j m t =
      (rw (← (add-one d)) t) ∙ sym (read_good P text at l node refl _ next (j (bounded 0 S) []) m)

  pub node_part : (p : Part) (next : ℕ) (r : Read) → AtNode P text at A d (λ F rest. good (part_due F A p rest)) → Moved text at next
      → r ≡ part_read P text next (l + 1) S A p
      → r ≡ node_read P text at l S A d
  unfolding node_read part_read
  node_part p next r j m t = t ∙ sym (read_good P text at l node refl _ next (j (bounded 0 S) []) m)

  -- ---- the two trees of a split

  pub trees_refused : (B : Above) (b : BrokenLine) → Err b ≡ node_read P text at l S A d → Err b ≡ trees_read P text at l S A B d
  trees_refused B b r = ap (on P text (read_from P text) stopped 0 (pending B d ∷ [])) r ∙ sym (second_read P text at l S A d B)

  pub trees_both : (B : Above) (one : NodeRead) (r : Read) → Ok one ≡ node_read P text at l S A d → r ≡ node_read P text one.next one.line one.figures B d
      → r ≡ trees_read P text at l S A B d
  unfolding node_read
  trees_both B one r x y = y ∙ ap (on P text (read_from P text) stopped 0 (pending B d ∷ [])) x ∙ sym (second_read P text at l S A d B)

-- ---- a later line of a leaf

module _ (P : Instance) (text : List ℕ) (at l : ℕ) (S : TreeFigures) (A : Above) (p : Part) where
  pub part_refused : (n : ℕ) → AtPart P text at A p (λ F rest. refused n) → stopped n l ≡ part_read P text at l S A p
  unfolding part_read
  part_refused n j = sym (read_refused P text at l (part_due (bounded 0 S) A p []) refl n (j (bounded 0 S) []))

  pub part_part : (r : Part) (next : ℕ) → AtPart P text at A p (λ F rest. good (part_due F A r rest)) → Moved text at next
      → part_read P text at l S A p ≡ part_read P text next (l + 1) S A r
  unfolding part_read
  part_part r next j m = read_good P text at l (part_due (bounded 0 S) A p []) refl _ next (j (bounded 0 S) []) m

  pub part_leaf : (b : Bound) (next : ℕ) (S' : TreeFigures) → AtPart P text at A p (λ F rest. good (nodes_due (with_leaf F b) rest)) → Moved text at next
      → S' ≡ add_leaf S b
      → reached next (l + 1) S' ≡ part_read P text at l S A p
  unfolding part_read
  part_leaf b next S' j m a = leaf_over P text (l + 1) S b next S' a ∙ sym (read_good P text at l (part_due (bounded 0 S) A p []) refl _ next (j (bounded 0 S) []) m)
