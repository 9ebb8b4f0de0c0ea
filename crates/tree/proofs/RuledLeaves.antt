-- A leaf of one line, by what its reader finds: the line that names a unit or a period, and its rule.
use mathlib.Core.Path.{◌≡◌, refl, sym}
use mathlib.Core.Bool.{Bool, true, false, cond}
use mathlib.Core.List.{List}
use Prim.Native.Nat.{ℕ, ◌+◌}
use lib.ListN.{length}
use Rattle.std.specs.Prelude.{None as never, Result, Ok, Err}
use Rattle.model.specs.Instance.{Instance}
use Rattle.model.specs.Above.{Above}
use Rattle.model.specs.Figures.{add_leaf}
use Rattle.model.specs.Leaf.{stuck_at}
use Rattle.model.specs.declared.figures.TreeFigures.{TreeFigures}
use Rattle.leaves.specs.LeafLeasts.{short_at, crowd_at}
use Rattle.text.specs.Lines.{line_at}
use Rattle.text.specs.Forms.{plain}
use Rattle.text.specs.Course.{refused, good}
use Rattle.text.specs.declared.Fault.{Fault}
use Rattle.tree.specs.declared.naming.NamedLine.{NamedLine}
use Rattle.tree.specs.Rendering.{short_key, crowd_key, stuck_key}
use Rattle.tree.specs.Refusals.{short_line, crowd_line, stuck_line}
use Rattle.tree.specs.NodeLines.{line_kind_of}
use Rattle.tree.specs.Course.{with_leaf, nodes_due}
use Rattle.tree.specs.ReadAnswers.{stopped, reached, named_line_read, ruled, node_read}
use Rattle.tree.proofs.Rows.{LineRefused, NamesOne, names_one, names_none}
use Rattle.tree.proofs.WaysThrough.{AtNode, node_refused, node_leaf}
use Rattle.tree.proofs.Leaves.{line_refused, short_holds, short_fails, crowd_holds, crowd_fails, stuck_holds, stuck_fails}

module _ (P : Instance) (text : List ℕ) (here l : ℕ) (S : TreeFigures) (A : Above) (d : ℕ) where
  -- a refused line, and a good one where the rule of the one that it names holds and where it does not
  ruled_leaf : (key : List ℕ) (most n : ℕ) (p : ℕ → Bool) → ((m : ℕ) → LineRefused (plain key 1 1 most) (line_at text here) m → AtNode P text here A d (λ F rest. refused m))
      → ((x : NamedLine) → NamesOne key most text here x.index x.next → true ≡ p x.index → AtNode P text here A d (λ F rest. good (nodes_due (with_leaf F never) rest)))
      → ((x : NamedLine) → NamesOne key most text here x.index x.next → false ≡ p x.index → AtNode P text here A d (λ F rest. refused n))
      → ruled n p l S (named_line_read key most text here) ≡ node_read P text here l S A d
  ruled_leaf key most n p bad good_one bad_one = go (named_line_read key most text here) refl
    where
      go : (r : Result NamedLine Fault) → r ≡ named_line_read key most text here → ruled n p l S r ≡ node_read P text here l S A d
      go (Err w) q = node_refused P text here l S A d _ (bad _ (names_none key most text here w q))
      go (Ok x) q = pick (p x.index) refl
        where
          named : NamesOne key most text here x.index x.next
          named = names_one key most text here x q

          pick : (b : Bool) → p x.index ≡ b → cond b (reached x.next (l + 1) (add_leaf S never)) (stopped n l) ≡ node_read P text here l S A d
          pick true h = node_leaf P text here l S A d never x.next _ (good_one x named (sym h)) named.moved refl
          pick false h = node_refused P text here l S A d n (bad_one x named (sym h))

  pub short_ruled : line_kind_of (line_at text here) ≡ short_line → ruled 33 (short_at P A) l S (named_line_read short_key P.periods text here) ≡ node_read P text here l S A d
  short_ruled e = ruled_leaf short_key P.periods 33 (short_at P A) (line_refused P text here A d short_line e)
      (λ x n h. short_holds P text here A d e n.line_good x.index n.is_named h) (λ x n h. short_fails P text here A d e n.line_good x.index n.is_named h)

  pub crowd_ruled : line_kind_of (line_at text here) ≡ crowd_line → ruled 36 (crowd_at P A) l S (named_line_read crowd_key P.periods text here) ≡ node_read P text here l S A d
  crowd_ruled e = ruled_leaf crowd_key P.periods 36 (crowd_at P A) (line_refused P text here A d crowd_line e)
      (λ x n h. crowd_holds P text here A d e n.line_good x.index n.is_named h) (λ x n h. crowd_fails P text here A d e n.line_good x.index n.is_named h)

  pub stuck_ruled : line_kind_of (line_at text here) ≡ stuck_line
      → ruled 34 (stuck_at P.periods P.units A.marks) l S (named_line_read stuck_key (length P.units) text here) ≡ node_read P text here l S A d
  stuck_ruled e = ruled_leaf stuck_key (length P.units) 34 (stuck_at P.periods P.units A.marks) (line_refused P text here A d stuck_line e)
      (λ x n h. stuck_holds P text here A d e n.line_good x.index n.is_named h) (λ x n h. stuck_fails P text here A d e n.line_good x.index n.is_named h)
