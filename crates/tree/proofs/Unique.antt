-- A text is that of one tree at most: the first line of a node says its kind and its numbers, and the lines after a node begin
-- where it ends.
use mathlib.Core.Path.{◌≡◌, refl, sym, ap, ◌∙◌}
use mathlib.Core.Bool.{true, false}
use mathlib.Core.List.{List, [], ◌∷◌, ◌++◌, map, append_assoc}
use Prim.Native.Nat.{ℕ, zero, suc, ◌≤◌, ◌<◌, pred}
use native.Mathlib.Omega.{arith}
use lib.ListN.{length, drop}
use borrow.Author.Tests.{le-leb}
use Rattle.model.specs.Instance.{Instance, ◌at◌}
use Rattle.model.specs.Above.{Above, root, Fork, status, count}
use Rattle.model.specs.Ramps.{RampPrices}
use Rattle.model.specs.Tree.{Leaf, short, crowd, stuck, price, ramp, Tree, leaf, fork, ramped, GoodLeaf, Limits}
use Rattle.text.specs.Lines.{ended, bytes_of, lines_of, end_tree}
use Rattle.text.specs.Forms.{form, cut_values, sizes, all_within}
use Rattle.text.specs.Rendering.{plain_line}
use Rattle.text.specs.Writer.{writer_key}
use Rattle.text.proofs.Accepted.{rendered_numbers}
use Rattle.tree.specs.Rendering.{split_key, count_key, short_key, crowd_key, stuck_key, price_key, reserve_key, rampprice_key, up_key, down_key, step_lines, fork_line, leaf_lines, node_lines, tree_lines, render}
use Rattle.tree.specs.NodeLines.{line_kind_of}
use Rattle.tree.specs.Refusals.{LineKind, split_line, count_line, short_line, crowd_line, stuck_line, price_line, ramp_line}
use Rattle.tree.proofs.NodeLines.{GoodSteps}
use Rattle.tree.proofs.StepLines.{two_periods}
use Rattle.tree.proofs.Written.{render_cut}

-- ---- one line

within_self : (vs : List ℕ) → all_within vs vs vs ≡ true
within_self [] = refl
within_self (v ∷ vs) = simp (le-leb v v (omega arith), within_self vs)

-- the numbers of a line, read back
read_back : (key vs : List ℕ) → 0 < length vs → sizes (cut_values (drop (length key) (plain_line key vs))) ≡ vs
read_back key vs h =
    rendered_numbers (form key 0 vs vs) false vs (record {
      some = h;
      count = refl;
      range = within_self vs;
      sign = λ z. absurd (let y : ◌≡◌ {A = ℕ} 0 1 = cc in omega arith);
    })

numbers_once : (key vs ws : List ℕ) → 0 < length vs → 0 < length ws → plain_line key vs ≡ plain_line key ws → vs ≡ ws
numbers_once key vs ws h k e = sym (read_back key vs h) ∙ ap (λ (l : List ℕ). sizes (cut_values (drop (length key) l))) e ∙ read_back key ws k

pred_suc : (n : ℕ) → pred (suc n) ≡ n
pred_suc n = omega arith

-- ---- one node

head : List (List ℕ) → List ℕ
head [] = []
head (l ∷ ls) = l

tail : List (List ℕ) → List (List ℕ)
tail [] = []
tail (l ∷ ls) = ls

-- what lines begin with
data Node : Type 0 where
  a_fork : Fork → Node
  a_leaf : Leaf → Node

-- the numbers of a line after its key
values : List ℕ → List ℕ → List ℕ
values key l = sizes (cut_values (drop (length key) l))

-- the multipliers of n units, and the lines after theirs
units : ℕ → List (List ℕ) → List RampPrices × List (List ℕ)
units zero ls = ([], ls)
units (suc n) ls =
    let r = units n (tail (tail ls)) in
    (record { up = values up_key (head ls); down = values down_key (head (tail ls)) } ∷ r.0, r.1)

-- the node, and the lines after it, by the kind of the first; a ramp leaf has those of n units
by_kind : ℕ → LineKind → List (List ℕ) → Node × List (List ℕ)
by_kind n split_line ls = (a_fork (status (pred (values split_key (head ls) at 0)) (pred (values split_key (head ls) at 1))), tail ls)
by_kind n count_line ls = (a_fork (count (pred (values count_key (head ls) at 0)) (values count_key (head ls) at 1)), tail ls)
by_kind n short_line ls = (a_leaf (short (pred (values short_key (head ls) at 0))), tail ls)
by_kind n crowd_line ls = (a_leaf (crowd (pred (values crowd_key (head ls) at 0))), tail ls)
by_kind n stuck_line ls = (a_leaf (stuck (pred (values stuck_key (head ls) at 0))), tail ls)
by_kind n price_line ls = (a_leaf (price (values price_key (head ls)) (values reserve_key (head (tail ls)))), tail (tail ls))
by_kind n ramp_line ls =
    let r = units n (tail (tail ls)) in
    (a_leaf (ramp (values rampprice_key (head ls)) (values reserve_key (head (tail ls))) r.0), r.1)

begun : ℕ → List (List ℕ) → Node × List (List ℕ)
begun n ls = by_kind n (line_kind_of (ended (head ls))) ls

fork_begun : (n : ℕ) (f : Fork) (r : List (List ℕ)) → begun n (fork_line f ∷ r) ≡ (a_fork f, r)
unfolding begun by_kind values head tail line_kind_of
fork_begun n (status U t) r =
    ap (λ (vs : List ℕ). (a_fork (status (pred (vs at 0)) (pred (vs at 1))), r)) (read_back split_key (suc U ∷ suc t ∷ []) (omega arith)) ∙ rw (pred_suc U, pred_suc t) refl
fork_begun n (count t K) r =
    ap (λ (vs : List ℕ). (a_fork (count (pred (vs at 0)) (vs at 1)), r)) (read_back count_key (suc t ∷ K ∷ []) (omega arith)) ∙ rw (pred_suc t) refl

units_begun : (P : Instance) → 1 ≤ P.periods → 0 < ramped P → (l : List RampPrices) → GoodSteps P l → (r : List (List ℕ)) → units (length l) (step_lines l ++ r) ≡ (l, r)
unfolding units values head tail
units_begun P h some [] g r = refl
units_begun P h some (x ∷ l) g r =
    let two = two_periods P h some in
    let a = read_back up_key x.up (let e = g.0.0.0 in omega arith) in
    let b = read_back down_key x.down (let e = g.0.1.0 in omega arith) in
    let c = units_begun P h some l g.1 r in
    λ i. (record { up = a i; down = b i } ∷ (c i).0, (c i).1)

leaf_begun : (P : Instance) → 1 ≤ P.periods → (l : Leaf) → GoodLeaf P l → (r : List (List ℕ)) → begun (ramped P) (leaf_lines l ++ r) ≡ (a_leaf l, r)
unfolding begun by_kind units values head tail line_kind_of GoodLeaf
leaf_begun P h (short t) g r = ap (λ (vs : List ℕ). (a_leaf (short (pred (vs at 0))), r)) (read_back short_key (suc t ∷ []) (omega arith)) ∙ rw (pred_suc t) refl
leaf_begun P h (crowd t) g r = ap (λ (vs : List ℕ). (a_leaf (crowd (pred (vs at 0))), r)) (read_back crowd_key (suc t ∷ []) (omega arith)) ∙ rw (pred_suc t) refl
leaf_begun P h (stuck U) g r = ap (λ (vs : List ℕ). (a_leaf (stuck (pred (vs at 0))), r)) (read_back stuck_key (suc U ∷ []) (omega arith)) ∙ rw (pred_suc U) refl
leaf_begun P h (price q s) g r =
    let a = read_back price_key q (let e = g.0.0 in omega arith) in
    let b = read_back reserve_key s (let e = g.1.0 in omega arith) in
    λ i. (a_leaf (price (a i) (b i)), r)
leaf_begun P h (ramp q s l) g r =
    let a = read_back rampprice_key q (let e = g.0.0 in omega arith) in
    let b = read_back reserve_key s (let e = g.1.0 in omega arith) in
    let c = ap (λ (n : ℕ). units n (step_lines l ++ r)) (sym g.2.0) ∙ all l g.2.0 g.2.1 in
    λ i. (a_leaf (ramp (a i) (b i) (c i).0), (c i).1)
  where
    all : (l : List RampPrices) → length l ≡ ramped P → GoodSteps P l → units (length l) (step_lines l ++ r) ≡ (l, r)
    all [] n g = refl
    all (x ∷ l) n g = units_begun P h (omega arith) (x ∷ l) g r

-- ---- a tree

module _ (P : Instance) (some : 1 ≤ P.periods) where
  once : (t u : Tree) (r v : List (List ℕ)) (A B : Above) (d c : ℕ) → Limits P A d t → Limits P B c u → node_lines t ++ r ≡ node_lines u ++ v → (t ≡ u) × (r ≡ v)
  unfolding node_lines Limits
  once (leaf l) (leaf m) r v A B d c h k e =
      let q = sym (leaf_begun P some l h r) ∙ ap (begun (ramped P)) e ∙ leaf_begun P some m k v in
      let n = ap (λ (p : Node × List (List ℕ)). p.0) q in
      let a : l ≡ m = cc in
      (ap leaf a, ap (λ (p : Node × List (List ℕ)). p.1) q)
  once (leaf l) (fork g z w) r v A B d c h k e =
      let q = sym (leaf_begun P some l h r) ∙ ap (begun (ramped P)) e ∙ fork_begun (ramped P) g _ in
      absurd (let n = ap (λ (p : Node × List (List ℕ)). p.0) q in let y : ◌≡◌ {A = ℕ} 0 1 = cc in omega arith)
  once (fork f x y) (leaf m) r v A B d c h k e =
      let q = sym (fork_begun (ramped P) f _) ∙ ap (begun (ramped P)) e ∙ leaf_begun P some m k v in
      absurd (let n = ap (λ (p : Node × List (List ℕ)). p.0) q in let y : ◌≡◌ {A = ℕ} 0 1 = cc in omega arith)
  once (fork f x y) (fork g z w) r v A B d c h k e =
      let q = sym (fork_begun (ramped P) f _) ∙ ap (begun (ramped P)) e ∙ fork_begun (ramped P) g _ in
      let n₀ = ap (λ (p : Node × List (List ℕ)). p.0) q in
      let o : f ≡ g = cc in
      let m = once x z (node_lines y ++ r) (node_lines w ++ v) _ _ _ _ h.2 k.2
      (sym (append_assoc (node_lines x) (node_lines y) r) ∙ ap (λ (p : Node × List (List ℕ)). p.1) q ∙ append_assoc (node_lines z) (node_lines w) v) in
      let n = once y w r v _ _ _ _ h.3 k.3 m.1 in
      ((λ i. fork (o i) (m.0 i) (n.0 i)), n.1)

-- ---- the whole text

pub tree_once : (P : Instance) → 1 ≤ P.periods → (w w' : ℕ) (t t' : Tree) → Limits P root 0 t → Limits P root 0 t' → render w t ≡ render w' t'
    → (w ≡ w') × (t ≡ t')
unfolding head tail
tree_once P h w w' t t' l l' e =
    let ls = sym (written w t) ∙ ap (λ (s : List ℕ). map bytes_of (lines_of s)) e ∙ written w' t' in
    let a : plain_line writer_key (w ∷ []) ≡ plain_line writer_key (w' ∷ []) = ap (λ (x : List (List ℕ)). head (tail x)) ls in
    let b = numbers_once writer_key (w ∷ []) (w' ∷ []) (omega arith) (omega arith) a in
    let c = once P h t t' (end_tree ∷ []) (end_tree ∷ []) root root 0 0 l l' (ap (λ (x : List (List ℕ)). tail (tail x)) ls) in
    (cc, c.0)
  where
    bytes_ended : (x : List (List ℕ)) → map bytes_of (map ended x) ≡ x
    bytes_ended [] = refl
    bytes_ended (y ∷ x) = ap (λ (z : List (List ℕ)). y ∷ z) (bytes_ended x)

    written : (w : ℕ) (t : Tree) → map bytes_of (lines_of (render w t)) ≡ tree_lines w t
    written w t = ap (map bytes_of) (render_cut w t) ∙ bytes_ended (tree_lines w t)
