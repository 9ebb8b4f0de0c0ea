-- What read_tree answers is what document 01 says: accepted with a tree's figures exactly where the text is that of such a tree, and
-- refused by a number at a line exactly where document 01 does so. Every number of a tree's text carries its line.
use mathlib.Core.Path.{◌≡◌, refl, sym, ap, ◌∙◌}
use mathlib.Core.Bool.{true}
use mathlib.Core.List.{List}
use mathlib.Core.Logic.{◌↔◌}
use Prim.Native.Nat.{ℕ, ◌≤◌}
use native.Mathlib.Omega.{arith}
use lib.ListN.{length}
use Rattle.model.specs.Instance.{Instance}
use Rattle.model.specs.Ranges.{WellFormed}
use Rattle.model.specs.Above.{Above}
use Rattle.model.specs.declared.figures.TreeFigures.{TreeFigures}
use Rattle.text.specs.Lines.{Line, due, end_tree}
use Rattle.text.specs.Course.{Judged, refused_at, accepted}
use Rattle.text.specs.Forms.{Form}
use Rattle.text.specs.LineRefused.{Unfit, shows_none, miscounted, out_of_range, Refuses, at_numbers, at_last, behind_last}
use Rattle.text.specs.Writer.{writer_form}
use Rattle.refusal.proofs.Places.{line_only}
use Rattle.refusal.specs.Refusals.{carries_line, refusal_of, line_refusal}
use Rattle.refusal.specs.declared.Refusal.{Refusal}
use Rattle.std.specs.Prelude.{Err}
use Rattle.tree.specs.declared.TreeRead.{TreeRead}
use Rattle.tree.specs.Course.{IsTree, tree_judged}
use Rattle.tree.specs.Acceptance.{Bounded, bounded, Accepts}
use Rattle.tree.specs.Places.{Part}
use Rattle.tree.specs.Refusals.{WrittenTree, written_lines, NodeBreaks, no_node, unfit, again, deeper, deeper_count, short_fails, stuck_fails, crowd_fails, no_narrower, PartBreaks, unfit_part, some_stuck, Breaks, at_writer, at_node, at_part, HoldsSoFar, RefusedAt, node_form, part_form}
use Rattle.tree.specs.ReadAnswers.{answered, read_as, tree_read}
use Rattle.tree.proofs.Acceptance.{accepted_is, refused_is}

-- ---- accepted

module _ (P : Instance) (text : List ℕ) (w : ℕ) (S : TreeFigures) where
  judged_accepted : tree_read P text ≡ answered w S → tree_judged P text ≡ accepted (bounded w S)
  unfolding tree_read read_as
  judged_accepted e = go (tree_judged P text) e
    where
      go : (j : Judged Bounded) → read_as j ≡ answered w S → j ≡ accepted (bounded w S)
      go (refused_at k l) e = absurd (let z : ◌≡◌ {A = ℕ} 0 1 = cc in omega arith)
      go (accepted F) e =
          let r : record { writer = F.writer; figures = F.figures } ≡ record { writer = w; figures = S } = cc in
          let p : F.writer ≡ w = ap (λ (x : TreeRead). x.writer) r in
          let q : F.figures ≡ S = ap (λ (x : TreeRead). x.figures) r in
          λ i. accepted (bounded (p i) (q i))

  -- read_tree accepts exactly the texts of good trees, each with the tree's figures
  pub read_accepted : WellFormed P → IsTree text → (tree_read P text ≡ answered w S) ↔ Accepts P text (bounded w S)
  unfolding tree_read read_as
  read_accepted W i =
      let a = accepted_is P text i (bounded w S) W in
      ((λ e. a.0 (judged_accepted e)), (λ x. ap read_as (a.1 x)))

-- ---- refused

-- each number carries its line
abbrev Lined : ℕ → Type 0
Lined n = carries_line n ≡ true

unfit_lined : (f : Form) (x : Line) (n : ℕ) → Unfit f x n → Lined n
unfolding carries_line
unfit_lined f x n (shows_none h) = refl
unfit_lined f x n (miscounted neg vs r c) = refl
unfit_lined f x n (out_of_range neg vs r c h) = refl

node_lined : (P : Instance) (A : Above) (d : ℕ) (x : Line) (n : ℕ) → NodeBreaks P A d x n → Lined n
unfolding carries_line
node_lined P A d x n (no_node h) = refl
node_lined P A d x n (unfit k neg vs r u) = unfit_lined (node_form P k) x n u
node_lined P A d x n (again U t h k e f) = refl
node_lined P A d x n (deeper U t g e b) = refl
node_lined P A d x n (deeper_count t K h k e b) = refl
node_lined P A d x n (short_fails t h e f) = refl
node_lined P A d x n (stuck_fails U h e f) = refl
node_lined P A d x n (crowd_fails t h e f) = refl
node_lined P A d x n (no_narrower t K h k b e f) = refl

part_lined : (P : Instance) (A : Above) (p : Part) (x : Line) (n : ℕ) → PartBreaks P A x p n → Lined n
unfolding carries_line
part_lined P A p x n (unfit_part u) = unfit_lined (part_form P p) x n u
part_lined P A p x n (some_stuck y e f) = refl

breaks_lined : (P : Instance) (v : WrittenTree) (k : ℕ) (x : Line) (n : ℕ) → Breaks P v k x n → Lined n
unfolding carries_line
breaks_lined P v k x n (at_writer e u) = unfit_lined writer_form x n u
breaks_lined P v k x n (at_node {d = d} {A = A} e a b) = node_lined P A d x n b
breaks_lined P v k x n (at_part {A = A} {p = p} e a b) = part_lined P A p x n b

pub refused_carries : (P : Instance) (text : List ℕ) (n l : ℕ) → RefusedAt P text n l → refusal_of n l 0 0 ≡ line_refusal n l
unfolding carries_line
refused_carries P text n l r = line_only n l (go n r.refuses)
  where
    go : (n : ℕ) → Refuses written_lines end_tree (HoldsSoFar P) (Breaks P) r.value (length r.before) r.left n → Lined n
    go n (at_numbers b) = breaks_lined P r.value (length r.before) (due r.left) n b
    go n (at_last e f) = refl
    go n (behind_last e f) = refl

module _ (P : Instance) (some : 1 ≤ P.periods) (text : List ℕ) (n l : ℕ) where
  -- read_tree refuses by n at line l exactly where document 01 does
  pub read_refused : (tree_read P text ≡ Err (line_refusal n l)) ↔ RefusedAt P text n l
  unfolding tree_read read_as
  read_refused = (
    (λ e. (refused_is P some text n l).0 (go (tree_judged P text) refl e)),
    (λ r. ap read_as ((refused_is P some text n l).1 r) ∙ ap (λ (x : Refusal). Err x) (refused_carries P text n l r)),
  )
    where
      go : (j : Judged Bounded) → tree_judged P text ≡ j → read_as j ≡ Err (line_refusal n l) → tree_judged P text ≡ refused_at n l
      go (accepted F) p e = absurd (let z : ◌≡◌ {A = ℕ} 0 1 = cc in omega arith)
      go (refused_at k m) p e =
          let r = (refused_is P some text k m).0 p in
          let c = refused_carries P text k m r in
          let q : refusal_of k m 0 0 ≡ line_refusal n l = cc in
          let s = sym c ∙ q in
          p ∙ (λ i. refused_at (ap (λ (x : Refusal). x.number) s i) (ap (λ (x : Refusal). x.line) s i))
