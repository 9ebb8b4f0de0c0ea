-- The headline laws of a tree's text: accepted both ways, refused both ways, and sound. Each cites the file that does the work.
use mathlib.Core.Path.{◌≡◌, refl, sym, ap, ◌∙◌}
use mathlib.Core.List.{List, [], ◌∷◌, ◌++◌, map}
use mathlib.Core.Logic.{◌↔◌}
use Prim.Native.Nat.{ℕ, ◌≤◌}
use native.Mathlib.Omega.{arith}
use lib.IntN.{ℤ, pos}
use lib.Signed.{◌≤ℤ◌}
use Rattle.model.specs.Instance.{Instance, Schedule}
use Rattle.model.specs.Ranges.{WellFormed}
use Rattle.model.specs.Rules.{MeetsPrinted}
use Rattle.model.specs.Cost.{cost}
use Rattle.model.specs.Above.{root}
use Rattle.std.specs.Prelude.{None as never, Some as number}
use Rattle.model.specs.declared.figures.TreeFigures.{TreeFigures}
use Rattle.model.specs.Figures.{no_figures}
use Rattle.model.specs.Tree.{Tree, bound, tree_figures}
use Rattle.model.proofs.Soundness.{number_sound, never_sound}
use Rattle.text.specs.Lines.{Line, ended, later, lines_of, line_at, kind_tree, end_tree}
use Rattle.text.specs.Rendering.{plain_line}
use Rattle.text.specs.Writer.{writer_key}
use Rattle.text.specs.Course.{refused_at, accepted}
use Rattle.text.proofs.Courses as courses
use Rattle.text.proofs.FirstLine.{tree_is}
use Rattle.text.proofs.Texts.{whole_is}
use Rattle.tree.specs.Rendering.{node_lines, render}
use Rattle.tree.specs.Course.{pending, writer_due, tests, next_due, judge, end, IsTree, tree_judged}
use Rattle.tree.specs.Acceptance.{Bounded, bounded, Accepts}
use Rattle.tree.specs.Refusals.{RefusedAt}
use Rattle.tree.proofs.Bounds.{add_is, figures_same}
use Rattle.tree.proofs.Written.{lines_one}
use Rattle.tree.proofs.Complete.{tree_accepted}
use Rattle.tree.proofs.WhichLine as which
use Rattle.tree.proofs.Correct.{Whole, Grown, forest_lines, with_forest, good_left}

-- ---- accepted

module _ (P : Instance) (text : List ℕ) (first : IsTree text) (F : Bounded) where
  whole_tree : Whole P (later (lines_of text)) F → Accepts P text F
  unfolding render
  whole_tree w = go w.forest.trees w.forest.grown w.forest.lines w.forest.gives
    where
      go : (ts : List Tree) → Grown P (pending root 0 ∷ []) ts → w.after ≡ map ended (forest_lines ts)
          → F ≡ with_forest P (bounded w.writer no_figures) (pending root 0 ∷ []) ts
          → Accepts P text F
      go [] g l e = absurd g
      go (t ∷ u ∷ ts) g l e = absurd g.1
      go (t ∷ []) g l e =
          let f : F ≡ bounded w.writer (tree_figures P t) = e ∙ add_is P root (bounded w.writer no_figures) t ∙ figures_same refl refl (omega arith) (omega arith) in
          let a : w.writer ≡ F.writer = ap (λ (x : Bounded). x.writer) (sym f) in
          let s : text ≡ render w.writer t =
          (whole_is text kind_tree (plain_line writer_key (w.writer ∷ []) ∷ (node_lines t ++ (end_tree ∷ []))) ((tree_is (line_at text 0)).0 first) (lines_one w.writer t)).0
          (w.lines ∙ ap (λ (x : List Line). ended (plain_line writer_key (w.writer ∷ [])) ∷ x) l) in
          record {
            tree = t;
            written = rw a at s;
            writer_in = rw a at w.range;
            within = g.0.0;
            holds = g.0.1;
            figures = ap (λ (x : Bounded). x.figures) f;
          }

  -- a text is accepted exactly where it is that of a tree within the limits whose leaves hold, and what it gives is the tree's
  pub accepted_is : WellFormed P → (tree_judged P text ≡ accepted F) ↔ Accepts P text F
  unfolding tree_judged judge
  accepted_is W = (
    (λ e.
        let g = (courses.accepted_is (tests P) (next_due P) end F 2 writer_due (later (lines_of text))).0 e in
        whole_tree (good_left P writer_due g.last (later (lines_of text)) F g.passed g.ends)),
    (λ a.
        ap (tree_judged P) a.written
        ∙ tree_accepted P W.periods_in.0 F.writer a.tree a.writer_in a.within a.holds
        ∙ ap (λ (x : TreeFigures). accepted (bounded F.writer x)) (sym a.figures)),
  )

-- ---- refused

-- n refuses the text at line m exactly where the lines before it begin the text of a tree whose leaves hold as far as these show, and n refuses line m where the
-- next line of that text stands
pub refused_is : (P : Instance) → 1 ≤ P.periods → (text : List ℕ) (n m : ℕ) → (tree_judged P text ≡ refused_at n m) ↔ RefusedAt P text n m
unfolding tree_judged judge
refused_is P some text n m =
    let a = courses.refused_is (tests P) (next_due P) end n m 2 writer_due (later (lines_of text)) in
    let b = which.line_refused_is P some n m (later (lines_of text)) in
    ((λ e. b.0 (a.0 e)), (λ r. a.1 (b.1 r)))

-- ---- sound

module _ (P : Instance) (W : WellFormed P) (text : List ℕ) (first : IsTree text) (F : Bounded) (e : tree_judged P text ≡ accepted F) where
  -- the tree of an accepted text gives its figures
  accepted_tree : Accepts P text F
  accepted_tree = (accepted_is P text first F W).0 e

  bound_is : F.figures.bound ≡ bound P root accepted_tree.tree
  bound_is = ap (λ (x : TreeFigures). x.bound) accepted_tree.figures

  -- no schedule that meets the rules costs less than the bound of an accepted tree, whether or not it ramps from midnight
  pub accepted_sound : (z : ℤ) → F.figures.bound ≡ number z → (s : Schedule) → MeetsPrinted P s → z ≤ℤ pos (cost P s)
  accepted_sound z b = number_sound P accepted_tree.tree accepted_tree.holds z (sym bound_is ∙ b)

  -- and where it gives never none meets them
  pub accepted_never : F.figures.bound ≡ never → (s : Schedule) → MeetsPrinted P s → ⊥
  accepted_never b = never_sound P accepted_tree.tree accepted_tree.holds (sym bound_is ∙ b)
