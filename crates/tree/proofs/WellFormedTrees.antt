-- A text of a tree within the limits is accepted exactly where every leaf meets its rule, and then with the tree's figures.
use mathlib.Core.Path.{◌≡◌, sym, ap, subst, ◌∙◌}
use mathlib.Core.Logic.{◌↔◌}
use Prim.Native.Nat.{ℕ}
use Rattle.model.specs.Instance.{Instance}
use Rattle.model.specs.Ranges.{WellFormed, GoodWriter}
use Rattle.model.specs.Above.{root}
use Rattle.model.specs.Tree.{Tree, Limits, Holds, tree_figures}
use Rattle.text.specs.Lines.{due, line_at}
use Rattle.text.proofs.FirstLine.{tree_is}
use Rattle.text.specs.Course.{accepted}
use Rattle.tree.specs.Rendering.{render}
use Rattle.tree.specs.Course.{IsTree, tree_judged}
use Rattle.tree.specs.Acceptance.{Bounded, bounded}
use Rattle.tree.proofs.Written.{render_lines}
use Rattle.tree.proofs.Unique.{tree_once}
use Rattle.tree.proofs.Complete.{tree_accepted}
use Rattle.tree.proofs.Acceptance.{accepted_is}

module _ (P : Instance) (W : WellFormed P) (w : ℕ) (t : Tree) (g : GoodWriter w) (l : Limits P root 0 t) where
  first_line : IsTree (render w t)
  first_line = (tree_is (line_at (render w t) 0)).1 (ap due (render_lines w t))

  pub well_formed_accepted : (F : Bounded) → (tree_judged P (render w t) ≡ accepted F) ↔ (Holds P root t × (F ≡ bounded w (tree_figures P t)))
  well_formed_accepted F = (
    (λ e.
        let a = (accepted_is P (render w t) first_line F W).0 e in
        let s = tree_once P W.periods_in.0 w F.writer t a.tree l a.within a.written in (
          subst (Holds P root) (sym s.1) a.holds,
          (λ i. bounded (sym s.0 i) ((a.figures ∙ ap (tree_figures P) (sym s.1)) i)),
        )),
    (λ h. tree_accepted P W.periods_in.0 w t g l h.0 ∙ ap accepted (sym h.1)),
  )
