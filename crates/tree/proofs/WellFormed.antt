-- A tree's text is well-formed exactly where it renders a writer in range and a tree within the limits, in at most 1,048,576 bytes, whether its leaves hold or
-- not: its lines then pass the tests of the form to the end.
use mathlib.Core.Path.{◌≡◌, refl, ap, ◌∙◌}
use mathlib.Core.List.{List, [], ◌∷◌, ◌++◌, map}
use mathlib.Core.Logic.{◌↔◌}
use Prim.Native.Nat.{ℕ, ◌≤◌}
use lib.ListN.{length}
use Rattle.model.specs.Instance.{Instance}
use Rattle.model.specs.Ranges.{GoodWriter}
use Rattle.model.specs.Above.{root}
use Rattle.model.specs.Figures.{no_figures}
use Rattle.model.specs.Tree.{Tree, Limits}
use Rattle.text.specs.Lines.{Line, ended, due, later, lines_of, kind_tree, end_tree}
use Rattle.text.specs.Rendering.{plain_line}
use Rattle.text.specs.Writer.{writer_key}
use Rattle.text.specs.Tests.{none_yet}
use Rattle.text.proofs.Texts.{whole_is}
use Rattle.text.proofs.WellFormed.{form_only, unrefused_passed, passed_unrefused}
use Rattle.tree.specs.Rendering.{node_lines, render}
use Rattle.tree.specs.Course.{pending, writer_due, nothing_due, tests, next_due, end}
use Rattle.tree.specs.Acceptance.{bounded}
use Rattle.tree.specs.WellFormed.{WellFormed}
use Rattle.tree.proofs.Bounds.{add}
use Rattle.tree.proofs.Written.{lines_one, render_lines}
use Rattle.tree.proofs.Complete.{writer_good, end_good}
use Rattle.tree.proofs.Correct.{forest_lines}
use Rattle.tree.proofs.FormLines.{Limited, FormWhole, passed_left, also, both, node_passes}
use Rattle.tree.proofs.WhichLine.{line_broken_is}

module _ (P : Instance) (some : 1 ≤ P.periods) where
  pub well_formed_is : (text : List ℕ)
      → WellFormed P text ↔ ((length text ≤ 1048576) × ((w : ℕ) × (t : Tree) × ((text ≡ render w t) × GoodWriter w × Limits P root 0 t)))
  unfolding render
  well_formed_is text = (forth, back)
    where
      forth : WellFormed P text → (length text ≤ 1048576) × ((w : ℕ) × (t : Tree) × ((text ≡ render w t) × GoodWriter w × Limits P root 0 t))
      forth f =
          let p = unrefused_passed (λ s l. form_only (tests P s l)) (next_due P) end 2 writer_due (later (lines_of text))
          (λ n m r. let b = (line_broken_is P some n m (later (lines_of text))).0 r in f.unbroken n m b.0 b.1) in
          let w = passed_left P writer_due p.1.last (later (lines_of text)) p.0 p.1.passed p.1.ends in
          (f.short, go w w.forest.trees w.forest.limited w.forest.lines)
        where
          go : (w : FormWhole P (later (lines_of text))) (ts : List Tree) → Limited P (pending root 0 ∷ []) ts → w.after ≡ map ended (forest_lines ts)
              → (w : ℕ) × (t : Tree) × ((text ≡ render w t) × GoodWriter w × Limits P root 0 t)
          go w [] g l = absurd g
          go w (t ∷ u ∷ ts) g l = absurd g.1
          go w (t ∷ []) g l = (
            w.writer,
            t,
            (
              (whole_is text kind_tree (plain_line writer_key (w.writer ∷ []) ∷ (node_lines t ++ (end_tree ∷ []))) f.first (lines_one w.writer t)).0
                  (w.lines ∙ ap (λ (x : List Line). ended (plain_line writer_key (w.writer ∷ [])) ∷ x) l),
              w.range,
              g.0,
            ),
          )

      back : (length text ≤ 1048576) × ((w : ℕ) × (t : Tree) × ((text ≡ render w t) × GoodWriter w × Limits P root 0 t)) → WellFormed P text
      back (h, (w, t, (e, ok, within))) =
          let ls = ap lines_of e ∙ render_lines w t in
          let F = add P root (bounded w no_figures) t in
          let a = also P some (writer_good P w ok)
          (both P some (map ended (node_lines t)) (ended end_tree ∷ []) (node_passes P some root 0 (bounded w no_figures) [] t within) (also P some (end_good P F) none_yet)) in
          record {
            short = h;
            first = ap due ls;
            unbroken = λ n m o b. passed_unrefused (λ s l. form_only (tests P s l)) (next_due P) end 2 writer_due (later (lines_of text)) F
                (rw (ap later ls) (record { last = nothing_due F; passed = a; ends = refl })) n m ((line_broken_is P some n m (later (lines_of text))).1 (o, b));
          }
