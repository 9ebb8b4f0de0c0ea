-- A whole text: the writer line, the tree, the end line and nothing after it, each as the code finds it.
use mathlib.Core.Path.{◌≡◌, refl, sym, ap, ◌∙◌}
use mathlib.Core.List.{List, [], ◌∷◌}
use Prim.Native.Nat.{ℕ, ◌≤◌}
use native.Mathlib.Omega.{arith}
use lib.ListN.{length, drop}
use Rattle.model.specs.Instance.{Instance}
use Rattle.model.specs.Above.{root}
use Rattle.model.specs.Figures.{no_figures}
use Rattle.text.specs.Lines.{Line, lines_of, line_at, kind_tree, end_tree}
use Rattle.text.specs.Course.{refused_at, judged_from}
use Rattle.text.specs.Ends.{end_of, ended_by, EndDue}
use Rattle.text.specs.declared.End.{End}
use Rattle.text.specs.declared.End.TheVariants.{Last}
use Rattle.text.specs.Writer.{writer_form}
use Rattle.text.proofs.Cuts.{next_lines}
use Rattle.text.proofs.FirstLine.{tree_is}
use Rattle.text.proofs.Verdicts.{form_found}
use Rattle.text.proofs.Ends.{end_judged}
use Rattle.reader.proofs.WriterLines.{Passed}
use Rattle.std.specs.Prelude.{Ok, Err}
use Rattle.tree.specs.declared.read.NodeRead.{NodeRead}
use Rattle.tree.specs.Course.{pending, writer_due, nodes_due, nothing_due, tests, next_due, judge, end, IsTree, tree_judged}
use Rattle.tree.specs.Acceptance.{Bounded, bounded}
use Rattle.tree.specs.ReadAnswers.{answered, read_as, Read, Placed, ended_as}
use Rattle.tree.proofs.Rows.{LineRefused, Moved, refused_found, line_moved}
use Rattle.tree.proofs.ReadLines.{judged_at, step_refused, step_good, read_on}

-- ---- the first two lines

-- after the first line the second starts at the eleventh byte
pub text_read : (P : Instance) (text : List ℕ) → IsTree text → tree_judged P text ≡ judged_at P text 10 2 writer_due
unfolding tree_judged
text_read P text e = ap (λ (ls : List Line). judged_from (judge P) end 2 writer_due ls) (sym (next_lines text kind_tree 0 ((tree_is (line_at text 0)).0 e)))

module _ (P : Instance) (text : List ℕ) where
  pub writer_refused : (n : ℕ) → LineRefused writer_form (line_at text 10) n → judged_at P text 10 2 writer_due ≡ refused_at n 2
  unfolding judge tests
  writer_refused n h = step_refused P text 10 2 writer_due refl n (refused_found writer_form (line_at text 10) n [] (next_due P writer_due (line_at text 10)) h)

  module _ {w n : ℕ} (h : Passed (line_at text 10) 10 w n) where
    pub writer_moved : Moved text 10 n
    writer_moved = line_moved writer_form text 10 n h.line_good h.next_is

    pub writer_line_read : judged_at P text 10 2 writer_due ≡ judged_at P text n 3 (nodes_due (bounded w no_figures) (pending root 0 ∷ []))
    unfolding judge tests next_due
    writer_line_read =
        step_good P text 10 2 writer_due refl (next_due P writer_due (line_at text 10)) n
        (form_found writer_form (line_at text 10) [] (next_due P writer_due (line_at text 10)) h.line_good) writer_moved
        ∙ ap (λ (x : ℕ). judged_at P text n 3 (nodes_due (bounded x no_figures) (pending root 0 ∷ []))) (sym h.writer_is)

    pub tree_placed : length text ≤ 1048576 → Placed text n 3 no_figures
    tree_placed short =
        let m = writer_moved in
        let a = m.past in
        record { short = short; inside = m.inside; numbered = omega arith; counted = omega arith }

-- ---- the end line

ends : (P : Instance) (F : Bounded) → EndDue (judge P) end end_tree (nodes_due F []) F
unfolding judge tests next_due
ends P F = record {
  then = nothing_due F;
  not_there = refl;
  wrong_word = λ l e. simp e;
  right_word = λ l e. simp e;
  may_end = refl;
  unended_after = λ b. refl;
  ended_after = λ b. refl;
}

-- ---- the answer

-- what is answered after a tree, by what stands where the end line is due
pub tree_ended : (text : List ℕ) (w : ℕ) (r : NodeRead) (e : End) → e ≡ end_of end_tree (lines_of (drop r.next text))
    → read_as (ended_by r.line (bounded w r.figures) e) ≡ ended_as text w (Ok r)
unfolding ended_as
tree_ended text w r e q = ap (λ (x : End). read_as (ended_by r.line (bounded w r.figures) x)) q

pub tree_accepted : (text : List ℕ) (w : ℕ) (r : NodeRead) → Last ≡ end_of end_tree (lines_of (drop r.next text)) → answered w r.figures ≡ ended_as text w (Ok r)
unfolding read_as
tree_accepted text w r q = tree_ended text w r Last q

pub ended_read : (P : Instance) (text : List ℕ) (w : ℕ) (r : Read) → ended_as text w r ≡ read_as (read_on P text w [] r)
unfolding ended_as read_as
ended_read P text w (Err b) = refl
ended_read P text w (Ok r) = sym (ap read_as (end_judged (judge P) end end_tree (nodes_due (bounded w r.figures) []) (bounded w r.figures) (ends P (bounded w r.figures)) r.line (drop r.next text)))
