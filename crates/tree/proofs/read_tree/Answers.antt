-- The writer line, the tree and the end line, one law for each.
use borrow.Author.Rules.{rules}
use mathlib.Core.Path.{◌≡◌, refl, sym, ap, subst, ◌∙◌}
use mathlib.Core.List.{[]}
use native.Mathlib.Omega.{arith}
use lib.ListN.{replicate}
use Rattle.std.specs.Prelude.{Err, Ok}
use Rattle.std.proofs.lemmas.Result.{err_from_is_err_and}
use Rattle.model.specs.Instance.{Instance}
use Rattle.model.specs.Above.{root}
use Rattle.model.specs.Figures.{no_figures}
use Rattle.model.specs.Held.{view}
use Rattle.refusal.specs.Refusals.{refusal_of}
use Rattle.text.specs.Lines.{line_at}
use Rattle.text.specs.Forms.{fault_number}
use Rattle.walk.specs.Marks.{above_of}
use Rattle.reader.proofs.WriterLines.{line_refused, line_written}
use Rattle.layout.specs.Numbers.{instance_in}
use Rattle.tree.specs.declared.read.BrokenLine.{BrokenLine}
use Rattle.tree.specs.ReadAnswers.{broken, read_as, tree_read, node_read}
use Rattle.text.proofs.Mapped.{mapped_err, mapped_ok}
use Rattle.tree.proofs.Marked.{root_is}
use Rattle.tree.proofs.ReadLines.{read_on, node_judged, node_past}
use Rattle.tree.proofs.Texts.{text_read, writer_refused, writer_line_read, tree_placed, ended_read}
use Rattle.tree.proofs.read_tree.Goals as goal

pub read_node-requires : goal.read_node-requires
read_node-requires c =
    let P = view c.args.problem in
    let text = c.args.text.now in
    let line = c.in_ok-line.line in
    let good = line_written (line_at text 10) 10 c.read_writer.result c.read_writer.ensures _ (mapped_ok c.read_writer.result c.map_err.result _ c.map_err.ensures.cases c.in_ok-line.was) in
    record { placed = rw c.none.ensures (tree_placed P text good c.requires.text_len_bound); depth_bound = (omega arith, refl) }

pub returns-in_err-line : goal.returns-in_err-line
unfolding tree_read read_as
returns-in_err-line c =
    let P = view c.args.problem in
    let text = c.args.text.now in
    let p = err_from_is_err_and c.from_residual.result c.from_residual.ensures.1 in
    let m = mapped_err c.read_writer.result c.map_err.result _ c.map_err.ensures.cases c.in_err-line.was in
    let e : c.in_err-line.field-0.0 ≡ broken (fault_number m.fault) 2 = search (rules, m.met) in
    let stopped = line_refused (line_at text 10) 10 c.read_writer.result c.read_writer.ensures m.fault m.was in
    rw (p.1, p.2) (ap (λ (b : BrokenLine). Err (refusal_of b.number b.line 0 0)) e ∙ sym (ap read_as (text_read P text c.requires.tree ∙ writer_refused P text _ stopped)))

pub returns-in_err-read : goal.returns-in_err-read
unfolding tree_read read_as
returns-in_err-read c =
    let P = view c.args.problem in
    let text = c.args.text.now in
    let line = c.in_ok-line.line in
    let good = line_written (line_at text 10) 10 c.read_writer.result c.read_writer.ensures _ (mapped_ok c.read_writer.result c.map_err.result _ c.map_err.ensures.cases c.in_ok-line.was) in
    let tree = subst (λ (Q : Instance). c.read_node.result ≡ node_read Q text line.next 3 c.none.result (above_of Q (replicate 1632 0)) 0) (ap instance_in c.of.ensures ∙ c.lay_out_ranked-numbers.ensures.read.1) c.read_node.ensures.read in
    let node = rw (root_is P, c.none.ensures) at tree in
    let whole =
    text_read P text c.requires.tree ∙ writer_line_read P text good
    ∙ node_judged P text line.next 3 no_figures root 0 line.writer [] ∙ ap (read_on P text line.writer []) (sym node) in
    let p = err_from_is_err_and c.from_residual-in_err-read.result c.from_residual-in_err-read.ensures.1 in
    rw (p.1, p.2) (sym (ap read_as (whole ∙ ap (read_on P text line.writer []) c.in_err-read.was)))

pub read_end-requires : goal.read_end-requires
read_end-requires c =
    let P = view c.args.problem in
    let text = c.args.text.now in
    let line = c.in_ok-line.line in
    let good = line_written (line_at text 10) 10 c.read_writer.result c.read_writer.ensures _ (mapped_ok c.read_writer.result c.map_err.result _ c.map_err.ensures.cases c.in_ok-line.was) in
    (node_past _ _ _ _ _ _ _ (rw c.none.ensures (tree_placed P text good c.requires.text_len_bound)) _ (sym c.in_ok-read.was ∙ c.read_node.ensures.read)).0

pub returns : goal.returns
unfolding tree_read
returns c =
    let P = view c.args.problem in
    let text = c.args.text.now in
    let line = c.in_ok-line.line in
    let good = line_written (line_at text 10) 10 c.read_writer.result c.read_writer.ensures _ (mapped_ok c.read_writer.result c.map_err.result _ c.map_err.ensures.cases c.in_ok-line.was) in
    let tree = subst (λ (Q : Instance). c.read_node.result ≡ node_read Q text line.next 3 c.none.result (above_of Q (replicate 1632 0)) 0) (ap instance_in c.of.ensures ∙ c.lay_out_ranked-numbers.ensures.read.1) c.read_node.ensures.read in
    let node = rw (root_is P, c.none.ensures) at tree in
    let whole =
    text_read P text c.requires.tree ∙ writer_line_read P text good
    ∙ node_judged P text line.next 3 no_figures root 0 line.writer [] ∙ ap (read_on P text line.writer []) (sym node) in
    c.read_end.ensures ∙ ended_read P text line.writer (Ok c.in_ok-read.read) ∙ sym (ap read_as (whole ∙ ap (read_on P text line.writer []) c.in_ok-read.was))
