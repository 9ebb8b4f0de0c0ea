-- The line is read, and then the rule of the one that it names decides.
use borrow.Author.Rules.{rules}
use mathlib.Core.Path.{◌≡◌, sym, ap, ◌∙◌}
use mathlib.Core.Bool.{Bool, cond}
use Prim.Native.Nat.{◌+◌}
use Rattle.std.specs.Prelude.{None, Err}
use Rattle.std.proofs.lemmas.Result.{err_from_is_err_and}
use Rattle.model.specs.Figures.{add_leaf}
use Rattle.text.specs.Forms.{fault_number}
use Rattle.tree.specs.declared.read.BrokenLine.{BrokenLine}
use Rattle.tree.specs.ReadAnswers.{broken, stopped, reached, ruled}
use Rattle.text.proofs.Mapped.{mapped_err, mapped_ok}
use Rattle.tree.proofs.Rows.{names_one}
use Rattle.tree.proofs.leaf.read_ruled.Goals as goal

pub returns-in_err-named : goal.returns-in_err-named
returns-in_err-named g c = λ p h.
    let a = c.args in
    let q = err_from_is_err_and c.from_residual.result c.from_residual.ensures.1 in
    let m = mapped_err c.read_named.result c.map_err.result _ c.map_err.ensures.cases c.in_err-named.was in
    let e : c.in_err-named.field-0.0 ≡ broken (fault_number m.fault) a.line = search (rules, m.met) in
    rw (q.1, q.2) (ap (λ (x : BrokenLine). Err x) e ∙ ap (ruled a.number p a.line a.figures) (sym m.was ∙ c.read_named.ensures))

pub holds-requires : goal.holds-requires
holds-requires g c =
    let a = c.args in
    let is = sym (mapped_ok c.read_named.result c.map_err.result _ c.map_err.ensures.cases c.in_ok-named.was) ∙ c.read_named.ensures in
    c.requires.callable _ (names_one a.key.now a.most a.text.now a.at c.in_ok-named.named is).below

pub returns-then-not-holds : goal.returns-then-not-holds
returns-then-not-holds g c = λ p h.
    let a = c.args in
    let x = c.in_ok-named.named in
    let is = sym (mapped_ok c.read_named.result c.map_err.result _ c.map_err.ensures.cases c.in_ok-named.was) ∙ c.read_named.ensures in
    let below = (names_one a.key.now a.most a.text.now a.at x is).below in
    let no = sym (h x.index _ below c.holds.ensures) ∙ c.if-not-holds.true in
    ap (λ (b : Bool). cond b (reached x.next (a.line + 1) (add_leaf a.figures None)) (stopped a.number a.line)) (sym no) ∙ ap (ruled a.number p a.line a.figures) is

pub returns : goal.returns
returns g c = λ p h.
    let a = c.args in
    let x = c.in_ok-named.named in
    let is = sym (mapped_ok c.read_named.result c.map_err.result _ c.map_err.ensures.cases c.in_ok-named.was) ∙ c.read_named.ensures in
    let below = (names_one a.key.now a.most a.text.now a.at x is).below in
    let yes = sym (h x.index _ below c.holds.ensures) ∙ c.if-not-holds.false in
    ap (reached x.next (a.line + 1)) c.with_leaf.ensures
    ∙ ap (λ (b : Bool). cond b (reached x.next (a.line + 1) (add_leaf a.figures None)) (stopped a.number a.line)) (sym yes) ∙ ap (ruled a.number p a.line a.figures) is
