-- Each wrong way of lodging that is written out does what document 01 forbids, so demand 3 does not hold of it, however it reports.
use mathlib.Core.Path.{◌≡◌, refl, sym, ap, subst}
use mathlib.Core.Bool.{Bool, true, cond}
use mathlib.Core.List.{[]}
use Prim.Native.Nat.{ℕ}
use native.Mathlib.Omega.{arith}
use Rattle.std.specs.Prelude.{None as never}
use Rattle.model.specs.declared.figures.TreeFigures.{TreeFigures}
use Rattle.model.specs.Figures.{tree_gives}
use Rattle.model.specs.Tree.{stuck, short, Tree, leaf, splits, leaves}
use Rattle.text.specs.Lines.{line_at}
use Rattle.text.specs.declared.Kind.{Kind}
use Rattle.text.proofs.FirstLine as first_line
use Rattle.problem.specs.Rendering as problems
use Rattle.problem.proofs.Acceptance.{render_accepted}
use Rattle.problem.proofs.Examples.{example}
use Rattle.tree.specs.Rendering as trees
use Rattle.docket.specs.declared.Docket.{Docket}
use Rattle.answer.specs.declared.Answer.{Answer}
use Rattle.answer.specs.declared.Answer.TheVariants.{Refused, TextHeld, ScheduleHeld, SchedulePassed, TreeHeld, TreePassed}
use Rattle.answer.specs.StatedAnswers as answers
use Rattle.answer.specs.StatedAnswers.{its_bound, stated, Carries}
use Rattle.docket.specs.Verdicts.{problem}
use Rattle.docket.specs.Texts.{no_more, a_problem}
use Rattle.docket.specs.Lodging.{lodged, lodge_of}
use Rattle.docket.specs.Demand3.{reached, Reporting, Writing, Demand3}
use Rattle.docket.proofs.OneVerdict.{tree_begins}
use Rattle.docket.proofs.NextText.{answered}
use Rattle.docket.proofs.Demand3.{demand3}
use Rattle.docket.proofs.Specimens.{one_split, is_one_split, is_tree}
use Rattle.wrong.specs.WrongDockets.{IsRefused, IsHeld, IsPassed}
use Rattle.wrong.specs.WrongLodging as wrong
use Rattle.wrong.proofs.ShortLists.{tree_text, tree_given, begun, begun_as, begun_are}
use Rattle.wrong.proofs.WrongDockets as refuted
use Rattle.wrong.proofs.WrongStates as states

pub refuse_all_fails : {report : Reporting} {buffer : Writing} → Demand3 wrong.refuse_all report buffer → ⊥
refuse_all_fails D = refuted.refuses_all wrong.refuse_all D (λ texts text. tt)

pub never_changing_fails : {report : Reporting} {buffer : Writing} → Demand3 wrong.never_changing report buffer → ⊥
never_changing_fails D = states.never_changes wrong.never_changing D (λ texts text k. refl)

pub passing_rest_fails : {report : Reporting} {buffer : Writing} → Demand3 wrong.passing_rest report buffer → ⊥
passing_rest_fails D = refuted.passes_rest wrong.passing_rest D (λ texts vs text are a k.
    let d = reached wrong.passing_rest texts in
    subst (λ (t : Bool). IsPassed (stated (cond t (lodged d (SchedulePassed 0)) (lodge_of d text)).answer)) (sym k) tt)

pub refuse_rest_fails : {report : Reporting} {buffer : Writing} → Demand3 wrong.refuse_rest report buffer → ⊥
refuse_rest_fails D = refuted.refuses_rest wrong.refuse_rest D (λ texts vs text are a k.
    let d = reached wrong.refuse_rest texts in
    subst (λ (t : Bool). IsRefused (stated (cond t (wrong.refuse_all d text) (lodge_of d text)).answer)) (sym k) tt)

-- ---- another answer for a tree

-- never is told of every tree
told_never : (a : Answer) (F : TreeFigures) → Carries (stated (wrong.retold (λ x. tree_gives never x.splits x.leaves) a)) (its_bound F) → F.bound ≡ never
told_never (Refused r) F e = absurd e
told_never TextHeld F e = absurd (let z : ◌≡◌ {A = ℕ} 0 1 = cc in omega arith)
told_never (ScheduleHeld c) F e = absurd (let z : ◌≡◌ {A = ℕ} 0 1 = cc in omega arith)
told_never (SchedulePassed c) F e = absurd (let z : ◌≡◌ {A = ℕ} 0 1 = cc in omega arith)
told_never (TreeHeld x) F e = let f : tree_gives never x.splits x.leaves ≡ F = cc in ap (λ (G : TreeFigures). G.bound) (sym f)
told_never (TreePassed x) F e = let f : tree_gives never x.splits x.leaves ≡ F = cc in ap (λ (G : TreeFigures). G.bound) (sym f)

pub one_bound_fails : {report : Reporting} {buffer : Writing} → Demand3 wrong.one_bound report buffer → ⊥
one_bound_fails D =
    refuted.one_bound wrong.one_bound D never (λ texts text F e. told_never (lodge_of (reached wrong.one_bound texts) text).answer F e)

-- what is told of a tree is what was found, told anew
told_anew : (f : TreeFigures → TreeFigures) (a : Answer) (F : TreeFigures) → stated a ≡ answers.held (its_bound F)
    → Carries (stated (wrong.retold f a)) (its_bound (f F))
told_anew f (Refused r) F e = absurd (let z : ◌≡◌ {A = ℕ} 0 1 = cc in omega arith)
told_anew f TextHeld F e = absurd (let z : ◌≡◌ {A = ℕ} 0 1 = cc in omega arith)
told_anew f (ScheduleHeld c) F e = absurd (let z : ◌≡◌ {A = ℕ} 0 1 = cc in omega arith)
told_anew f (SchedulePassed c) F e = absurd (let z : ◌≡◌ {A = ℕ} 0 1 = cc in omega arith)
told_anew f (TreeHeld x) F e = let p : x ≡ F = cc in ap (λ (G : TreeFigures). its_bound (f G)) p
told_anew f (TreePassed x) F e = absurd (let z : ◌≡◌ {A = ℕ} 0 1 = cc in omega arith)

-- splits or leaves told otherwise, where the docket after the problem is the one that lodging leaves
module _ (f : TreeFigures → TreeFigures) {report : Reporting} {buffer : Writing} (D : Demand3 (wrong.retelling f) report buffer)
    (more : ((f tree_given).splits ≡ 1) × ((f tree_given).leaves ≡ 2) → ⊥) where
  retelling_fails : ⊥
  unfolding splits leaves
  retelling_fails = refuted.invents (wrong.retelling f) D (record {
    texts = begun;
    verdicts = begun_as;
    texts_are = begun_are;
    P = example;
    writer = 3;
    its = one_split;
    accepted = is_one_split;
    given = f tree_given;
    carries = told_anew f (lodge_of (reached lodge_of begun) tree_text).answer tree_given
        (answered lodge_of demand3 begun begun_as begun_are tree_text _ is_tree);
    invented = more;
  })

pub more_splits_fails : {report : Reporting} {buffer : Writing} → Demand3 wrong.more_splits report buffer → ⊥
more_splits_fails D = retelling_fails _ D (λ p. omega (arith, p.0))

pub more_leaves_fails : {report : Reporting} {buffer : Writing} → Demand3 wrong.more_leaves report buffer → ⊥
more_leaves_fails D = retelling_fails _ D (λ p. omega (arith, p.1))

-- ---- trees unexamined, any problem

unexamined_accepts : (d : Docket) (w : ℕ) (t : Tree) → d.known ≡ true → IsRefused (stated (wrong.unexamined d (trees.render w t)).answer) → ⊥
unexamined_accepts d w t k r =
    let e = (first_line.tree_is (line_at (trees.render w t) 0)).1 (tree_begins w t) in
    let s = subst (λ (x : Kind). IsRefused (stated (wrong.examine_no_tree x d (trees.render w t)).answer)) e r in
    subst (λ (b : Bool). IsRefused (stated (cond b (lodged d (TreeHeld wrong.never_figures)) (lodge_of d (trees.render w t))).answer)) k s

pub stuck_unexamined_fails : {report : Reporting} {buffer : Writing} → Demand3 wrong.unexamined report buffer → ⊥
stuck_unexamined_fails D = refuted.stuck_unexamined wrong.unexamined D (λ texts w U k ok u. unexamined_accepts (reached wrong.unexamined texts) w (leaf (stuck U)) k)

pub never_unexamined_fails : {report : Reporting} {buffer : Writing} → Demand3 wrong.unexamined report buffer → ⊥
never_unexamined_fails D = refuted.never_unexamined wrong.unexamined D (λ texts w t k ok u. unexamined_accepts (reached wrong.unexamined texts) w (leaf (short t)) k)

pub second_problem_fails : {report : Reporting} {buffer : Writing} → Demand3 wrong.second_problem report buffer → ⊥
second_problem_fails D = refuted.second_problem wrong.second_problem D (λ texts P k W h.
    subst (λ (x : Kind). IsHeld (stated (wrong.any_problem x (reached wrong.second_problem texts) (problems.render P)).answer)) (sym (render_accepted P W).0)
    (subst IsHeld (sym (answered lodge_of demand3 [] [] no_more (problems.render P) (problem P) (a_problem P h refl W))) tt))
