-- Demand 3 refutes each wrong docket of the papers that answers otherwise: on document 01's problem one text more after a short list is answered as it is
-- due.
use mathlib.Core.Path.{◌≡◌, refl, sym, ap, subst}
use mathlib.Core.Bool.{Bool, true, false}
use mathlib.Core.List.{[], ◌∷◌}
use mathlib.Core.Option.{some}
use Prim.Native.Nat.{ℕ, ◌<◌}
use native.Mathlib.Omega.{arith}
use lib.Dec.{lit<, lit≤}
use lib.IntN.{pos}
use Rattle.model.specs.Ranges.{every}
use Rattle.model.specs.declared.arrays.Problem.{Problem}
use Rattle.model.specs.Held as arrays
use Rattle.model.specs.Above.{root}
use Rattle.model.specs.Figures.{Bound}
use Rattle.std.specs.Prelude.{Some as number}
use Rattle.model.specs.declared.figures.TreeFigures.{TreeFigures}
use Rattle.model.specs.Tree.{short, stuck, leaf, bound, tree_figures}
use Rattle.model.specs.CountExamples.{by_count}
use Rattle.model.specs.Best.{higher}
use Rattle.refusal.specs.declared.Refusal.{Refusal}
use Rattle.problem.proofs.Examples.{example, example_formed}
use Rattle.schedule.specs.Rendering as schedules
use Rattle.tree.specs.Rendering as rendered_trees
use Rattle.tree.specs.Acceptance.{Bounded}
use Rattle.docket.specs.declared.Docket.{Docket}
use Rattle.docket.specs.declared.held.HeldBound.{HeldBound}
use Rattle.answer.specs.StatedAnswers.{its_cost, its_bound, Stated, held, Carries}
use Rattle.docket.specs.Verdicts.{Costed, refused, problem, schedule, tree, trees}
use Rattle.docket.specs.Texts.{Accepted, no_more}
use Rattle.docket.specs.Demand3.{reached, held_if, HoldsUnder, Lodging, Reporting, Writing, Demand3}
use Rattle.docket.proofs.Determined.{holds_then}
use Rattle.docket.proofs.NextText.{answered}
use Rattle.docket.proofs.AfterTexts.{reached_is}
use Rattle.docket.proofs.Specimens.{problem_text, problem_short, rows, figures, is_problem, is_second, is_cheap, is_cheap_too, is_tree, is_lone_price, is_not_short, is_not_stuck, is_counted, is_not_crowd, is_no_narrower}
use Rattle.wrong.specs.WrongDockets.{IsRefused, IsHeld, IsPassed, IsBound, answer, RefusesAll, RefusesRest, OneBound, PassesRest, Invents, StuckUnexamined, NeverUnexamined, CountsUnread, NeverAnswers, SecondProblem, KeepsLast, KeepsLastTree}
use Rattle.wrong.proofs.ShortLists.{begun, begun_as, begun_are, cheap, cheap_text, cheap_are, tree_text, tree_text_too, lone_text, tree_given, lone_given, tree_are, is_tree_too}

not_refused : (s : Costed) (r : Refusal) → schedule s ≡ refused r → ⊥
not_refused s r e = let z : ◌≡◌ {A = ℕ} 0 1 = cc in omega arith

module _ (lodge : Lodging) {report : Reporting} {buffer : Writing} (D : Demand3 lodge report buffer) where
  -- the docket after the problem
  abbrev first : Docket
  first = reached lodge begun

  first_holds : HoldsUnder example begun_as first
  first_holds = holds_then lodge D begun begun_as begun_are

  two_units : 0 < first.problem.units
  unfolding arrays.held
  two_units = subst (λ (p : Problem). 0 < p.units) (sym first_holds.problem_is) (lit< tt)

  two_periods : 1 < first.problem.periods
  unfolding arrays.held
  two_periods = subst (λ (p : Problem). 1 < p.periods) (sym first_holds.problem_is) (lit< tt)

  -- ---- one text

  pub refuses_all : RefusesAll lodge → ⊥
  refuses_all r = subst IsRefused (answered lodge D [] [] no_more problem_text (problem example) is_problem) (r [] problem_text)

  -- ---- a text after the problem

  -- the schedule should be accepted, and held
  cheap_accepted : Accepted (some example) cheap_text
  cheap_accepted = record { as_what = schedule cheap; is = is_cheap; unrefused = λ r e. not_refused cheap r e }

  cheap_answered : answer lodge begun cheap_text ≡ held (its_cost 1980)
  cheap_answered = answered lodge D begun begun_as begun_are cheap_text (schedule cheap) is_cheap

  pub refuses_rest : RefusesRest lodge → ⊥
  refuses_rest r = subst IsRefused cheap_answered (r begun begun_as cheap_text begun_are cheap_accepted first_holds.known)

  pub passes_rest : PassesRest lodge → ⊥
  passes_rest r = subst IsPassed cheap_answered (r begun begun_as cheap_text begun_are cheap_accepted first_holds.known)

  pub second_problem : SecondProblem lodge → ⊥
  second_problem r =
      subst IsHeld (answered lodge D begun begun_as begun_are problem_text _ is_second)
      (r begun example first_holds.known example_formed problem_short)

  pub stuck_unexamined : StuckUnexamined lodge → ⊥
  stuck_unexamined r =
      r begun 3 0 first_holds.known (lit≤ tt, lit≤ tt) two_units
      (subst IsRefused (sym (answered lodge D begun begun_as begun_are (rendered_trees.render 3 (leaf (stuck 0))) _ is_not_stuck)) tt)

  pub never_unexamined : NeverUnexamined lodge → ⊥
  never_unexamined r =
      r begun 3 1 first_holds.known (lit≤ tt, lit≤ tt) two_periods
      (subst IsRefused (sym (answered lodge D begun begun_as begun_are (rendered_trees.render 3 (leaf (short 1))) _ is_not_short)) tt)

  -- a count is accepted; a crowd leaf that does not hold is 36, a count no narrower than the one above it 37
  pub counts_unread : CountsUnread lodge → ⊥
  counts_unread r = subst IsRefused (answered lodge D begun begun_as begun_are (rendered_trees.render 3 by_count) _ is_counted) (r begun 3 1 1 _ _)

  pub never_36 : NeverAnswers lodge 36 → ⊥
  never_36 r = r begun _ 3 (answered lodge D begun begun_as begun_are _ _ is_not_crowd)

  pub never_37 : NeverAnswers lodge 37 → ⊥
  never_37 r = r begun _ 4 (answered lodge D begun begun_as begun_are _ _ is_no_narrower)

  -- two trees with two bounds
  pub one_bound : (b : Bound) → OneBound lodge b → ⊥
  one_bound b r =
      let x = answered lodge D begun begun_as begun_are tree_text _ is_tree in
      let y = answered lodge D begun begun_as begun_are lone_text _ is_lone_price in
      let p : number (pos 1980) ≡ b = r begun tree_text tree_given (subst (λ (s : Stated). Carries s (its_bound tree_given)) (sym x) refl) in
      let q : number (pos 1940) ≡ b = r begun lone_text lone_given (subst (λ (s : Stated). Carries s (its_bound lone_given)) (sym y) refl) in
      let z : ◌≡◌ {A = ℕ} 1980 1940 = cc in
      omega arith

  -- ---- a text after the problem and another text

  -- the same schedule by another writer
  pub keeps_last : KeepsLast lodge → ⊥
  keeps_last r =
      let texts = problem_text ∷ cheap_text ∷ [] in
      let text = schedules.render 8 (rows 60 80 0 20) in
      let vs = problem example ∷ schedule cheap ∷ [] in
      let x = answered lodge D texts vs cheap_are text _ is_cheap_too in
      let h = ap (λ (d : Docket). d.held.cost) (reached_is lodge D texts vs cheap_are) in
      subst IsHeld x (r texts text _ h (subst (λ (s : Stated). Carries s (its_cost 1980)) (sym x) refl))

  -- the same tree by another writer
  pub keeps_last_tree : KeepsLastTree lodge → ⊥
  keeps_last_tree r =
      let texts = problem_text ∷ tree_text ∷ [] in
      let vs = problem example ∷ tree (figures 3 1980 1 2) ∷ [] in
      let x = answered lodge D texts vs tree_are tree_text_too _ is_tree_too in
      let h = ap (λ (d : Docket). d.held.bound) (reached_is lodge D texts vs tree_are) in
      subst IsHeld x (r texts tree_text_too tree_given (subst (λ (b : HeldBound). IsBound b (number (pos 1980))) (sym h) refl) (subst (λ (s : Stated). Carries s (its_bound tree_given)) (sym x) refl))

  -- ---- any list and any tree

  pub invents : Invents lodge → ⊥
  invents r =
      let x = answered lodge D r.texts r.verdicts r.texts_are (rendered_trees.render r.writer r.its) _ r.accepted in
      go (every (λ (G : Bounded). higher (bound r.P root r.its) G.figures.bound) (trees r.verdicts)) (subst (λ (s : Stated). Carries s (its_bound r.given)) x r.carries)
    where
      same : tree_figures r.P r.its ≡ r.given → ⊥
      same e = r.invented (ap (λ (F : TreeFigures). F.splits) (sym e), ap (λ (F : TreeFigures). F.leaves) (sym e))

      go : (t : Bool) → Carries (held_if t (its_bound (tree_figures r.P r.its))) (its_bound r.given) → ⊥
      go true e = same (cc)
      go false e = same (cc)
