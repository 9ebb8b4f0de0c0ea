-- Demand 3 refutes each wrong docket that holds otherwise: what a list leaves is the docket that its verdicts determine.
use Rattle.std.specs.Prelude.{None, Some}
use mathlib.Core.Path.{◌≡◌, refl, sym, ap, subst, ◌∙◌}
use mathlib.Core.List.{List, [], ◌∷◌}
use mathlib.Core.Option.{Option, none, some}
use Prim.Native.Nat.{ℕ}
use native.Mathlib.Omega.{arith}
use lib.IntN.{pos}
use Rattle.model.specs.Instance.{Instance}
use Rattle.model.specs.Held as arrays
use Rattle.model.specs.Held.{view}
use Rattle.model.specs.Figures.{Bound}
use Rattle.std.specs.Prelude.{None as never, Some as number}
use Rattle.model.proofs.Held.{view_held}
use Rattle.model.proofs.Lists.{held_least, held_highest}
use Rattle.model.proofs.Unbroken.{meets_shaped}
use Rattle.judge.specs.Rows.{schedule_of}
use Rattle.schedule.proofs.Filling.{rows_held}
use Rattle.tree.specs.Acceptance.{Bounded}
use Rattle.docket.specs.declared.Docket.{Docket}
use Rattle.docket.specs.declared.held.CostBy.{CostBy}
use Rattle.docket.specs.declared.held.Held.{Held}
use Rattle.docket.specs.declared.held.HeldBound.{HeldBound}
use Rattle.docket.specs.Verdicts.{Costed, Verdict, schedules, trees, known_at_end}
use Rattle.docket.specs.Texts.{Are}
use Rattle.docket.specs.Lodging.{bound_by}
use Rattle.docket.specs.Demand3.{reached, BoundHeld, HoldsUnder, Holding, Lodging, Reporting, Writing, Demand3}
use Rattle.docket.proofs.BestSoFar.{first_mem, first_held, cheaper_trans, cheaper_weak, raises_trans, raises_weak}
use Rattle.docket.proofs.GoodVerdicts.{GoodSchedule, all_mem, Proper}
use Rattle.docket.proofs.Reached.{by_cost, by_bound, least, highest, docket_under, docket_of}
use Rattle.docket.proofs.Determined.{holds_then}
use Rattle.docket.proofs.AfterTexts.{proper_then, reached_is}
use Rattle.docket.proofs.Specimens.{problem_text}
use Rattle.wrong.specs.WrongDockets.{IsBound}
use Rattle.wrong.specs.WrongStates.{IsBy, SomeList, NeverChanges, KeepsFirst, KeepsFirstBound, OneBoundHeld, OtherProblem, NeverUntrue, NumberUntrue, OtherSchedule, OtherBound, UnheldChanges}
use Rattle.wrong.proofs.ShortLists.{begun, begun_as, begun_are, cheap_text, dear_text, cheap_are, dear_are, dear_cheap_are, tree_text, lone_text, tree_are, lone_are, lone_tree_are}

not_held : (by : CostBy) → None ≡ Some by → ⊥
not_held by e = let z : ◌≡◌ {A = ℕ} 0 1 = cc in omega arith

one_cost : (a b : CostBy) → Some a ≡ Some b → a.cost ≡ b.cost
one_cost a b e = cc

module _ (lodge : Lodging) {report : Reporting} {buffer : Writing} (D : Demand3 lodge report buffer) where
  -- the cost and the bound that a list leaves
  module _ (texts : List (List ℕ)) (vs : List Verdict) (are : Are none texts vs) where
    cost_then : (reached lodge texts).held.cost ≡ (docket_of (known_at_end none vs) vs).held.cost
    cost_then = ap (λ (d : Docket). d.held.cost) (reached_is lodge D texts vs are)

    bound_then : (reached lodge texts).held.bound ≡ (docket_of (known_at_end none vs) vs).held.bound
    bound_then = ap (λ (d : Docket). d.held.bound) (reached_is lodge D texts vs are)

  -- ---- on document 01's problem

  pub never_changes : NeverChanges lodge → ⊥
  never_changes r =
      let e = r begun cheap_text (holds_then lodge D begun begun_as begun_are).known in
      not_held _ (sym (cost_then begun begun_as begun_are) ∙ ap (λ (h : Held). h.cost) (sym e) ∙ cost_then (problem_text ∷ cheap_text ∷ []) _ cheap_are)

  pub keeps_first : KeepsFirst lodge → ⊥
  keeps_first r =
      let e = r (problem_text ∷ dear_text ∷ []) cheap_text _ (cost_then (problem_text ∷ dear_text ∷ []) _ dear_are) in
      let h = cost_then (problem_text ∷ dear_text ∷ cheap_text ∷ []) _ dear_cheap_are in
      let z : ◌≡◌ {A = ℕ} 2060 1980 = one_cost (record { cost = 2060; writer = 7 }) (record { cost = 1980; writer = 7 }) (sym e ∙ h) in
      omega arith

  -- 1980 is held after the tree, 1940 after the price leaf
  tree_bound : IsBound (reached lodge (problem_text ∷ tree_text ∷ [])).held.bound (number (pos 1980))
  tree_bound = subst (λ (b : HeldBound). IsBound b (number (pos 1980))) (sym (bound_then (problem_text ∷ tree_text ∷ []) _ tree_are)) refl

  lone_bound : IsBound (reached lodge (problem_text ∷ lone_text ∷ [])).held.bound (number (pos 1940))
  lone_bound = subst (λ (b : HeldBound). IsBound b (number (pos 1940))) (sym (bound_then (problem_text ∷ lone_text ∷ []) _ lone_are)) refl

  pub one_bound_held : (b : Bound) → OneBoundHeld lodge b → ⊥
  one_bound_held b r =
      let p : number (pos 1980) ≡ b = r (problem_text ∷ tree_text ∷ []) (number (pos 1980)) tree_bound in
      let q : number (pos 1940) ≡ b = r (problem_text ∷ lone_text ∷ []) (number (pos 1940)) lone_bound in
      let z : ◌≡◌ {A = ℕ} 1980 1940 = cc in
      omega arith

  pub keeps_first_bound : KeepsFirstBound lodge → ⊥
  keeps_first_bound r =
      let e = r (problem_text ∷ lone_text ∷ []) tree_text (number (pos 1940)) lone_bound in
      let h = bound_then (problem_text ∷ lone_text ∷ tree_text ∷ []) _ lone_tree_are in
      let n : number (pos 1980) ≡ number (pos 1940) = subst (λ (b : HeldBound). IsBound b (number (pos 1940))) h e in
      let z : ◌≡◌ {A = ℕ} 1980 1940 = cc in
      omega arith

  -- ---- after any list

  module _ (l : SomeList) where
    holds_there : HoldsUnder l.P l.verdicts (reached lodge l.texts)
    holds_there =
        subst (λ (o : Option Instance). Holding o l.verdicts (reached lodge l.texts)) l.known (holds_then lodge D l.texts l.verdicts l.texts_are)

    proper_there : Proper (some l.P) l.verdicts
    proper_there = subst (λ (o : Option Instance). Proper o l.verdicts) l.known (proper_then l.texts l.verdicts l.texts_are)

    there : reached lodge l.texts ≡ docket_under l.P (least l.verdicts) (highest l.verdicts)
    there =
        reached_is lodge D l.texts l.verdicts l.texts_are ∙ ap (λ (o : Option Instance). docket_of o l.verdicts) l.known

  pub other_problem : OtherProblem lodge → ⊥
  other_problem r = r.other (ap view (holds_there r.after).problem_is ∙ view_held r.after.P (proper_there r.after).0)

  pub never_untrue : NeverUntrue lodge → ⊥
  never_untrue r =
      (subst (BoundHeld r.after.P (trees r.after.verdicts)) r.never_held (holds_there r.after).bound_held).1 r.rows r.meets

  pub number_untrue : NumberUntrue lodge → ⊥
  number_untrue r =
      r.above ((subst (BoundHeld r.after.P (trees r.after.verdicts)) r.number_held (holds_there r.after).bound_held).1 r.rows r.meets)

  pub other_schedule : OtherSchedule lodge → ⊥
  unfolding arrays.held
  other_schedule r =
      let l = r.after in
      let f = first_held by_cost (cheaper_trans (λ (x : Costed). x.cost)) (cheaper_weak (λ (x : Costed). x.cost)) (held_least (λ (x : Costed). x.cost)) r.s (schedules l.verdicts) r.first in
      let e : reached lodge l.texts ≡ docket_under l.P (some r.s) (highest l.verdicts) = there l ∙ ap (λ (c : Option Costed). docket_under l.P c (highest l.verdicts)) f in
      let g = all_mem (GoodSchedule l.P) (schedules l.verdicts) (proper_there l).1.0 r.s (first_mem by_cost r.s (schedules l.verdicts) r.first) in
      r.other (ap (λ (d : Docket). d.held.cost) e, ap (λ (d : Docket). schedule_of d.problem d.rows) e ∙ rows_held l.P r.s.rows (meets_shaped l.P r.s.rows g.meets))

  pub other_bound : OtherBound lodge → ⊥
  other_bound r =
      let l = r.after in
      let f = first_held by_bound (raises_trans (λ (x : Bounded). x.figures.bound)) (raises_weak (λ (x : Bounded). x.figures.bound)) (held_highest (λ (x : Bounded). x.figures.bound)) r.F (trees l.verdicts) r.first in
      let e : reached lodge l.texts ≡ docket_under l.P (least l.verdicts) (some r.F) = there l ∙ ap (λ (b : Option Bounded). docket_under l.P (least l.verdicts) b) f in
      r.other (subst (λ (b : HeldBound). IsBy b r.F.figures.bound r.F.writer) (sym (ap (λ (d : Docket). d.held.bound) e)) (by_itself r.F.figures.bound r.F.writer))
    where
      by_itself : (b : Bound) (w : ℕ) → IsBy (bound_by b w) b w
      by_itself never w = (refl, refl)
      by_itself (number z) w = (refl, refl)

  pub unheld_changes : UnheldChanges lodge → ⊥
  unheld_changes r = r.other ((D r.texts).unchanged r.text r.unheld)
