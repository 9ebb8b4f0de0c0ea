-- What is held after any list, clause by clause as demand 3 has it: whether, with what figures, of which accepted text, and what no schedule can undercut.
use Rattle.std.specs.Prelude.{None, Some}
use mathlib.Core.Path.{◌≡◌, refl, sym, ap, subst, ◌∙◌}
use mathlib.Core.Bool.{Bool, not}
use mathlib.Core.Option.{Option, none, some}
use mathlib.Core.Logic.{◌↔◌, ◌⊎◌, inl, inr}
use mathlib.Core.List.Memᴰ
use mathlib.Core.List.{List, [], ◌∷◌, ◌++◌, Memᴰ}
use Prim.Native.Nat.{ℕ, ◌≤◌}
use native.Mathlib.Omega.{arith}
use lib.Dec.{T, not_T, ltb, ltb→lt, nltb→le}
use lib.IntN.{pos}
use lib.ListN.{length, length-append}
use lib.Signed.{◌≤ℤ◌, lt_z}
use Rattle.model.specs.Instance.{Instance, Schedule}
use Rattle.model.specs.Rules.{Meets}
use Rattle.model.specs.Cost as model
use Rattle.model.specs.Figures.{Bound}
use Rattle.std.specs.Prelude.{None as never, Some as number}
use Rattle.model.specs.Best.{First, FirstLeast, FirstHighest, higher}
use Rattle.model.proofs.EveryLeaf.{not_above_self}
use Rattle.model.proofs.Integers.{ltZ→nat}
use Rattle.judge.specs.Rows.{schedule_of}
use Rattle.tree.specs.Acceptance.{Bounded}
use Rattle.docket.specs.declared.Docket.{Docket}
use Rattle.docket.specs.declared.held.CostBy.{CostBy}
use Rattle.docket.specs.declared.held.BoundBy.{BoundBy}
use Rattle.docket.specs.declared.held.NeverBy.{NeverBy}
use Rattle.docket.specs.declared.held.HeldBound.{HeldBound}
use Rattle.docket.specs.declared.held.HeldBound.TheVariants as bound
use Rattle.docket.specs.Docket.{HeldCost, fresh_docket}
use Rattle.docket.specs.Lodging.{lodge_of}
use Rattle.docket.specs.Verdicts.{Costed, Verdict, schedules, trees}
use Rattle.docket.specs.Texts.{Are}
use Rattle.docket.specs.Promised.{after, given}
use Rattle.docket.specs.Demand3.{CostHeld, HoldsSchedule, HoldsBound, BoundHeld, HoldsUnder, Holding}
use Rattle.docket.proofs.GoodVerdicts.{Proper}
use Rattle.docket.proofs.AfterTexts.{proper_then}
use Rattle.docket.proofs.Demand3.{demand3}
use Rattle.docket.proofs.Determined.{holds_then}
use Rattle.docket.proofs.HeldRows.{rows_back}

-- ---- the first of the best

not_empty : {A : Type 0} (l r : List A) (x : A) → [] ≡ l ++ (x ∷ r) → ⊥
not_empty l r x e = let n = ap length e ∙ length-append l (x ∷ r) in absurd (omega arith)

module _ {A : Type 0} (R : A → Type 0) (better : A → A → Bool) (h : A) (l : List A) (f : First better h l) where
  -- what holds of the members before it, of itself and of those after it, holds of all
  through : ((x : A) → T (better h x) → R x) → R h → ((x : A) → T (not (better x h)) → R x) → (x : A) → Memᴰ x l → R x
  through p q r x m = parts (Memᴰ.append_cases f.before (subst (λ (k : List A). Memᴰ x k) f.parts m))
    where
      last : (x ≡ h) ⊎ Memᴰ x f.after → R x
      last (inl e) = subst R (sym e) q
      last (inr k) = r x (f.no_better x k)

      parts : Memᴰ x f.before ⊎ Memᴰ x (h ∷ f.after) → R x
      parts (inl k) = p x (f.worse x k)
      parts (inr k) = last (Memᴰ.cases_cons k)

-- its cost is at most every one's
pub at_most_all : (h : Costed) (l : List Costed) → FirstLeast (λ x. x.cost) h l → (x : Costed) → Memᴰ x l → h.cost ≤ x.cost
at_most_all h l f =
    through (λ (x : Costed). h.cost ≤ x.cost) (λ x y. ltb x.cost y.cost) h l f (λ x t. omega (arith, ltb→lt h.cost x.cost t)) (omega arith)
    (λ x t. nltb→le x.cost h.cost t)

-- no one's bound is higher
pub none_above : (h : Bounded) (l : List Bounded) → FirstHighest (λ F. F.figures.bound) h l → (x : Bounded) → Memᴰ x l → T (not (higher x.figures.bound h.figures.bound))
none_above h l f =
    through (λ (x : Bounded). T (not (higher x.figures.bound h.figures.bound))) (λ x y. higher x.figures.bound y.figures.bound) h l f
    (λ x t. not_both h.figures.bound x.figures.bound t) (not_above_self h.figures.bound) (λ x t. t)
  where
    not_both : (a b : Bound) → T (higher a b) → T (not (higher b a))
    not_both never never t = tt
    not_both never (number y) t = tt
    not_both (number x) never t = absurd t
    not_both (number x) (number y) t = not_T (lt_z x y) (λ k. omega (arith, ltZ→nat x y k, ltZ→nat y x t))

-- ---- after a list

module _ (texts : List (List ℕ)) (vs : List Verdict) (are : Are none texts vs) where
  holding : Holding (given vs) vs (after texts)
  holding = holds_then lodge_of demand3 texts vs are

  proper : Proper (given vs) vs
  proper = proper_then texts vs are

  -- while no problem is held nothing is
  pub nothing_yet : given vs ≡ none → after texts ≡ fresh_docket
  nothing_yet e = subst (λ (o : Option Instance). Holding o vs (after texts)) e holding

  -- no schedule is held exactly where none was accepted, no bound exactly where no tree was
  pub no_cost_is : ((after texts).held.cost ≡ None) ↔ (schedules vs ≡ [])
  no_cost_is = go (given vs) holding proper
    where
      by_cost : (P : Instance) (c : HeldCost) → CostHeld P (schedules vs) c (after texts).rows → (c ≡ None) ↔ (schedules vs ≡ [])
      by_cost P None h = ((λ e. h.0), (λ e. refl))
      by_cost P (Some by) h = (
        (λ e. absurd (let z : ◌≡◌ {A = ℕ} 0 1 = cc in omega arith)),
        (λ e. absurd (not_empty h.first.before h.first.after h.best (sym e ∙ h.first.parts))),
      )

      go : (o : Option Instance) → Holding o vs (after texts) → Proper o vs → ((after texts).held.cost ≡ None) ↔ (schedules vs ≡ [])
      go none h p = ((λ e. p.0), (λ e. ap (λ (d : Docket). d.held.cost) h))
      go (some P) h p = by_cost P (after texts).held.cost h.cost_held

  pub no_bound_is : ((after texts).held.bound ≡ bound.Nothing) ↔ (trees vs ≡ [])
  no_bound_is = go (given vs) holding proper
    where
      some_tree : {A : Type 0} (b : Bound) (w : ℕ) → HoldsBound (trees vs) b w → trees vs ≡ [] → A
      some_tree b w h e = absurd (not_empty h.first.before h.first.after h.best (sym e ∙ h.first.parts))

      by_bound : (P : Instance) (b : HeldBound) → BoundHeld P (trees vs) b → (b ≡ bound.Nothing) ↔ (trees vs ≡ [])
      by_bound P bound.Nothing h = ((λ e. h), (λ e. refl))
      by_bound P (bound.Number by) h = ((λ e. absurd (let z : ◌≡◌ {A = ℕ} 0 1 = cc in omega arith)), some_tree (number by.value) by.writer h.0)
      by_bound P (bound.Never by) h = ((λ e. absurd (let z : ◌≡◌ {A = ℕ} 0 1 = cc in omega arith)), some_tree never by.writer h.0)

      go : (o : Option Instance) → Holding o vs (after texts) → Proper o vs → ((after texts).held.bound ≡ bound.Nothing) ↔ (trees vs ≡ [])
      go none h p = ((λ e. p.1), (λ e. ap (λ (d : Docket). d.held.bound) h))
      go (some P) h p = by_bound P (after texts).held.bound h.bound_held

  module _ (P : Instance) (known : given vs ≡ some P) where
    pub under : HoldsUnder P vs (after texts)
    under = subst (λ (o : Option Instance). Holding o vs (after texts)) known holding

    module _ (by : CostBy) (e : (after texts).held.cost ≡ Some by) where
      pub its_schedule : HoldsSchedule P (schedules vs) by (after texts).rows
      its_schedule = subst (λ (c : HeldCost). CostHeld P (schedules vs) c (after texts).rows) e under.cost_held

      pub its_rows : schedule_of (after texts).problem (after texts).rows ≡ its_schedule.best.rows
      its_rows = rows_back P (schedules vs) by (after texts) under.problem_is its_schedule

      pub held_schedule : (s : Costed) × FirstLeast (λ x. x.cost) s (schedules vs) × (by.cost ≡ s.cost) × (by.writer ≡ s.writer)
          × (schedule_of (after texts).problem (after texts).rows ≡ s.rows) × Meets P s.rows × (s.cost ≡ model.cost P s.rows)
      held_schedule =
          (its_schedule.best, its_schedule.first, its_schedule.held_cost, its_schedule.held_writer, its_rows, its_schedule.meets, its_schedule.cost_is)

      pub least_of_all : (x : Costed) → Memᴰ x (schedules vs) → by.cost ≤ x.cost
      least_of_all x m =
          subst (λ (n : ℕ). n ≤ x.cost) (sym its_schedule.held_cost) (at_most_all its_schedule.best (schedules vs) its_schedule.first x m)

    module _ (by : BoundBy) (e : (after texts).held.bound ≡ bound.Number by) where
      pub its_number : HoldsBound (trees vs) (number by.value) by.writer × ((s : Schedule) → Meets P s → by.value ≤ℤ pos (model.cost P s))
      its_number = subst (BoundHeld P (trees vs)) e under.bound_held

      pub held_number : (F : Bounded) × FirstHighest (λ x. x.figures.bound) F (trees vs) × (number by.value ≡ F.figures.bound) × (by.writer ≡ F.writer)
      held_number = let h = its_number.0 in (h.best, h.first, h.held_bound, h.held_writer)

      pub highest_of_all : (x : Bounded) → Memᴰ x (trees vs) → T (not (higher x.figures.bound (number by.value)))
      highest_of_all x m =
          let h = its_number.0 in
          subst (λ (b : Bound). T (not (higher x.figures.bound b))) (sym h.held_bound) (none_above h.best (trees vs) h.first x m)

    module _ (by : NeverBy) (e : (after texts).held.bound ≡ bound.Never by) where
      pub its_never : HoldsBound (trees vs) never by.writer × ((s : Schedule) → Meets P s → ⊥)
      its_never = subst (BoundHeld P (trees vs)) e under.bound_held

      pub held_never : (F : Bounded) × FirstHighest (λ x. x.figures.bound) F (trees vs) × (never ≡ F.figures.bound) × (by.writer ≡ F.writer)
      held_never = let h = its_never.0 in (h.best, h.first, h.held_bound, h.held_writer)
