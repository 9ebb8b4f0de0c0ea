-- A docket that keeps the last of equal schedules, or of equal trees, breaks demand 3, however it reports: the same text by another writer is passed.
use Rattle.std.specs.Prelude.{None, Option, Some}
use mathlib.Core.Path.{◌≡◌, refl, sym, subst}
use mathlib.Core.Bool.{Bool, true, false, not, cond}
use Prim.Native.Nat.{ℕ}
use native.Mathlib.Omega.{arith}
use lib.Dec.{leb}
use lib.IntN.{ℤ}
use lib.Signed.{lt_z}
use borrow.Author.Tests.{le-leb}
use Rattle.model.specs.Held.{view}
use Rattle.model.specs.Figures.{Bound}
use Rattle.std.specs.Prelude.{None as never, Some as number}
use Rattle.model.specs.declared.figures.TreeFigures.{TreeFigures}
use Rattle.model.proofs.Integers.{ltZ→nat}
use Rattle.docket.specs.declared.Docket.{Docket}
use Rattle.docket.specs.declared.held.CostBy.{CostBy}
use Rattle.docket.specs.declared.held.HeldBound.{HeldBound}
use Rattle.docket.specs.declared.held.HeldBound.TheVariants as held_bound
use Rattle.answer.specs.declared.Answer.TheVariants.{ScheduleHeld, SchedulePassed, TreeHeld, TreePassed}
use Rattle.answer.specs.StatedAnswers.{its_cost, its_bound, Stated, stated, Carries}
use Rattle.docket.specs.Verdicts.{Costed, Verdict, refused, problem, schedule, tree}
use Rattle.docket.specs.Lodging.{text_judged, lodged, with_schedule, with_bound, is_less, is_higher}
use Rattle.docket.specs.Demand3.{reached, Reporting, Writing, Demand3}
use Rattle.wrong.specs.WrongDockets.{IsHeld, IsBound}
use Rattle.wrong.specs.WrongHolding as wrong
use Rattle.wrong.proofs.WrongDockets as refuted

-- ---- the last of the least

-- what is told of a schedule, held or passed
abbrev told : Docket → Costed → Bool → Stated
told d s t = stated (cond t (lodged (with_schedule d s) (ScheduleHeld s.cost)) (lodged d (SchedulePassed s.cost))).answer

no_bound_told : {A : Type 0} {c : ℕ} {F : TreeFigures} → its_bound F ≡ its_cost c → A
no_bound_told e = absurd (let z : ◌≡◌ {A = ℕ} 0 1 = cc in omega arith)

module _ (d : Docket) (s : Costed) where
  told_number : (n : ℕ) (t : Bool) → leb s.cost n ≡ t → Carries (told d s t) (its_cost n) → IsHeld (told d s t)
  told_number n true p c = tt
  told_number n false p c =
      let q : s.cost ≡ n = cc in
      let l : leb s.cost n ≡ true = le-leb s.cost n (omega arith) in
      let z : ◌≡◌ {A = ℕ} 0 1 = cc in
      omega arith

  told_held : (by : CostBy) (h : Option CostBy) → h ≡ Some by → Carries (told d s (wrong.not_more s.cost h)) (its_cost by.cost)
      → IsHeld (told d s (wrong.not_more s.cost h))
  told_held by None e c = tt
  told_held by (Some n) e c =
      let q : by.cost ≡ n.cost = cc in
      told_number n.cost (leb s.cost n.cost) refl (subst (λ (x : ℕ). Carries (told d s (leb s.cost n.cost)) (its_cost x)) q c)

last_held : (d : Docket) (by : CostBy) (v : Verdict) → d.held.cost ≡ Some by → Carries (stated (wrong.hold_last d v).answer) (its_cost by.cost)
    → IsHeld (stated (wrong.hold_last d v).answer)
last_held d by (refused r) e c = absurd c
last_held d by (problem P) e c = tt
last_held d by (schedule s) e c = told_held d s by d.held.cost e c
last_held d by (tree F) e c = go (is_higher F.figures.bound d.held.bound) c
  where
    go : (t : Bool) → Carries (stated (cond t (lodged (with_bound d F) (TreeHeld F.figures)) (lodged d (TreePassed F.figures))).answer) (its_cost by.cost)
        → IsHeld (stated (cond t (lodged (with_bound d F) (TreeHeld F.figures)) (lodged d (TreePassed F.figures))).answer)
    go true c = tt
    go false c = no_bound_told c

pub keeping_last_fails : {report : Reporting} {buffer : Writing} → Demand3 wrong.keeping_last report buffer → ⊥
keeping_last_fails D = refuted.keeps_last wrong.keeping_last D (λ texts text by e c.
    let d = reached wrong.keeping_last texts in
    last_held d by (text_judged d.known (view d.problem) text) e c)

-- ---- the last of the highest

not_below_itself : (z : ℤ) → not (lt_z z z) ≡ true
not_below_itself z = go (lt_z z z) refl
  where
    go : (t : Bool) → lt_z z z ≡ t → not t ≡ true
    go true e = absurd (omega (arith, ltZ→nat z z (rw e tt)))
    go false e = refl

same_not_lower : (b : Bound) (h : HeldBound) → IsBound h b → wrong.not_lower b h ≡ true
same_not_lower b held_bound.Nothing i = absurd i
same_not_lower never (held_bound.Number n) i = refl
same_not_lower (number z) (held_bound.Number n) i = let e : n.value ≡ z = cc in subst (λ (y : ℤ). not (lt_z z y) ≡ true) (sym e) (not_below_itself z)
same_not_lower never (held_bound.Never n) i = refl
same_not_lower (number z) (held_bound.Never n) i = absurd (let z : ◌≡◌ {A = ℕ} 0 1 = cc in omega arith)

last_tree_held : (d : Docket) (F : TreeFigures) (v : Verdict) → IsBound d.held.bound F.bound → Carries (stated (wrong.hold_last_tree d v).answer) (its_bound F)
    → IsHeld (stated (wrong.hold_last_tree d v).answer)
last_tree_held d F (refused r) i c = absurd c
last_tree_held d F (problem P) i c = tt
last_tree_held d F (schedule s) i c = go (is_less s.cost d.held.cost) c
  where
    go : (t : Bool) → Carries (told d s t) (its_bound F) → IsHeld (told d s t)
    go true c = tt
    go false c = no_bound_told (sym c)
last_tree_held d F (tree G) i c = go (wrong.not_lower G.figures.bound d.held.bound) refl c
  where
    go : (t : Bool) → wrong.not_lower G.figures.bound d.held.bound ≡ t
        → Carries (stated (cond t (lodged (with_bound d G) (TreeHeld G.figures)) (lodged d (TreePassed G.figures))).answer) (its_bound F)
        → IsHeld (stated (cond t (lodged (with_bound d G) (TreeHeld G.figures)) (lodged d (TreePassed G.figures))).answer)
    go true e c = tt
    go false e c =
        let f : G.figures ≡ F = cc in
        let g = same_not_lower G.figures.bound d.held.bound (subst (λ (x : TreeFigures). IsBound d.held.bound x.bound) (sym f) i) in
        let z : ◌≡◌ {A = ℕ} 0 1 = cc in
        absurd (omega arith)

pub keeping_last_tree_fails : {report : Reporting} {buffer : Writing} → Demand3 wrong.keeping_last_tree report buffer → ⊥
keeping_last_tree_fails D = refuted.keeps_last_tree wrong.keeping_last_tree D (λ texts text F i c.
    let d = reached wrong.keeping_last_tree texts in
    last_tree_held d F (text_judged d.known (view d.problem) text) i c)
