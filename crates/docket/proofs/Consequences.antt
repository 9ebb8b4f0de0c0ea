-- What follows from demand 3 for any way of lodging: a held cost and a held never cannot stand together, and the gap is never negative. The held
-- schedule meets the rules, and of every schedule that does a held bound speaks: so the true least cost lies between the two.
use Rattle.std.specs.Prelude.{None, Some}
use mathlib.Core.Path.{◌≡◌, sym, ap, subst, ◌∙◌}
use mathlib.Core.List.{List}
use mathlib.Core.Option.{Option, none, some}
use Prim.Native.Nat.{ℕ, ◌≤◌}
use native.Mathlib.Omega.{arith}
use lib.IntN.{pos, ◌-ℤ◌}
use lib.Signed.{◌≤ℤ◌}
use Rattle.model.specs.Instance.{Instance, Schedule}
use Rattle.model.specs.Rules.{Meets}
use Rattle.model.specs.Cost as model
use Rattle.docket.specs.Docket.{HeldCost}
use Rattle.docket.specs.declared.Docket.{Docket}
use Rattle.docket.specs.declared.held.CostBy.{CostBy}
use Rattle.docket.specs.declared.held.BoundBy.{BoundBy}
use Rattle.docket.specs.declared.held.NeverBy.{NeverBy}
use Rattle.docket.specs.declared.held.HeldBound.TheVariants as bound
use Rattle.docket.specs.Verdicts.{Verdict, schedules, trees, known_at_end}
use Rattle.docket.specs.Demand3.{reached, CostHeld, BoundHeld, HoldsUnder, Holding, Lodging, Reporting, Writing, Demand3}
use Rattle.docket.proofs.HeldRows.{its_schedule}
use Rattle.docket.proofs.Gaps.{gap_from_zero}

-- a schedule that meets the rules at the held cost
record Priced (P : Instance) (c : CostBy) : Type 0 where
  rows : Schedule
  meets : Meets P rows
  cost_is : c.cost ≡ model.cost P rows

module _ (o : Option Instance) (vs : List Verdict) (d : Docket) (H : Holding o vs d) (c : CostBy) (e : d.held.cost ≡ Some c) where
  -- where a cost is held a problem is, and the held schedule meets its rules
  under : (A : Type 0) → ((P : Instance) → HoldsUnder P vs d → Priced P c → A) → A
  under A k = go o H
    where
      go : (o : Option Instance) → Holding o vs d → A
      go none h =
          let f : None ≡ Some c = ap (λ (x : Docket). x.held.cost) (sym h) ∙ e in
          absurd (let z : ◌≡◌ {A = ℕ} 0 1 = cc in omega arith)
      go (some P) h =
          let s = subst (λ (x : HeldCost). CostHeld P (schedules vs) x d.rows) e h.cost_held in
          k P h (record { rows = s.best.rows; meets = s.meets; cost_is = s.held_cost ∙ s.cost_is })

module _ (lodge : Lodging) {report : Reporting} {buffer : Writing} (D : Demand3 lodge report buffer) (texts : List (List ℕ)) where
  -- a held cost and a held never cannot stand together
  pub cost_or_never : (c : CostBy) (w : NeverBy) → (reached lodge texts).held.cost ≡ Some c
      → (reached lodge texts).held.bound ≡ bound.Never w
      → ⊥
  cost_or_never c w e f = under (known_at_end none vs) vs (reached lodge texts) (D texts).holds c e ⊥
      (λ P h s. (subst (BoundHeld P (trees vs)) f h.bound_held).1 s.rows s.meets)
    where
      vs : List Verdict
      vs = (D texts).verdicts

  -- the held bound is at most the held cost
  pub bound_at_most : (c : CostBy) (b : BoundBy) → (reached lodge texts).held.cost ≡ Some c
      → (reached lodge texts).held.bound ≡ bound.Number b
      → b.value ≤ℤ pos c.cost
  bound_at_most c b e f = under (known_at_end none vs) vs (reached lodge texts) (D texts).holds c e (b.value ≤ℤ pos c.cost)
      (λ P h s. subst (λ (n : ℕ). b.value ≤ℤ pos n) (sym s.cost_is) ((subst (BoundHeld P (trees vs)) f h.bound_held).1 s.rows s.meets))
    where
      vs : List Verdict
      vs = (D texts).verdicts

  -- so the gap, cost minus bound, is never negative
  pub gap_natural : (c : CostBy) (b : BoundBy) → (reached lodge texts).held.cost ≡ Some c → (reached lodge texts).held.bound ≡ bound.Number b
      → pos 0 ≤ℤ (pos c.cost -ℤ b.value)
  gap_natural c b e f = gap_from_zero c.cost b.value (bound_at_most c b e f)

  -- where a cost and a number are held, the least cost of all schedules that meet the rules lies between them
  pub least_between : (P : Instance) → known_at_end none (D texts).verdicts ≡ some P → (c : CostBy) (b : BoundBy)
      → (reached lodge texts).held.cost ≡ Some c → (reached lodge texts).held.bound ≡ bound.Number b
      → (s : Schedule) → Meets P s → ((r : Schedule) → Meets P r → model.cost P s ≤ model.cost P r)
      → (b.value ≤ℤ pos (model.cost P s)) × (model.cost P s ≤ c.cost)
  least_between P k c b e f s m least =
      let h = subst (λ (o : Option Instance). Holding o (D texts).verdicts (reached lodge texts)) k (D texts).holds in
      let i = its_schedule lodge D texts P k c e in (
        (subst (BoundHeld P (trees (D texts).verdicts)) f h.bound_held).1 s m,
        subst (λ (n : ℕ). model.cost P s ≤ n) (sym (i.held_cost ∙ i.cost_is)) (least i.best.rows i.meets),
      )
