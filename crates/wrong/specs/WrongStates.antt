-- Document 01, Conditions of acceptance: what wrong dockets hold, each said of any way of lodging and of the dockets that it reaches from a fresh one. Demand
-- 3 refutes each.
use Rattle.std.specs.Prelude.{◌≡◌, true, List, ℕ, pos, ◌≤ℤ◌, Some}
use Rattle.std.proofs.Math.Option.{none, some}
use Rattle.model.specs.Instance.{Instance, Schedule}
use Rattle.model.specs.Rules.{Meets}
use Rattle.model.specs.Cost as model
use Rattle.model.specs.Figures.{Bound}
use Rattle.std.specs.Prelude.{None as never, Some as number}
use Rattle.model.specs.Best.{FirstLeast, FirstHighest}
use Rattle.model.specs.Held.{view}
use Rattle.judge.specs.Rows.{schedule_of}
use Rattle.tree.specs.Acceptance.{Bounded}
use Rattle.docket.specs.declared.held.BoundBy.{BoundBy}
use Rattle.docket.specs.declared.held.CostBy.{CostBy}
use Rattle.docket.specs.declared.held.NeverBy.{NeverBy}
use Rattle.docket.specs.declared.held.HeldBound.{HeldBound}
use Rattle.docket.specs.declared.held.HeldBound.TheVariants as bound
use Rattle.docket.specs.Verdicts.{Costed, Verdict, schedules, trees, known_at_end}
use Rattle.docket.specs.Texts.{Are}
use Rattle.docket.specs.Demand3.{Unheld, Lodging, reached}
use Rattle.wrong.specs.WrongDockets.{IsBound, answer}

-- the bound b is held, and its writer is w
abbrev pub IsBy : HeldBound → Bound → ℕ → Type 0
IsBy bound.Nothing b w = ⊥
IsBy (bound.Number by) b w = (number by.value ≡ b) × (by.writer ≡ w)
IsBy (bound.Never by) b w = (never ≡ b) × (by.writer ≡ w)

-- some list whose problem is P
pub record SomeList : Type 0 where
  pub texts : List (List ℕ)
  pub verdicts : List Verdict
  pub texts_are : Are none texts verdicts
  pub P : Instance
  pub known : known_at_end none verdicts ≡ some P

module _ (lodge : Lodging) where
  -- never changing what it holds under its problem
  abbrev pub NeverChanges : Type 0
  NeverChanges = (texts : List (List ℕ)) (text : List ℕ) → (reached lodge texts).known ≡ true
      → (lodge (reached lodge texts) text).docket.held ≡ (reached lodge texts).held

  -- keeping the first schedule, or the first bound, whatever comes after
  abbrev pub KeepsFirst : Type 0
  KeepsFirst = (texts : List (List ℕ)) (text : List ℕ) (by : CostBy) → (reached lodge texts).held.cost ≡ Some by
      → (lodge (reached lodge texts) text).docket.held.cost ≡ Some by

  abbrev pub KeepsFirstBound : Type 0
  KeepsFirstBound = (texts : List (List ℕ)) (text : List ℕ) (b : Bound) → IsBound (reached lodge texts).held.bound b
      → IsBound (lodge (reached lodge texts) text).docket.held.bound b

  -- holding no bound but b
  abbrev pub OneBoundHeld : Bound → Type 0
  OneBoundHeld b = (texts : List (List ℕ)) (c : Bound) → IsBound (reached lodge texts).held.bound c → c ≡ b

  -- after some list holding another problem than the first accepted one
  pub record OtherProblem : Type 0 where
    pub after : SomeList
    pub other : view (reached lodge after.texts).problem ≡ after.P → ⊥

  -- after some list holding never, though a schedule meets the rules
  pub record NeverUntrue : Type 0 where
    pub after : SomeList
    pub by : NeverBy
    pub never_held : (reached lodge after.texts).held.bound ≡ bound.Never by
    pub rows : Schedule
    pub meets : Meets after.P rows

  -- after some list holding a number above the cost of a schedule that meets the rules
  pub record NumberUntrue : Type 0 where
    pub after : SomeList
    pub by : BoundBy
    pub number_held : (reached lodge after.texts).held.bound ≡ bound.Number by
    pub rows : Schedule
    pub meets : Meets after.P rows
    pub above : by.value ≤ℤ pos (model.cost after.P rows) → ⊥

  -- after some list holding another cost, another writer or other rows than those of the first accepted schedule with the least cost
  pub record OtherSchedule : Type 0 where
    pub after : SomeList
    pub s : Costed
    pub first : FirstLeast (λ x. x.cost) s (schedules after.verdicts)
    pub other : ((reached lodge after.texts).held.cost ≡ Some (record { cost = s.cost; writer = s.writer }))
        × (schedule_of (reached lodge after.texts).problem (reached lodge after.texts).rows ≡ s.rows)
        → ⊥

  -- after some list holding another bound or another writer than those of the first accepted tree with the highest bound
  pub record OtherBound : Type 0 where
    pub after : SomeList
    pub F : Bounded
    pub first : FirstHighest (λ x. x.figures.bound) F (trees after.verdicts)
    pub other : IsBy (reached lodge after.texts).held.bound F.figures.bound F.writer → ⊥

  -- changing with a text that is refused or passed
  pub record UnheldChanges : Type 0 where
    pub texts : List (List ℕ)
    pub text : List ℕ
    pub unheld : Unheld (answer lodge texts text)
    pub other : (lodge (reached lodge texts) text).docket ≡ reached lodge texts → ⊥
