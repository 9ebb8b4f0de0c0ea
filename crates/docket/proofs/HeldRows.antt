-- The rows that a docket holds, read back from its array: cut into a row of T outputs for each unit they are the rows of the first accepted schedule with
-- the least cost. So what stands in the array meets the rules and costs what is held.
use Rattle.std.specs.Prelude.{Some}
use mathlib.Core.Path.{◌≡◌, sym, ap, subst, ◌∙◌}
use mathlib.Core.List.{List, []}
use mathlib.Core.Option.{Option, none, some}
use Prim.Native.Nat.{ℕ, ◌*◌, ◌<◌}
use lib.ListN.{length, get_or, take, drop}
use Rattle.model.specs.declared.arrays.Problem.{Problem}
use Rattle.model.specs.Instance.{Instance, Schedule}
use Rattle.model.specs.Rules.{Meets}
use Rattle.model.specs.Cost as model
use Rattle.model.specs.Held as arrays
use Rattle.model.proofs.Unbroken.{meets_shaped}
use Rattle.judge.specs.Rows.{cut_rows, schedule_of}
use Rattle.judge.proofs.Rows.{cut_rows_at}
use Rattle.schedule.proofs.Filling.{rows_held}
use Rattle.docket.specs.Docket.{HeldCost}
use Rattle.docket.specs.declared.Docket.{Docket}
use Rattle.docket.specs.declared.held.CostBy.{CostBy}
use Rattle.docket.specs.Verdicts.{Costed, schedules, known_at_end}
use Rattle.docket.specs.Demand3.{reached, HoldsSchedule, CostHeld, Holding, HoldsUnder, Lodging, Reporting, Writing, Demand3}

-- ---- of any docket that holds a schedule so

module _ (P : Instance) (accepted : List Costed) (by : CostBy) (d : Docket) (held : d.problem ≡ arrays.held P) (h : HoldsSchedule P accepted by d.rows) where
  cut_is : cut_rows (length P.units) P.periods d.rows ≡ h.best.rows
  cut_is =
      ap (cut_rows (length P.units) P.periods) h.held_rows ∙ rows_held P h.best.rows (meets_shaped P h.best.rows h.meets)

  pub rows_back : schedule_of d.problem d.rows ≡ h.best.rows
  unfolding arrays.held
  rows_back = ap (λ (p : Problem). schedule_of p d.rows) held ∙ cut_is

  -- row u stands from u times T on
  pub row_back : (u : ℕ) → u < length P.units → take P.periods (drop (u * P.periods) d.rows) ≡ get_or h.best.rows u []
  row_back u i = sym (cut_rows_at (length P.units) P.periods d.rows u i) ∙ ap (λ (s : Schedule). get_or s u []) cut_is

-- ---- after every list

module _ (lodge : Lodging) {report : Reporting} {buffer : Writing} (D : Demand3 lodge report buffer) (texts : List (List ℕ)) (P : Instance)
    (known : known_at_end none (D texts).verdicts ≡ some P) (by : CostBy) (e : (reached lodge texts).held.cost ≡ Some by) where
  under : HoldsUnder P (D texts).verdicts (reached lodge texts)
  under = subst (λ (o : Option Instance). Holding o (D texts).verdicts (reached lodge texts)) known (D texts).holds

  -- the held schedule, as demand 3 has it
  pub its_schedule : HoldsSchedule P (schedules (D texts).verdicts) by (reached lodge texts).rows
  its_schedule = subst (λ (c : HeldCost). CostHeld P (schedules (D texts).verdicts) c (reached lodge texts).rows) e under.cost_held

  pub held_rows_are : schedule_of (reached lodge texts).problem (reached lodge texts).rows ≡ its_schedule.best.rows
  held_rows_are = rows_back P (schedules (D texts).verdicts) by (reached lodge texts) under.problem_is its_schedule

  pub held_row_is : (u : ℕ) → u < length P.units
      → take P.periods (drop (u * P.periods) (reached lodge texts).rows) ≡ get_or its_schedule.best.rows u []
  held_row_is = row_back P (schedules (D texts).verdicts) by (reached lodge texts) under.problem_is its_schedule

  pub held_meets : Meets P (schedule_of (reached lodge texts).problem (reached lodge texts).rows)
  held_meets = subst (Meets P) (sym held_rows_are) its_schedule.meets

  pub held_costs : by.cost ≡ model.cost P (schedule_of (reached lodge texts).problem (reached lodge texts).rows)
  held_costs = its_schedule.held_cost ∙ its_schedule.cost_is ∙ ap (model.cost P) (sym held_rows_are)
