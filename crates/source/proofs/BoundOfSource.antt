-- What a tree says of the paper's problem: if its leaves hold, its bound is below the objective of every whole solution, whichever form (15) has.
-- A solution's schedule meets the printed rules and costs no more, and the bound is below that cost.
use mathlib.Core.Path.{◌≡◌}
use Prim.Native.Nat.{ℕ, ◌+◌, ◌≤◌}
use native.Mathlib.Omega.{arith}
use lib.IntN.{ℤ, pos}
use lib.Signed.{◌≤ℤ◌}
use Rattle.model.specs.Instance.{Instance}
use Rattle.model.specs.Ranges.{WellFormed}
use Rattle.model.specs.Rules.{MeetsPrinted}
use Rattle.model.specs.Cost.{cost}
use Rattle.model.specs.Above.{root}
use Rattle.std.specs.Prelude.{None as never, Some as number}
use Rattle.model.specs.Tree.{Tree, Holds, bound}
use Rattle.model.proofs.Integers.{nat→le, ≤ℤ-trans}
use Rattle.model.proofs.Soundness.{number_sound, never_sound}
use Rattle.source.specs.Source.{Source, Printed15, Repaired15, Sentence15, Costs, objective}
use Rattle.source.specs.Sentences.{start_cost, printed_cost, surcharges}
use Rattle.source.proofs.Ranged.{formed→ranged}
use Rattle.source.proofs.Schedules.{printed_reading}
use Rattle.source.proofs.Objective.{sentence_least}
use Rattle.source.proofs.CostOfRows.{cost_value}
use Rattle.source.proofs.Printed.{printed_least, printed_value}
use Rattle.source.proofs.Repaired.{repaired_least}
use Rattle.source.proofs.Solutions.{schedule_of, solution_meets, solution_below}

module _ (P : Instance) (t : Tree) (W : WellFormed P) (h : Holds P root t) where
  schedule_meets : (u p : ℕ → ℕ → ℕ) → Source P u p → MeetsPrinted P (schedule_of P p)
  schedule_meets = let A = formed→ranged P W in solution_meets P (Source P) (MeetsPrinted P) (printed_reading P A) A

  -- a tree of `never`: no u and p solve (2) to (12)
  pub never_source : bound P root t ≡ never → (u p : ℕ → ℕ → ℕ) → Source P u p → ⊥
  never_source e u p S = never_sound P t h e (schedule_of P p) (schedule_meets u p S)

  below : (z : ℤ) → bound P root t ≡ number z → (u p : ℕ → ℕ → ℕ) (v : ℕ) → Source P u p → cost P (schedule_of P p) ≤ v → z ≤ℤ pos v
  below z e u p v S l =
      let c = cost P (schedule_of P p) in
      ≤ℤ-trans z (pos c) (pos v) (number_sound P t h z e (schedule_of P p) (schedule_meets u p S)) (nat→le (pos c) (pos v) (omega arith))

  pub bound_sentence : (z : ℤ) → bound P root t ≡ number z → (u p cu cd : ℕ → ℕ → ℕ) → Source P u p → Costs Sentence15 P u cu cd
      → z ≤ℤ pos (objective P u p cu cd)
  bound_sentence z e u p cu cd S C =
      below z e u p (objective P u p cu cd) S
      (solution_below Sentence15 start_cost sentence_least P (formed→ranged P W) (cost P) (cost_value P) u p cu cd S C)

  pub bound_repaired : (z : ℤ) → bound P root t ≡ number z → (u p cu cd : ℕ → ℕ → ℕ) → Source P u p → Costs Repaired15 P u cu cd
      → z ≤ℤ pos (objective P u p cu cd)
  bound_repaired z e u p cu cd S C =
      below z e u p (objective P u p cu cd) S
      (solution_below Repaired15 start_cost repaired_least P (formed→ranged P W) (cost P) (cost_value P) u p cu cd S C)

  pub bound_printed : (z : ℤ) → bound P root t ≡ number z → (u p cu cd : ℕ → ℕ → ℕ) → Source P u p → Costs Printed15 P u cu cd
      → z ≤ℤ pos (objective P u p cu cd)
  bound_printed z e u p cu cd S C =
      below z e u p (objective P u p cu cd) S
      (omega (
        arith,
        solution_below Printed15 printed_cost printed_least P (formed→ranged P W) (λ s. cost P s + surcharges P s) (printed_value P) u p cu cd S C,
      ))
