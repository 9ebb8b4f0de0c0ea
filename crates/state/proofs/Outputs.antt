-- A sound docket's schedule has at most 1,536 outputs; and those of a docket that texts lead to are the rows of the schedule that is held.
use Rattle.std.specs.Prelude.{None, Option, Some}
use mathlib.Core.Path.{◌≡◌, refl, ap, ◌∙◌}
use mathlib.Core.Bool.{Bool, true, false}
use mathlib.Core.List.{List, [], flatten}
use mathlib.Core.Option.{none, some}
use Prim.Native.Nat.{ℕ, ◌*◌, ◌≤◌}
use native.Mathlib.Nat.{mul-le-mul_right}
use native.Mathlib.Omega.{arith}
use lib.ListN.{length}
use lib.Seq.{length-take-le}
use Rattle.model.specs.declared.arrays.Problem.{Problem}
use Rattle.model.specs.Instance.{Instance}
use Rattle.model.specs.Best.{FirstLeast}
use Rattle.model.specs.Held as arrays
use Rattle.model.specs.Held.{valid_problem}
use Rattle.model.proofs.Held.{take_pad}
use Rattle.model.proofs.Valid.{valid_sizes}
use Rattle.model.proofs.Unbroken.{meets_shaped}
use Rattle.judge.proofs.Rows.{joined_long}
use Rattle.docket.specs.declared.Docket.{Docket}
use Rattle.docket.specs.declared.held.Held.{Held}
use Rattle.docket.specs.declared.held.CostBy.{CostBy}
use Rattle.docket.specs.Docket.{no_bound, sound, sound_by}
use Rattle.docket.specs.Verdicts.{Costed, Verdict, schedules}
use Rattle.docket.specs.Texts.{Are}
use Rattle.docket.specs.Promised.{after, given}
use Rattle.docket.specs.Demand3.{HoldsSchedule}
use Rattle.decimal.proofs.Digits.{and_true}
use Rattle.docket.proofs.Holdings as holdings
use Rattle.state.specs.Kept.{count_under, outputs_count, outputs_of}
use Rattle.state.proofs.Room.{clash}

-- ---- how many

pub product_few : (units periods : ℕ) → units ≤ 32 → periods ≤ 48 → units * periods ≤ 1536
product_few units periods h k = let a : units * periods ≤ 32 * periods = mul-le-mul_right periods h in omega (arith, a, k)

valid_few : (p : Problem) → valid_problem p ≡ true → p.units * p.periods ≤ 1536
valid_few p e = let n = valid_sizes p e in product_few p.units p.periods n.1 n.0

few_by : (known : Bool) (p : Problem) (h : Held) (c : Option CostBy) → h.cost ≡ c → sound_by known p h ≡ true → count_under c p.units p.periods ≤ 1536
few_by known p h None k e = omega arith
few_by true p h (Some n) k e = valid_few p (and_true (valid_problem p) _ e).0
few_by false p h (Some n) k e = clash (and_true false (no_bound h.bound) (rw k at e)).0

pub outputs_few : (d : Docket) → sound d ≡ true → outputs_count d ≤ 1536
unfolding sound
outputs_few d e = few_by d.known d.problem d.held d.held.cost refl e

pub outputs_long : (d : Docket) → sound d ≡ true → length d.rows ≡ 1536 → length (outputs_of d) ≡ outputs_count d
unfolding outputs_of
outputs_long d e long = length-take-le (outputs_count d) d.rows (omega (arith, outputs_few d e, long))

-- ---- which

pub no_outputs : (d : Docket) → d.held.cost ≡ None → outputs_of d ≡ []
unfolding outputs_of
no_outputs d e = rw e refl

module _ (P : Instance) (accepted : List Costed) (by : CostBy) (d : Docket) (held : d.problem ≡ arrays.held P) (costs : d.held.cost ≡ Some by)
    (h : HoldsSchedule P accepted by d.rows) where
  pub outputs_held : outputs_of d ≡ flatten h.best.rows
  unfolding outputs_of arrays.held
  outputs_held =
      let s = meets_shaped P h.best.rows h.meets in
      let long : length (flatten h.best.rows) ≡ length P.units * P.periods = joined_long P.periods h.best.rows s.1 ∙ ap (λ (k : ℕ). k * P.periods) s.0 in
      rw (costs, held, h.held_rows) (take_pad 0 1536 (flatten h.best.rows) (length P.units * P.periods) long)

-- the outputs held after texts: those of the first accepted schedule with the least cost
module _ (texts : List (List ℕ)) (vs : List Verdict) (are : Are none texts vs) (P : Instance) (known : given vs ≡ some P) (by : CostBy)
    (e : (after texts).held.cost ≡ Some by) where
  pub outputs_after : (s : Costed) × FirstLeast (λ x. x.cost) s (schedules vs) × (outputs_of (after texts) ≡ flatten s.rows)
  outputs_after =
      let h = holdings.its_schedule texts vs are P known by e in
      (h.best, h.first, outputs_held P (schedules vs) by (after texts) (holdings.under texts vs are P known).problem_is e h)
