-- The up line and the down line are read between the ends of their buffers, and the unit's answer is that of the numbers on them.
use borrow.Author.Rules.{rules}
use mathlib.Core.Path.{◌≡◌, refl, sym, ap, subst, ◌∙◌}
use mathlib.Core.List.{List}
use Prim.Native.Nat.{ℕ, suc, ◌+◌}
use lib.ListN.{get_or}
use Rattle.std.specs.Prelude.{Err}
use Rattle.std.proofs.lemmas.Result.{err_from_is_err_and}
use Rattle.model.specs.Instance.{◌at◌}
use Rattle.model.specs.Ranges.{GoodUnit}
use Rattle.model.specs.Held.{blank_generator}
use Rattle.layout.specs.Numbers.{instance_in}
use Rattle.walk.specs.Marks.{above_of}
use Rattle.least.specs.Limits.{GoodSteps}
use Rattle.least.proofs.UnitParts.{all_get_d}
use Rattle.text.specs.Lines.{line_at}
use Rattle.text.specs.Forms.{plain, verdict_of, fault_number}
use Rattle.tree.specs.declared.read.BrokenLine.{BrokenLine}
use Rattle.tree.specs.ReadAnswers.{broken}
use Rattle.tree.specs.Rendering.{up_key, down_key}
use Rattle.tree.specs.RampReads.{Padded}
use Rattle.text.proofs.Mapped.{mapped_err, mapped_ok}
use Rattle.tree.proofs.StepBuffers.{inner_steps, steps_padded, steps_good, steps_at}
use Rattle.tree.proofs.UnitReads.{up_refused, down_refused, both_good}
use Rattle.tree.proofs.ramp.read_unit.Goals as goal

pub returns-in_err-falls : goal.returns-in_err-falls
returns-in_err-falls c =
    let a = c.args in
    let P = instance_in a.plan.numbers.now in
    let A = above_of P a.above.now in
    let T = P.periods in
    let r = c.requires in
    let up_is = c.fill_steps.ensures.answer ∙ ap (λ (k : ℕ). verdict_of (plain up_key k 0 1000000000) (line_at a.text.now a.at) a.at) (inner_steps T up_key a.text.now a.at a.up.now r.periods_bound r.padded_2.0) in
    let p = err_from_is_err_and c.from_residual.result c.from_residual.ensures.1 in
    let m = mapped_err c.fill_steps.result c.map_err.result _ c.map_err.ensures.cases c.in_err-falls.was in
    let e : c.in_err-falls.field-0.0 ≡ broken (fault_number m.fault) a.line = search (rules, m.met) in
    record {
      read = rw (p.1, p.2) (ap (λ (x : BrokenLine). Err x) e ∙ up_refused P a.text.now a.at a.line A a.q.now a.s.now a.u a.sum c.fill_steps.result up_is m.fault m.was);
      padded = (subst (Padded T) (sym c.fill_steps.ensures.stored) (steps_padded T up_key a.text.now a.at a.up.now r.periods_bound r.padded_2.0), r.padded_2.1);
    }

pub returns-in_err-next : goal.returns-in_err-next
returns-in_err-next c =
    let a = c.args in
    let P = instance_in a.plan.numbers.now in
    let A = above_of P a.above.now in
    let T = P.periods in
    let r = c.requires in
    let up_is = c.fill_steps.ensures.answer ∙ ap (λ (k : ℕ). verdict_of (plain up_key k 0 1000000000) (line_at a.text.now a.at) a.at) (inner_steps T up_key a.text.now a.at a.up.now r.periods_bound r.padded_2.0) in
    let here = c.in_ok-falls.falls in
    let down_is = c.fill_steps-2.ensures.answer ∙ ap (λ (k : ℕ). verdict_of (plain down_key k 0 1000000000) (line_at a.text.now here) here) (inner_steps T down_key a.text.now here a.down.now r.periods_bound r.padded_2.1) in
    let v = mapped_ok c.fill_steps.result c.map_err.result _ c.map_err.ensures.cases c.in_ok-falls.was in
    let p = err_from_is_err_and c.from_residual-in_err-next.result c.from_residual-in_err-next.ensures.1 in
    let m = mapped_err c.fill_steps-2.result c.map_err-2.result _ c.map_err-2.ensures.cases c.in_err-next.was in
    let e : c.in_err-next.field-0.0 ≡ broken (fault_number m.fault) (a.line + 1) = search (rules, m.met) in
    record {
      read = rw (p.1, p.2) (ap (λ (x : BrokenLine). Err x) e
          ∙ down_refused P a.text.now a.at a.line A a.q.now a.s.now a.u a.sum c.fill_steps.result up_is here v c.fill_steps-2.result down_is m.fault m.was);
      padded = (subst (Padded T) (sym c.fill_steps.ensures.stored) (steps_padded T up_key a.text.now a.at a.up.now r.periods_bound r.padded_2.0), subst (Padded T) (sym c.fill_steps-2.ensures.stored) (steps_padded T down_key a.text.now c.in_ok-falls.falls a.down.now r.periods_bound r.padded_2.1));
    }

pub add_unit-sum-requires-clause-good_steps : goal.add_unit-sum-requires-clause-good_steps
add_unit-sum-requires-clause-good_steps c =
    let a = c.args in
    let P = instance_in a.plan.numbers.now in
    let A = above_of P a.above.now in
    let T = P.periods in
    let r = c.requires in
    let up_is = c.fill_steps.ensures.answer ∙ ap (λ (k : ℕ). verdict_of (plain up_key k 0 1000000000) (line_at a.text.now a.at) a.at) (inner_steps T up_key a.text.now a.at a.up.now r.periods_bound r.padded_2.0) in
    let here = c.in_ok-falls.falls in
    let down_is = c.fill_steps-2.ensures.answer ∙ ap (λ (k : ℕ). verdict_of (plain down_key k 0 1000000000) (line_at a.text.now here) here) (inner_steps T down_key a.text.now here a.down.now r.periods_bound r.padded_2.1) in
    let v = mapped_ok c.fill_steps.result c.map_err.result _ c.map_err.ensures.cases c.in_ok-falls.was in
    let w = mapped_ok c.fill_steps-2.result c.map_err-2.result _ c.map_err-2.ensures.cases c.in_ok-next.was in (
      subst (GoodSteps T) (sym c.fill_steps.ensures.stored) (steps_good T up_key a.text.now a.at a.up.now r.periods_bound r.padded_2.0 refl c.fill_steps.result c.fill_steps.ensures.answer here v),
      subst (GoodSteps T) (sym c.fill_steps-2.ensures.stored) (steps_good T down_key a.text.now here a.down.now r.periods_bound r.padded_2.1 refl c.fill_steps-2.result c.fill_steps-2.ensures.answer c.in_ok-next.next w),
    )

pub returns : goal.returns
returns c =
    let a = c.args in
    let P = instance_in a.plan.numbers.now in
    let A = above_of P a.above.now in
    let T = P.periods in
    let r = c.requires in
    let up_is = c.fill_steps.ensures.answer ∙ ap (λ (k : ℕ). verdict_of (plain up_key k 0 1000000000) (line_at a.text.now a.at) a.at) (inner_steps T up_key a.text.now a.at a.up.now r.periods_bound r.padded_2.0) in
    let here = c.in_ok-falls.falls in
    let down_is = c.fill_steps-2.ensures.answer ∙ ap (λ (k : ℕ). verdict_of (plain down_key k 0 1000000000) (line_at a.text.now here) here) (inner_steps T down_key a.text.now here a.down.now r.periods_bound r.padded_2.1) in
    let v = mapped_ok c.fill_steps.result c.map_err.result _ c.map_err.ensures.cases c.in_ok-falls.was in
    let w = mapped_ok c.fill_steps-2.result c.map_err-2.result _ c.map_err-2.ensures.cases c.in_ok-next.was in
    let x : List ℕ = c.fill_steps.new.out in
    let y : List ℕ = c.fill_steps-2.new.out in
    let fine : GoodUnit (get_or P.units a.u blank_generator) = all_get_d GoodUnit a.u P.units blank_generator r.u_in_bounds c.args.plan.laid.well_formed.units_good in
    record {
      read = both_good P a.text.now a.at a.line A a.q.now a.s.now a.u a.sum c.fill_steps.result up_is here v c.fill_steps-2.result down_is c.in_ok-next.next w (λ t. x at suc t) (λ t. y at suc t) fine
          (λ t i. ap (λ (z : List ℕ). z at suc t) c.fill_steps.ensures.stored
          ∙ steps_at T up_key a.text.now a.at a.up.now r.periods_bound r.padded_2.0 refl c.fill_steps.result c.fill_steps.ensures.answer here v t i)
          (λ t i. ap (λ (z : List ℕ). z at suc t) c.fill_steps-2.ensures.stored
          ∙ steps_at T down_key a.text.now here a.down.now r.periods_bound r.padded_2.1 refl c.fill_steps-2.result c.fill_steps-2.ensures.answer c.in_ok-next.next w t i)
          c.add_unit-sum.result c.add_unit-sum.ensures;
      padded = (subst (Padded T) (sym c.fill_steps.ensures.stored) (steps_padded T up_key a.text.now a.at a.up.now r.periods_bound r.padded_2.0), subst (Padded T) (sym c.fill_steps-2.ensures.stored) (steps_padded T down_key a.text.now c.in_ok-falls.falls a.down.now r.periods_bound r.padded_2.1));
    }
