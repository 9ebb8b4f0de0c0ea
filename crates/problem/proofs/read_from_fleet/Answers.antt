use Prim.Native.Nat.{ℕ, ◌+◌, ◌-◌}
use native.Mathlib.Omega.{arith}
use mathlib.Core.Path.{◌≡◌, refl, sym, ap, ◌∙◌}
use lib.ListN.{take, length-set}
use Rattle.model.specs.Held.{pad, blank_generator}
use Rattle.problem.specs.Course.{fleet_due, no_units}
use Rattle.problem.specs.Storing.{read_from}
use Rattle.problem.proofs.Padding.{pad_none, pad_set}
use Rattle.problem.proofs.Fleets.{fleet_refused, fleet_on, arrays_held, fleet_ended}
use Rattle.std.specs.Prelude.{Err}
use Rattle.refusal.specs.declared.Refusal.{Refusal}
use Rattle.refusal.specs.Refusals.{refusal_of}
use Rattle.text.specs.Forms.{fault_number}
use Rattle.problem.specs.ReadAnswers.{read_as}
use Rattle.std.proofs.lemmas.Result.{err_from_is_err_and}
use Rattle.text.proofs.Mapped.{mapped_ok, mapped_err}
use borrow.Author.Rules.{rules}
use Rattle.problem.proofs.read_from_fleet.Goals as goal

pub loop-k-init : goal.loop-k-init
loop-k-init c =
    let a = c.args in
    let e : a.units - 0 ≡ a.units = omega arith in (
      refl,
      (
        pad_none blank_generator 32 c.blank-generators.result c.blank-generators.ensures,
        ap (λ (m : ℕ). read_from a.s.now a.at 6 (fleet_due m (no_units a.periods (take a.periods a.demand) (take a.periods a.spare)))) e,
      ),
    )

pub returns-in_err-row : goal.returns-in_err-row
unfolding read_as
returns-in_err-row c =
    let l = c.loop-k in
    let a = c.args in
    let p = err_from_is_err_and c.from_residual.result c.from_residual.ensures.1 in
    let m = mapped_err c.read_unit.result c.map_err.result _ c.map_err.ensures.cases c.in_err-row.was in
    let e : c.in_err-row.field-0.0 ≡ refusal_of (fault_number m.fault) (l.k + 6) 0 0 = search (rules, m.met) in
    rw (p.1, p.2) (fleet_refused a.s.now a.periods a.units l.next (take a.periods a.demand) (take a.periods a.spare) l.k l.generators _ l.invariant.1.1
    c.loop-k-test.true c.read_unit.result c.read_unit.ensures _ m.fault m.was (ap (λ (x : Refusal). Err x) e))

pub bounds-generators-k : goal.bounds-generators-k
bounds-generators-k c = omega (arith, c.loop-k-test.true, c.loop-k.invariant.0, c.requires.1.0)

pub loop-k-preserved : goal.loop-k-preserved
loop-k-preserved c =
    let l = c.loop-k in
    let a = c.args in
    let h = c.loop-k-test.true in
    let n = l.invariant.0 in
    let is = mapped_ok c.read_unit.result c.map_err.result _ c.map_err.ensures.cases c.in_ok-row.was in (
      simp length-set n,
      (
        pad_set blank_generator 32 l.generators l.k n (omega (arith, h, c.requires.1.0)) l.invariant.1.0 c.in_ok-row.row.generator,
        fleet_on a.s.now a.periods a.units l.next (take a.periods a.demand) (take a.periods a.spare) l.k l.generators _ l.invariant.1.1 h c.read_unit.result c.read_unit.ensures c.in_ok-row.row is (omega (arith, h, n, c.requires.1.0)),
      ),
    )

pub overflow_add-units : goal.overflow_add-units
overflow_add-units c = omega (arith, c.requires.1.0)

pub read_from_end-requires : goal.read_from_end-requires
read_from_end-requires c =
    let a = c.args in
    let e : c.loop-k.k ≡ a.units = omega (arith, c.loop-k-test.false) in (
      omega (arith, c.requires.1.0),
      arrays_held a.periods a.units a.demand a.spare c.loop-k.generators c.requires.1.1.0 c.requires.1.1.1 c.loop-k.invariant.0 c.requires.1.0
          (ap (λ (m : ℕ). pad blank_generator 32 (take m c.loop-k.generators)) (sym e) ∙ c.loop-k.invariant.1.0),
    )

pub returns : goal.returns
returns c =
    let l = c.loop-k in
    let a = c.args in
    fleet_ended a.periods a.units a.demand a.spare l.generators a.s.now l.next l.k _ _ l.invariant.1.1 (omega arith) c.loop-k-test.false c.read_from_end.ensures
