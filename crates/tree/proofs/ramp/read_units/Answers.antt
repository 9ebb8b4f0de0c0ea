use mathlib.Core.Path.{◌≡◌, refl, sym, ap, ◌∙◌}
use Prim.Native.Nat.{ℕ, ◌+◌, ◌≤◌, ◌<◌}
use native.Mathlib.Omega.{arith}
use lib.ListN.{length}
use Rattle.std.proofs.lemmas.Result.{err_from_is_err_and}
use Rattle.layout.specs.Numbers.{instance_in}
use Rattle.walk.specs.Marks.{above_of}
use Rattle.walk.proofs.AboveMarks.{statuses_inside}
use Rattle.tree.proofs.StepBuffers.{zeros_padded, front_back, front_long}
use Rattle.tree.proofs.RampReading.{reading_none, reading_small, reading_stopped, reading_more, reading_done}
use Rattle.tree.proofs.ramp.read_units.Goals as goal

pub loop-u-init : goal.loop-u-init
loop-u-init c =
    let a = c.args in
    let P = instance_in a.plan.numbers.now in
    let A = above_of P a.above.now in
    let W = c.args.plan.laid.well_formed in
    let two = c.requires.periods_bound in
    let good = c.requires.good_prices in
    let e : c.periods-end.result + 1 ≡ P.periods + 1 = ap (λ (n : ℕ). n + 1) c.periods-end.ensures in
    record {
      room = e;
      rises = (refl, zeros_padded P.periods (c.periods-end.result + 1) W.periods_in.1 e);
      falls = (refl, zeros_padded P.periods (c.periods-end.result + 1) W.periods_in.1 e);
      reading = reading_none P W two a.text.now a.figures A a.q.now a.s.now good a.at a.line c.requires.placed _ refl;
    }

pub read_unit-requires-clause-numbers_in_bounds : goal.read_unit-requires-clause-numbers_in_bounds
read_unit-requires-clause-numbers_in_bounds c = statuses_inside (instance_in c.args.plan.numbers.now) c.args.plan.laid.well_formed c.args.above.now c.requires.above_len

pub read_unit-requires-clause-small_least : goal.read_unit-requires-clause-small_least
read_unit-requires-clause-small_least c =
    let a = c.args in
    let P = instance_in a.plan.numbers.now in
    let A = above_of P a.above.now in
    let W = c.args.plan.laid.well_formed in
    let two = c.requires.periods_bound in
    let good = c.requires.good_prices in
    let i = c.loop-u.invariant in
    let p = i.reading.placed in
    (reading_small P W two a.text.now a.figures A a.q.now a.s.now good i.reading, omega (arith, p.numbered, p.inside, p.short))

pub returns-in_err-lines : goal.returns-in_err-lines
returns-in_err-lines c =
    let a = c.args in
    let P = instance_in a.plan.numbers.now in
    let A = above_of P a.above.now in
    let W = c.args.plan.laid.well_formed in
    let two = c.requires.periods_bound in
    let good = c.requires.good_prices in
    let i = c.loop-u.invariant in
    let p = err_from_is_err_and c.from_residual.result c.from_residual.ensures.1 in
    let left : c.loop-u.u < length P.units = omega (arith, c.loop-u-test.true, c.units-u-end.ensures) in
    rw (p.1, p.2) (reading_stopped P W two a.text.now a.figures A a.q.now a.s.now good i.reading left _ (sym c.in_err-lines.was ∙ c.read_unit.ensures.read))

pub loop-u-preserved : goal.loop-u-preserved
loop-u-preserved c =
    let a = c.args in
    let P = instance_in a.plan.numbers.now in
    let A = above_of P a.above.now in
    let W = c.args.plan.laid.well_formed in
    let two = c.requires.periods_bound in
    let good = c.requires.good_prices in
    let i = c.loop-u.invariant in
    let left : c.loop-u.u < length P.units = omega (arith, c.loop-u-test.true, c.units-u-end.ensures) in
    let few = W.periods_in.1 in
    let e : c.periods-end.result + 1 ≤ 49 = omega (arith, i.room, few) in
    record {
      room = i.room;
      rises = (
        front_long P.periods _ i.room _ c.loop-u.up c.read_unit.ensures.padded.0 (omega (arith, e, i.rises.0)) ∙ i.rises.0,
        front_back P.periods _ i.room _ c.loop-u.up c.read_unit.ensures.padded.0,
      );
      falls = (
        front_long P.periods _ i.room _ c.loop-u.down c.read_unit.ensures.padded.1 (omega (arith, e, i.falls.0)) ∙ i.falls.0,
        front_back P.periods _ i.room _ c.loop-u.down c.read_unit.ensures.padded.1,
      );
      reading = reading_more P W two a.text.now a.figures A a.q.now a.s.now good i.reading left c.in_ok-lines.lines (sym c.in_ok-lines.was ∙ c.read_unit.ensures.read);
    }

pub end_ramp-requires-clause-small_least : goal.end_ramp-requires-clause-small_least
end_ramp-requires-clause-small_least c =
    let a = c.args in
    let P = instance_in a.plan.numbers.now in
    let A = above_of P a.above.now in
    let W = c.args.plan.laid.well_formed in
    let two = c.requires.periods_bound in
    let good = c.requires.good_prices in
    let i = c.loop-u.invariant in
    let m = i.reading in
    let p = m.placed in (
      reading_small P W two a.text.now a.figures A a.q.now a.s.now good m,
      omega (arith, m.lines, c.loop-u-test.false, c.units-u-end.ensures, W.units_in.0),
      omega (arith, p.numbered, p.inside, p.short, p.counted),
    )

pub returns : goal.returns
returns c =
    let a = c.args in
    let P = instance_in a.plan.numbers.now in
    let A = above_of P a.above.now in
    let W = c.args.plan.laid.well_formed in
    let two = c.requires.periods_bound in
    let good = c.requires.good_prices in
    let i = c.loop-u.invariant in
    let over : c.loop-u.u ≡ length P.units = omega (arith, c.loop-u-test.false, c.loop-u.auto.u-end, c.units-u-end.ensures) in
    c.end_ramp.ensures ∙ reading_done P W two a.text.now a.figures A a.q.now a.s.now good i.reading over
