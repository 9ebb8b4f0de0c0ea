use Rattle.std.proofs.Common.{arith, ◌≡◌, ◌∙◌, ap, refl, ◌+◌, ◌*◌, ◌<◌, ◌≤◌, ℕ, Bool, true, false, cond, add-one, length, take, List}
use lib.Seq.{take-length}
use mir.Val.{bool_byte}
use Rattle.model.specs.declared.generator.Generator.{Generator}
use Rattle.model.specs.Instance.{◌at◌}
use Rattle.layout.specs.Numbers.{instance_in}
use Rattle.walk.specs.Marks.{mark_of, above_of}
use Rattle.walk.proofs.AboveMarks.{marks_same}
use Rattle.least.proofs.UnitParts.{part_within}
use Rattle.leaves.specs.LeafLeasts.{counted}
use Rattle.leaves.proofs.Crowds.{counted_more}
use Rattle.leaves.proofs.crowd.count_units.Goals as goal

byte_is : (b : Bool) → bool_byte b ≡ cond b 1 0
byte_is true = refl
byte_is false = refl

byte_most : (b : Bool) → bool_byte b ≤ 1
byte_most true = omega arith
byte_most false = omega arith

pub bounds-above-u : goal.bounds-above-u
bounds-above-u g c =
    let P = instance_in c.args.plan.numbers.now in
    let n = c.periods-n.result in
    let inside : c.loop-u.u < length P.units = omega (arith, c.units-u-end.ensures, c.loop-u-test.true) in
    let within : c.loop-u.u * n + n ≤ length c.args.above.now = part_within (length P.units) n c.loop-u.u (length c.args.above.now) inside (rw c.periods-n.ensures c.requires.numbers_in_bounds) in
    omega (arith, within, c.periods-n.ensures, c.requires.t_bound)

pub loop-u-preserved : goal.loop-u-preserved
loop-u-preserved g c =
    let a = c.args in
    let P = instance_in a.plan.numbers.now in
    let u = c.loop-u.u in
    let m = (above_of P a.above.now).marks in
    let inside : u < length P.units = omega (arith, c.units-u-end.ensures, c.loop-u-test.true) in
    record {
      few = omega (arith, c.from-count.ensures, byte_most c.counts.result, c.loop-u.invariant.few);
      so_far = λ p h.
          let here : c.counts.result ≡ p (m u a.t) =
          h (a.above.now at (u * c.periods-n.result + a.t)) c.counts.result c.counts.ensures
          ∙ ap (λ (k : ℕ). p (mark_of (a.above.now at (u * k + a.t)))) c.periods-n.ensures
          ∙ ap p (marks_same (length P.units) P.periods a.above.now u inside a.t c.requires.t_bound) in
          let one : c.from-count.result ≡ cond (p (m u a.t)) 1 0 = c.from-count.ensures ∙ byte_is c.counts.result ∙ ap (λ (b : Bool). cond b 1 0) here in
          rw (add-one u) (omega (arith, c.loop-u.invariant.so_far p h, one, counted_more p u P.units m a.t inside));
    }

pub returns : goal.returns
returns g c p h =
    let a = c.args in
    let P = instance_in a.plan.numbers.now in
    let end : c.loop-u.u ≡ length P.units = omega (arith, c.units-u-end.ensures, c.loop-u-test.false, c.loop-u.auto.u-end) in
    let all : take c.loop-u.u P.units ≡ P.units = rw end (take-length P.units) in
    c.loop-u.invariant.so_far p h ∙ ap (λ (gs : List Generator). counted p gs (above_of P a.above.now).marks a.t) all
