use native.Mathlib.Omega.{arith}
use mathlib.Core.Path.{refl, ap, sym, ◌∙◌}
use Rattle.text.specs.Scan.{ValuesRead, values_at}
use Rattle.text.proofs.ValueTurns.{turn_end, turn_broken, turn_after, turn_last, turn_more}
use Rattle.text.proofs.read_values.Goals as goal

pub loop-i-init : goal.loop-i-init
loop-i-init c = (omega arith, (refl, refl))

pub overflow_add-number : goal.overflow_add-number
overflow_add-number c =
    omega (arith, c.loop-i-test.true, c.loop-i.invariant.0, c.well_formed)

pub shape_of-out-in_err-f : goal.shape_of-out-in_err-f
shape_of-out-in_err-f c = c.loop-i.invariant.1.1

pub returns-in_err-f : goal.returns-in_err-f
unfolding values_at
returns-in_err-f c =
    let a = c.args in
    let q = sym c.read_field.ensures ∙ c.in_err-f.was in
    let w = sym c.loop-i.invariant.1.0 ∙ turn_broken a.s.now a.signed c.loop-i.i c.loop-i.k c.loop-i.minus c.loop-i.out q in
    record { answer = c.from_residual.ensures ∙ sym (ap (λ (x : ValuesRead). x.answer) w); stored = sym (ap (λ (x : ValuesRead). x.out) w) }

pub shape_of-out-then-f : goal.shape_of-out-then-f
shape_of-out-then-f c = c.put.auto.out ∙ c.loop-i.invariant.1.1

pub returns-then-f : goal.returns-then-f
unfolding values_at
returns-then-f c =
    let a = c.args in
    let q = sym c.read_field.ensures ∙ c.in_ok-f.was in
    let w = sym c.loop-i.invariant.1.0 ∙ turn_last a.s.now a.signed c.loop-i.i c.loop-i.k c.loop-i.minus c.loop-i.out c.in_ok-f.f q c.if-f.true in
    record { answer = sym (ap (λ (x : ValuesRead). x.answer) w); stored = c.put.ensures ∙ sym (ap (λ (x : ValuesRead). x.out) w) }

pub loop-i-smaller : goal.loop-i-smaller
loop-i-smaller c =
    let a = c.args in
    let q = sym c.read_field.ensures ∙ c.in_ok-f.was in
    omega (arith, turn_after a.s.now a.signed c.loop-i.i c.loop-i.k c.loop-i.minus c.loop-i.out c.in_ok-f.f q, c.loop-i-test.true)

pub loop-i-preserved : goal.loop-i-preserved
loop-i-preserved c =
    let a = c.args in
    let q = sym c.read_field.ensures ∙ c.in_ok-f.was in
    let w = turn_more a.s.now a.signed c.loop-i.i c.loop-i.k c.loop-i.minus c.loop-i.out c.in_ok-f.f q c.if-f.false in (
      omega (arith, turn_after a.s.now a.signed c.loop-i.i c.loop-i.k c.loop-i.minus c.loop-i.out c.in_ok-f.f q, c.loop-i.invariant.0),
      (
        rw c.put.ensures (sym w ∙ c.loop-i.invariant.1.0),
        c.put.auto.out ∙ c.loop-i.invariant.1.1,
      ),
    )

pub shape_of-out : goal.shape_of-out
shape_of-out c = c.loop-i.invariant.1.1

pub returns : goal.returns
unfolding values_at
returns c =
    let a = c.args in
    let w = sym c.loop-i.invariant.1.0 ∙ turn_end a.s.now a.signed c.loop-i.i c.loop-i.k c.loop-i.minus c.loop-i.out c.loop-i-test.false in
    record { answer = sym (ap (λ (x : ValuesRead). x.answer) w); stored = sym (ap (λ (x : ValuesRead). x.out) w) }
