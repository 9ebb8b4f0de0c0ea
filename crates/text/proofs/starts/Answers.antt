use native.Mathlib.Omega.{arith}
use Prim.Native.Nat.{ℕ, ◌+◌}
use native.Mathlib.Nat.{add-zero}
use mathlib.Core.Path.{◌≡◌, sym, ap, ◌∙◌}
use lib.ListN.{drop}
use Rattle.text.specs.Lines.{begins}
use Rattle.text.proofs.Keys.{starts_on, starts_off, starts_end}
use Rattle.text.proofs.Fields.{byte_inside}
use Rattle.text.proofs.starts.Goals as goal

pub loop-j-init : goal.loop-j-init
loop-j-init c =
    let a = c.args in
    (omega arith, ap (λ (n : ℕ). begins a.key.now (drop n a.s.now)) (add-zero a.at))

pub overflow_add-at : goal.overflow_add-at
overflow_add-at c = omega (arith, c.loop-j.invariant.0, c.well_formed, c.ranges)

pub loop-j-preserved : goal.loop-j-preserved
loop-j-preserved c =
    let a = c.args in
    let on = sym c.byte_is.ensures ∙ c.if-not-byte_is.false in
    let next : a.at + (c.loop-j.j + 1) ≡ a.at + c.loop-j.j + 1 = omega arith in (
      omega (arith, byte_inside a.s.now (a.at + c.loop-j.j) _ on),
      ap (λ (n : ℕ). begins (drop (c.loop-j.j + 1) a.key.now) (drop n a.s.now)) next
          ∙ sym (starts_on a.s.now a.key.now (a.at + c.loop-j.j) c.loop-j.j c.loop-j-test.true on)
          ∙ c.loop-j.invariant.1,
    )

pub returns-then-not-byte_is : goal.returns-then-not-byte_is
returns-then-not-byte_is c =
    let a = c.args in
    sym (starts_off a.s.now a.key.now (a.at + c.loop-j.j) c.loop-j.j c.loop-j-test.true (sym c.byte_is.ensures ∙ c.if-not-byte_is.true)) ∙ c.loop-j.invariant.1

pub returns : goal.returns
returns c =
    let a = c.args in
    sym (starts_end a.s.now a.key.now (a.at + c.loop-j.j) c.loop-j.j c.loop-j-test.false) ∙ c.loop-j.invariant.1
