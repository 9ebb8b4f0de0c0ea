use borrow.Author.Rules.{rules}
use native.Mathlib.Omega.{arith}
use Prim.Native.Nat.{ℕ, ◌+◌}
use mathlib.Core.Path.{◌≡◌, refl, ap, sym, ◌∙◌}
use Rattle.decimal.specs.NumberRead.{digits_after}
use Rattle.decimal.proofs.NumberRead.{digits_on, digits_off, digits_end}
use Rattle.decimal.proofs.read_rest.Goals as goal

pub loop-i-init : goal.loop-i-init
loop-i-init c = ((search rules, search rules), refl)

pub with_digit-value-requires : goal.with_digit-value-requires
with_digit-value-requires c = sym c.is_ascii_digit.ensures.value ∙ c.if-not-is_ascii_digit.false

pub loop-i-preserved : goal.loop-i-preserved
loop-i-preserved c =
    let s = c.args.s.now in
    let d = sym c.is_ascii_digit.ensures.value ∙ c.if-not-is_ascii_digit.false in (
      (omega (arith, c.with_digit-value.ensures), omega (arith, c.loop-i.invariant.0.1)),
      ap (λ (w : ℕ). digits_after w s (c.loop-i.i + 1)) c.with_digit-value.ensures
          ∙ digits_on s c.loop-i.value c.loop-i.i c.loop-i-test.true d
          ∙ c.loop-i.invariant.1,
    )

pub returns-then-not-is_ascii_digit : goal.returns-then-not-is_ascii_digit
returns-then-not-is_ascii_digit c =
    let d = sym c.is_ascii_digit.ensures.value ∙ c.if-not-is_ascii_digit.true in
    digits_off c.args.s.now c.loop-i.value c.loop-i.i c.loop-i-test.true d c.loop-i.invariant.0.0
    ∙ c.loop-i.invariant.1

pub returns : goal.returns
returns c =
    let end : c.max.result ≡ c.loop-i.i = omega (arith, c.max.ensures) in
    (λ j. record { value = c.loop-i.value; end = end j })
    ∙ digits_end c.args.s.now c.loop-i.value c.loop-i.i c.loop-i-test.false c.loop-i.invariant.0.0 ∙ c.loop-i.invariant.1
