use native.Mathlib.Nat.{add-zero}
use native.Mathlib.Omega.{arith}
use Prim.Native.Nat.{◌+◌}
use mathlib.Core.Path.{◌≡◌, ap, sym, ◌∙◌}
use Rattle.decimal.specs.NumberRead.{digits_after, digits_at}
use Rattle.decimal.proofs.NumberRead.{digits_on, digits_off}
use Rattle.decimal.proofs.read_first.Goals as goal

pub loop-k-init : goal.loop-k-init
loop-k-init c = (omega arith, ap (digits_at c.args.s.now) (add-zero c.args.at))

pub with_digit-value-requires : goal.with_digit-value-requires
with_digit-value-requires c = sym c.is_ascii_digit.ensures.value ∙ c.if-not-is_ascii_digit.false

pub loop-k-preserved : goal.loop-k-preserved
loop-k-preserved c =
    let a = c.args in
    let d = sym c.is_ascii_digit.ensures.value ∙ c.if-not-is_ascii_digit.false in
    let next : a.at + (c.loop-k.k + 1) ≡ a.at + c.loop-k.k + 1 = omega arith in (
      omega (arith, c.with_digit-value.ensures),
      (λ j. digits_after (c.with_digit-value.ensures j) a.s.now (next j))
          ∙ digits_on a.s.now c.loop-k.value (a.at + c.loop-k.k) (omega arith) d
          ∙ c.loop-k.invariant.1,
    )

pub returns-then-not-is_ascii_digit : goal.returns-then-not-is_ascii_digit
returns-then-not-is_ascii_digit c =
    let a = c.args in
    let d = sym c.is_ascii_digit.ensures.value ∙ c.if-not-is_ascii_digit.true in
    digits_off a.s.now c.loop-k.value (a.at + c.loop-k.k) (omega arith) d c.loop-k.invariant.0 ∙ c.loop-k.invariant.1

pub returns : goal.returns
returns c =
    let a = c.args in
    let all : a.at + 5 ≡ a.at + c.loop-k.k = omega arith in
    c.read_rest.ensures ∙ ap (digits_after c.loop-k.value a.s.now) all ∙ c.loop-k.invariant.1
