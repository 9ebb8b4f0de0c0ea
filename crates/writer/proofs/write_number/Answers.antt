use native.Mathlib.Omega.{arith}
use Prim.Native.Nat.{ℕ, ◌+◌, ◌-◌, ◌%◌, ◌<◌}
use mathlib.Core.Path.{sym, ap, ◌∙◌}
use mathlib.Core.List.{List, ◌∷◌, ◌++◌}
use lib.ListN.{drop, set, length-set}
use Rattle.decimal.proofs.Digits.{digits_small, width_small}
use Rattle.writer.specs.Written.{over}
use Rattle.writer.proofs.LastDigit.{set_first, set_step, fixed_step, number_done}
use Rattle.writer.proofs.write_number.Goals as goal

pub bounds-buf-0 : goal.bounds-buf-0
bounds-buf-0 c = omega (arith, width_small c.args.n (omega (arith, c.if-n-le9.true)), c.requires)

pub returns-then-n-le9-clause-value : goal.returns-then-n-le9-clause-value
returns-then-n-le9-clause-value c = omega (arith, width_small c.args.n (omega (arith, c.if-n-le9.true)))

pub returns-then-n-le9-clause-buf_after : goal.returns-then-n-le9-clause-buf_after
returns-then-n-le9-clause-buf_after c =
    let few : c.args.n < 10 = omega (arith, c.if-n-le9.true) in
    set_first c.args.buf.now (48 + c.args.n) (omega (arith, width_small c.args.n few, c.requires))
    ∙ ap (λ (d : List ℕ). over d c.args.buf.now) (sym (digits_small c.args.n few))

pub loop-i-preserved : goal.loop-i-preserved
loop-i-preserved c =
    let l = c.loop-i in
    let v = l.invariant in
    let b = c.args.buf.now in
    let d = 48 + l.m % 10 in
    let w = c.width-w.result in (
      d ∷ v.0,
      v.1 ∙ fixed_step l.i l.m v.0 (omega arith),
      ap (λ (x : List ℕ). set x (l.i - 1) d) v.2 ∙ set_step b (v.0 ++ drop w b) l.i d (omega arith) (omega (arith, v.3, c.width-w.ensures.value, c.requires)),
      omega (arith, v.3),
      length-set l.buf (l.i - 1) d ∙ v.4,
    )

pub returns : goal.returns
returns c =
    let l = c.loop-i in
    let v = l.invariant in
    let a = c.args in
    let e = c.width-w.ensures.value in
    record { value = e; buf_after = number_done a.buf.now v.0 l.buf a.n c.width-w.result l.i l.m e c.loop-i-test.false v.1 v.2 }
