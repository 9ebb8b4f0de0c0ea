-- `read_unsigned` meets its contract, by what stands at the place and by the byte behind it.
use Prim.Native.Nat.{◌+◌}
use native.Mathlib.Omega.{arith}
use mathlib.Core.Path.{sym, ap, ◌∙◌}
use mathlib.Core.Bool.{Bool}
use Rattle.text.specs.Scan.{some_field}
use Rattle.text.proofs.Fields.{ended_bad, ended_cut, ended_last, ended_more, ended_other}
use Rattle.text.proofs.read_unsigned.Goals as goal
use Rattle.text.proofs.read_unsigned.Goals.{in-10, in-44}

pub returns-in_err-number : goal.returns-in_err-number
returns-in_err-number c =
    let a = c.args in
    c.from_residual.ensures ∙ ended_bad a.s.now a.at a.minus (sym c.read_number.ensures ∙ c.in_err-number.was)

pub returns-then-s-number : goal.returns-then-s-number
returns-then-s-number c =
    let a = c.args in
    ended_cut a.s.now a.at a.minus _ _ (sym c.read_number.ensures ∙ c.in_ok-number.was) c.if-s-number.true

pub returns-in_default : goal.returns-in_default
returns-in_default c =
    let a = c.args in
    ended_other a.s.now a.at a.minus _ _ (sym c.read_number.ensures ∙ c.in_ok-number.was) (λ q. omega arith) (λ q. omega arith)

pub returns : goal.returns
returns c =
    let a = c.args in
    let number = c.in_ok-number.number in
    let is = sym c.read_number.ensures ∙ c.in_ok-number.was in
    elim c.match-s-number.branch [
      | in-10 w ↦ ap (λ (b : Bool). some_field number.value a.minus (number.next + 1) b) w.last-is ∙ ended_last a.s.now a.at a.minus _ _ is c.if-s-number.false (omega arith)
      | in-44 w ↦ ap (λ (b : Bool). some_field number.value a.minus (number.next + 1) b) w.last-is ∙ ended_more a.s.now a.at a.minus _ _ is c.if-s-number.false (omega arith)
    ]
