-- `read_number` meets its contract: no digit, a leading zero, or a number.
use native.Mathlib.Omega.{arith}
use mathlib.Core.Path.{ap}
use Rattle.decimal.specs.declared.DigitsRead.{DigitsRead}
use Rattle.decimal.proofs.NumberRead.{within, answer_none, answer_zero, answer_many, answer_one}
use Rattle.decimal.proofs.read_number.Goals as goal
use Rattle.decimal.proofs.read_number.Goals.{else-at-end-via-then-at-end+else-s-at-eq-ZERO, else-at-end-via-else-at-end}

pub returns-then-end-at : goal.returns-then-end-at
returns-then-end-at c =
    let a = c.args in
    let end = ap (λ (r : DigitsRead). r.end) c.read_digits-value.ensures in
    answer_none a.s.now a.at _ end c.if-end-at.true

pub overflow_add-at : goal.overflow_add-at
overflow_add-at c =
    let a = c.args in
    let end = ap (λ (r : DigitsRead). r.end) c.read_digits-value.ensures in
    let w = within a.s.now a.at _ end c.if-end-at.false in
    omega arith

pub bounds-s-at : goal.bounds-s-at
bounds-s-at c =
    let a = c.args in
    let end = ap (λ (r : DigitsRead). r.end) c.read_digits-value.ensures in
    let w = within a.s.now a.at _ end c.if-end-at.false in
    omega arith

pub returns-then-s-at-eq-ZERO : goal.returns-then-s-at-eq-ZERO
returns-then-s-at-eq-ZERO c =
    let a = c.args in
    let end = ap (λ (r : DigitsRead). r.end) c.read_digits-value.ensures in
    answer_zero a.s.now a.at _ end c.if-at-end.true c.if-s-at-eq-ZERO.true

pub returns : goal.returns
returns c =
    let a = c.args in
    let end = ap (λ (r : DigitsRead). r.end) c.read_digits-value.ensures in
    let value = ap (λ (r : DigitsRead). r.value) c.read_digits-value.ensures in
    elim c.else-at-end.branch [
      | else-at-end-via-then-at-end+else-s-at-eq-ZERO w ↦ answer_many a.s.now a.at _ end _ value w.if-at-end.true w.if-s-at-eq-ZERO.false
      | else-at-end-via-else-at-end w ↦ answer_one a.s.now a.at _ end _ value c.if-end-at.false w.if-at-end.false
    ]
