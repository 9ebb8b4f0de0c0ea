use native.Mathlib.Omega.{arith}
use Rattle.refusal.proofs.Places.{line_low, line_high, period_only, unit_first, unit_last, nothing_low, nothing_between, nothing_after, nothing_high}
use Rattle.refusal.proofs.refuse.Goals as goal

pub returns-in-22-to-23 : goal.returns-in-22-to-23
returns-in-22-to-23 c =
    let a = c.args in
    period_only a.number a.line a.unit a.period (omega arith) (omega arith)

pub returns-in-11-to-15 : goal.returns-in-11-to-15
returns-in-11-to-15 c =
    let a = c.args in
    line_low a.number a.line a.unit a.period (omega arith) (omega arith)

pub returns-in-11-to-15-2 : goal.returns-in-11-to-15-2
returns-in-11-to-15-2 c =
    let a = c.args in
    line_high a.number a.line a.unit a.period (omega arith) (omega arith)

pub returns-in_default : goal.returns-in_default
returns-in_default c =
    let a = c.args in
    nothing_low a.number a.line a.unit a.period (omega arith)

pub returns-in_default-2 : goal.returns-in_default-2
returns-in_default-2 c =
    let a = c.args in
    nothing_between a.number a.line a.unit a.period (omega arith) (omega arith)

pub returns-in_default-3 : goal.returns-in_default-3
returns-in_default-3 c =
    let a = c.args in
    nothing_after a.number a.line a.unit a.period (omega arith) (omega arith)

pub returns-in_default-4 : goal.returns-in_default-4
returns-in_default-4 c =
    let a = c.args in
    nothing_high a.number a.line a.unit a.period (omega arith)

pub returns-in-21-to-25 : goal.returns-in-21-to-25
returns-in-21-to-25 c =
    let a = c.args in
    unit_first a.number a.line a.unit a.period c.in-21-to-25.in-21-to-25-own.keys1

pub returns-in-21-to-25-2 : goal.returns-in-21-to-25-2
returns-in-21-to-25-2 c =
    let a = c.args in
    unit_last a.number a.line a.unit a.period (omega arith) (omega arith)
