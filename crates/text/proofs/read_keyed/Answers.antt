-- `read_keyed` meets its contract: the values behind the key, or none where it does not stand there.
use native.Mathlib.Omega.{arith}
use mathlib.Core.Path.{sym, ◌∙◌}
use Rattle.text.specs.Scan.{keyed_at}
use Rattle.text.proofs.Keys.{key_fits}
use Rattle.text.proofs.read_keyed.Goals as goal

pub overflow_add-at : goal.overflow_add-at
overflow_add-at c =
    let a = c.args in
    omega (arith, key_fits a.s.now a.key.now a.at (sym c.starts.ensures ∙ c.if-not-starts.false), c.well_formed, c.ranges)

pub returns-then-not-starts : goal.returns-then-not-starts
unfolding keyed_at
returns-then-not-starts c = let off = sym c.starts.ensures ∙ c.if-not-starts.true in record { answer = simp off; stored = simp off }

pub returns : goal.returns
unfolding keyed_at
returns c =
    let on = sym c.starts.ensures ∙ c.if-not-starts.false in
    let v = c.read_values.ensures in
    record { answer = simp on v.answer; stored = simp on v.stored }
