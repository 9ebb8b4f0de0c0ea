-- `walk_all` meets its contract: the walk's table, read at the state before period 1.
use mathlib.Core.Path.{◌∙◌, ap}
use Prim.Native.Nat.{ℕ, ◌-◌, min}
use native.Mathlib.Omega.{arith}
use lib.ListN.{length}
use Rattle.walk.proofs.WholeTables.{tables_read}
use Rattle.walk.proofs.walk_all.Goals as goal

pub returns-then-g : goal.returns-then-g
returns-then-g c =
    let a = c.args in
    tables_read a.unit.generator c.args.unit.good (length a.on.now) a.on.now a.off.now a.fixed.now c.requires.good_costs.0 _ _ c.walk_back.ensures.of_on
    c.if-g.true c.place.result (c.place.ensures ∙ ap (λ (x : ℕ). min a.unit.generator.since x - 1) c.walk_back.ensures.of_on.long) c.args.unit.good.in_range.TU_in.0

pub returns-else-g : goal.returns-else-g
returns-else-g c =
    let a = c.args in
    tables_read a.unit.generator c.args.unit.good (length a.on.now) a.on.now a.off.now a.fixed.now c.requires.good_costs.0 _ _ c.walk_back.ensures.of_off
    c.if-g.false c.place-else-g.result (c.place-else-g.ensures ∙ ap (λ (x : ℕ). min a.unit.generator.since x - 1) c.walk_back.ensures.of_off.long) (omega arith)
