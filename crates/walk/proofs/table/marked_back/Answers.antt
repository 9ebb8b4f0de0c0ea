-- `marked_back` meets its contract: the values of leaving and starting are read from the old lists, before either changes.
use Rattle.std.proofs.Common.{arith}
use Rattle.walk.proofs.StatusMarks.{allows_on, allows_off}
use Rattle.walk.proofs.table.marked_back.Goals as goal

pub kept_value-leaving-requires : goal.kept_value-leaving-requires
kept_value-leaving-requires c =
    omega (arith, c.args.unit.good.in_range.Dc_in, c.requires.good_cost, c.requires.by_index.1 0)

pub kept_value-starting-requires : goal.kept_value-starting-requires
kept_value-starting-requires c =
    omega (arith, c.args.unit.good.in_range.Hsc_in, c.requires.good_cost, c.requires.by_index.0 0)

pub kept_value-starting_cold-requires : goal.kept_value-starting_cold-requires
kept_value-starting_cold-requires c =
    omega (arith, c.args.unit.good.in_range.Csc_in, c.requires.good_cost, c.requires.by_index.0 0)

pub returns : goal.returns
returns c =
    let cold = c.kept_value-starting_cold in
    let hot = c.kept_value-starting in
    let leave = c.kept_value-leaving in
    let x = c.args.mark in
    record {
      of_on = rw (allows_on x, allows_off x, ← leave.ensures) (c.on_back.ensures c.args.unit.generator.TU c.requires.between.0.1);
      of_off = rw (allows_on x, allows_off x, ← hot.ensures, ← cold.ensures) c.chain_back.ensures;
    }
