-- `free_back` meets its contract: every value that is added to is there, and the values of leaving and starting are read from the old
-- lists, before either changes.
use Rattle.std.proofs.Common.{◌+◌, arith}
use Rattle.model.specs.Instance.{◌at◌}
use Rattle.model.proofs.Coded.{plus_some}
use Rattle.walk.proofs.table.free_back.Goals as goal

pub overflow_add-leaving-2 : goal.overflow_add-leaving-2
overflow_add-leaving-2 c =
    omega (arith, c.args.unit.good.in_range.Dc_in, c.requires.good_cost, c.requires.by_index.1 0)

pub overflow_add-starting-2 : goal.overflow_add-starting-2
overflow_add-starting-2 c =
    omega (arith, c.args.unit.good.in_range.Hsc_in, c.requires.good_cost, c.requires.by_index.0 0)

pub overflow_add-starting_cold-2 : goal.overflow_add-starting_cold-2
overflow_add-starting_cold-2 c =
    omega (arith, c.args.unit.good.in_range.Csc_in, c.requires.good_cost, c.requires.by_index.0 0)

pub on_back-requires : goal.on_back-requires
on_back-requires c = record {
  in_bounds = (c.requires.between.0.0, c.requires.by_index.0);
  good_cost = c.requires.good_cost.0;
  valued = λ e. (omega (arith, c.requires.valued.1 0 c.requires.between.1), c.requires.valued.0);
}

pub chain_back-requires : goal.chain_back-requires
chain_back-requires c =
    let first = c.requires.valued.0 0 c.requires.between.0.0 in
    record {
      by_index = c.requires.by_index.1;
      good_cost = c.requires.good_cost.1;
      valued = λ e. (omega (arith, first), omega (arith, first), c.requires.valued.1);
    }

pub returns : goal.returns
returns c m may-on may-off =
    let g = c.args.unit.generator in
    let first_on = c.args.ons.now at 0 in
    let first_off = c.args.offs.now at 0 in
    record {
      of_on = rw (may-on, may-off, plus_some (g.Dc + c.args.off) first_off (c.requires.valued.1 0 c.requires.between.1))
          (c.on_back.ensures g.TU c.requires.between.0.1);
      of_off = rw (
        may-on,
        may-off,
        plus_some (g.Hsc + c.args.on) first_on (c.requires.valued.0 0 c.requires.between.0.0),
        plus_some (g.Csc + c.args.on) first_on (c.requires.valued.0 0 c.requires.between.0.0),
      )
          c.chain_back.ensures;
    }
