-- `walk_value` meets its contract: either walk, over two tables of ones.
use mathlib.Core.Path.{sym}
use Prim.Native.Nat.{◌+◌, ◌≤◌}
use native.Mathlib.Omega.{arith}
use borrow.Author.Rules.{rules}
use Rattle.walk.proofs.Fronts.{front_length, front_at}
use Rattle.walk.proofs.walk_value.Goals as goal

pub slice_bounds-walk_all-end : goal.slice_bounds-walk_all-end
slice_bounds-walk_all-end c = sym (front_length 1 _ 48 (search rules))

pub slice_bounds-walk_all-end-then-up-down-le-FEW_STATES : goal.slice_bounds-walk_all-end-then-up-down-le-FEW_STATES
slice_bounds-walk_all-end-then-up-down-le-FEW_STATES c = sym (front_length 1 _ 97 (search rules))

pub walk_all-requires : goal.walk_all-requires
walk_all-requires c =
    let up = c.args.unit.generator.TU in
    let down = c.args.unit.generator.TD + c.args.unit.generator.Tcold + 1 in
    let l : up ≤ 48 = c.args.unit.good.in_range.TU_in.1 in
    let k : down ≤ 97 = omega (arith, c.args.unit.good.in_range.TD_in, c.args.unit.good.in_range.Tcold_in) in
    record { good_costs = c.requires; ons_len = (front_length 1 up 48 l, front_length 1 down 97 k); by_index = (front_at 1 up 48 l, front_at 1 down 97 k) }

pub slice_bounds-walk_reached-end : goal.slice_bounds-walk_reached-end
slice_bounds-walk_reached-end c = sym (front_length 1 _ 48 (search rules))

pub walk_reached-requires : goal.walk_reached-requires
walk_reached-requires c =
    let up = c.args.unit.generator.TU in
    let down = c.args.unit.generator.TD + c.args.unit.generator.Tcold + 1 in
    let l : up ≤ 48 = c.args.unit.good.in_range.TU_in.1 in
    let k : down ≤ 97 = omega (arith, c.args.unit.good.in_range.TD_in, c.args.unit.good.in_range.Tcold_in) in
    record { good_costs = c.requires; ons_len = (front_length 1 up 48 l, front_length 1 down 97 k); by_index = (front_at 1 up 48 l, front_at 1 down 97 k) }
