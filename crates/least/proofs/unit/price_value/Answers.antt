-- `price_value` meets its contract: the two arrays begin with the costs at the prices, and the walk over those is the walk in
-- prices.
use mathlib.Core.Path.{sym, ◌∙◌}
use mathlib.Core.List.{List}
use Prim.Native.Nat.{ℕ, ◌≤◌}
use lib.ListN.{length, drop, replicate}
use Rattle.model.specs.Instance.{◌at◌}
use Rattle.walk.specs.Marks.{marks_of}
use Rattle.walk.proofs.Fronts.{front_length}
use Rattle.least.proofs.Costs.{on_front_fits, off_front_fits, on_front_long, off_front_long, front_good, front_walk, period_worth_fits, priced_costed, price_walk_is}
use Rattle.least.proofs.unit.price_value.Goals as goal
use Rattle.least.proofs.unit.price_value.Tie as tie
use Rattle.least.proofs.unit.price_value.Reads as reads
use Rattle.least.proofs.unit.price_value.Lts as lts

-- the periods fit the arrays
periods-fit : (c : lts.Start tie.the-claims reads.Pre reads.Post tie.handed_clauses) → length c.args.q.now ≤ 48
periods-fit c = c.requires.0.periods_in.1

-- the arrays past them
abbrev rest : lts.Start tie.the-claims reads.Pre reads.Post tie.handed_clauses → List ℕ
rest c = drop (length c.args.q.now) (replicate 48 0)

pub slice_bounds-fill_costs-end : goal.slice_bounds-fill_costs-end
slice_bounds-fill_costs-end c =
    sym (front_length 0 (length c.args.q.now) 48 (periods-fit c.before.before.before.before.before))

pub slice_bounds-fill_costs-end-2 : goal.slice_bounds-fill_costs-end-2
slice_bounds-fill_costs-end-2 c =
    sym (front_length 0 (length c.args.q.now) 48 (periods-fit c.before.before.before.before.before.before))

pub fill_costs-requires : goal.fill_costs-requires
fill_costs-requires c =
    let long = front_length 0 (length c.args.q.now) 48 (periods-fit c.before.before.before.before.before.before) in
    record { good_prices = c.requires.0; on_len = (long, long) }

pub slice_bounds-on-end-2 : goal.slice_bounds-on-end-2
slice_bounds-on-end-2 c =
    on_front_fits (priced_costed c.fill_costs.ensures) (rest c.before.before.before.before.before.before.before.before.before)

pub slice_bounds-walk_value-end : goal.slice_bounds-walk_value-end
slice_bounds-walk_value-end c =
    on_front_long (priced_costed c.fill_costs.ensures) (rest c.before.before.before.before.before.before.before.before.before.before)

pub slice_bounds-off-end-2 : goal.slice_bounds-off-end-2
slice_bounds-off-end-2 c =
    off_front_fits (priced_costed c.fill_costs.ensures) (rest c.before.before.before.before.before.before.before.before.before.before)

pub slice_bounds-walk_value-end-2 : goal.slice_bounds-walk_value-end-2
slice_bounds-walk_value-end-2 c =
    off_front_long (priced_costed c.fill_costs.ensures) (rest c.before.before.before.before.before.before.before.before.before.before.before)

pub walk_value-requires : goal.walk_value-requires
walk_value-requires c =
    let K = priced_costed c.fill_costs.ensures in
    let a = c.args in
    let P = c.requires.0 in
    (front_good K (rest c.before.before.before.before.before.before.before.before.before.before.before) P.periods_in (period_worth_fits (length a.q.now) a.q.now a.s.now P a.unit.generator c.args.unit.good), c.requires.1 ∙ on_front_long K (rest c.before.before.before.before.before.before.before.before.before.before.before))

pub returns : goal.returns
returns c =
    let a = c.args in
    c.walk_value.ensures ∙ front_walk (priced_costed c.fill_costs.ensures) (rest c.before.before.before.before.before.before.before.before.before.before.before.before) a.unit.generator (marks_of a.fixed.now)
    ∙ price_walk_is (length a.q.now) (λ t. a.q.now at t) (λ t. a.s.now at t) a.unit.generator (marks_of a.fixed.now)
