-- `ramp_value` meets its contract: the two arrays begin with the costs at the prices, and the walk over those is the walk in
-- prices.
use mathlib.Core.Path.{sym, ◌∙◌}
use mathlib.Core.List.{List}
use Prim.Native.Nat.{ℕ, ◌≤◌}
use lib.ListN.{length, drop, replicate}
use Rattle.model.specs.Instance.{◌at◌}
use Rattle.walk.specs.Marks.{marks_of}
use Rattle.walk.proofs.Fronts.{front_length}
use Rattle.least.proofs.Costs.{on_front_fits, off_front_fits, on_front_long, off_front_long, front_good, front_walk}
use Rattle.least.proofs.StepCosts.{steps, ramp_cost_fits, ramp_walk_is}
use Rattle.least.proofs.ramp.ramp_value.Goals as goal
use Rattle.least.proofs.ramp.ramp_value.Tie as tie
use Rattle.least.proofs.ramp.ramp_value.Reads as reads
use Rattle.least.proofs.ramp.ramp_value.Lts as lts

-- the periods fit the arrays
periods-fit : (c : lts.Start tie.the-claims reads.Pre reads.Post tie.handed_clauses) → length c.args.q.now ≤ 48
periods-fit c = c.requires.good_prices.0.periods_in.1

-- the arrays past them
abbrev rest : lts.Start tie.the-claims reads.Pre reads.Post tie.handed_clauses → List ℕ
rest c = drop (length c.args.q.now) (replicate 48 0)

pub slice_bounds-fill_ramp_costs-end : goal.slice_bounds-fill_ramp_costs-end
slice_bounds-fill_ramp_costs-end c =
    sym (front_length 0 (length c.args.q.now) 48 (periods-fit c.before.before.before.before.before.before.before))

pub slice_bounds-fill_ramp_costs-end-2 : goal.slice_bounds-fill_ramp_costs-end-2
slice_bounds-fill_ramp_costs-end-2 c =
    sym (front_length 0 (length c.args.q.now) 48 (periods-fit c.before.before.before.before.before.before.before.before))

pub fill_ramp_costs-requires : goal.fill_ramp_costs-requires
fill_ramp_costs-requires c =
    let long = front_length 0 (length c.args.q.now) 48 (periods-fit c.before.before.before.before.before.before.before.before) in
    record { good_prices = c.requires.good_prices.0; good_steps = c.requires.good_steps; on_len = (long, long) }

pub slice_bounds-on-end-2 : goal.slice_bounds-on-end-2
slice_bounds-on-end-2 c =
    on_front_fits c.fill_ramp_costs.ensures (rest c.before.before.before.before.before.before.before.before.before.before.before)

pub slice_bounds-walk_value-end : goal.slice_bounds-walk_value-end
slice_bounds-walk_value-end c =
    on_front_long c.fill_ramp_costs.ensures (rest c.before.before.before.before.before.before.before.before.before.before.before.before)

pub slice_bounds-off-end-2 : goal.slice_bounds-off-end-2
slice_bounds-off-end-2 c =
    off_front_fits c.fill_ramp_costs.ensures (rest c.before.before.before.before.before.before.before.before.before.before.before.before)

pub slice_bounds-walk_value-end-2 : goal.slice_bounds-walk_value-end-2
slice_bounds-walk_value-end-2 c =
    off_front_long c.fill_ramp_costs.ensures (rest c.before.before.before.before.before.before.before.before.before.before.before.before.before)

pub walk_value-requires : goal.walk_value-requires
walk_value-requires c =
    let K = c.fill_ramp_costs.ensures in
    let a = c.args in
    let P = c.requires.good_prices.0 in
    let fits = ramp_cost_fits (length a.q.now) a.q.now a.s.now a.up.now a.down.now P c.requires.good_steps.0 c.requires.good_steps.1 a.unit.generator c.args.unit.good in
    (front_good K (rest c.before.before.before.before.before.before.before.before.before.before.before.before.before) P.periods_in fits, c.requires.good_prices.1 ∙ on_front_long K (rest c.before.before.before.before.before.before.before.before.before.before.before.before.before))

pub returns : goal.returns
returns c =
    let a = c.args in
    c.walk_value.ensures ∙ front_walk c.fill_ramp_costs.ensures (rest c.before.before.before.before.before.before.before.before.before.before.before.before.before.before) a.unit.generator (marks_of a.fixed.now)
    ∙ ramp_walk_is (length a.q.now) (λ t. a.q.now at t) (λ t. a.s.now at t) (steps a.up.now) (steps a.down.now) a.unit.generator (marks_of a.fixed.now)
