-- `write_priced` meets its contract: the two arrays begin with the costs at the prices, and the walk and the run over those are the walk and the run in prices.
use mathlib.Core.Path.{◌∙◌}
use lib.ListN.{length, drop, replicate}
use Rattle.walk.specs.Marks.{marks_of}
use Rattle.least.proofs.Costs.{period_worth_fits, priced_costed}
use Rattle.runs.proofs.UnitRuns.{fronts_good, priced_value, priced_found}
use Rattle.runs.proofs.unit.write_priced.Goals as goal

pub write_walk-requires-clause-good_costs : goal.write_walk-requires-clause-good_costs
write_walk-requires-clause-good_costs c =
    let a = c.args in
    let P = c.requires.good_prices.0 in
    let past = drop (length a.q.now) (replicate 48 0) in
    let good = fronts_good (priced_costed c.fill_costs.ensures) past P.periods_in (period_worth_fits (length a.q.now) a.q.now a.s.now P a.unit.generator c.args.unit.good) in
    (good, c.requires.good_prices.1)

pub returns : goal.returns
returns c =
    let a = c.args in
    let past = drop (length a.q.now) (replicate 48 0) in record { value = c.write_walk.ensures.value ∙ priced_value a.unit.generator (marks_of a.fixed.now) a.q.now a.s.now _ _ past c.fill_costs.ensures; row = c.write_walk.ensures.row ∙ priced_found a.unit.generator (marks_of a.fixed.now) a.q.now a.s.now _ _ past c.fill_costs.ensures a.row.now }
