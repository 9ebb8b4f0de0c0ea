-- `unit_forced` meets its contract: the arrays begin with the costs at the prices and with the coded entries, which in numbers are the unit's table.
use mathlib.Core.Path.{◌∙◌}
use Prim.Native.Nat.{◌*◌}
use native.Mathlib.Omega.{arith}
use lib.ListN.{length, drop, replicate}
use Rattle.walk.specs.Marks.{marks_of}
use Rattle.least.proofs.Costs.{on_front_long, front_good, period_worth_fits, sum_offset_fits, priced_costed}
use Rattle.forced.proofs.UnitEntries.{front_entries_good, front_values, front_stuck}
use Rattle.forced.proofs.unit.unit_forced.Goals as goal

pub fill_entries-requires-clause-good_costs : goal.fill_entries-requires-clause-good_costs
fill_entries-requires-clause-good_costs c =
    let a = c.args in
    let P = c.requires.good_prices.0 in
    let K = priced_costed c.fill_costs.ensures in
    let past = drop (length a.q.now) (replicate 48 0) in
    (front_good K past P.periods_in (period_worth_fits (length a.q.now) a.q.now a.s.now P a.unit.generator c.args.unit.good), c.requires.good_prices.1 ∙ on_front_long K past)

pub write_numbers-requires-clause-all : goal.write_numbers-requires-clause-all
write_numbers-requires-clause-all c =
    let a = c.args in
    let P = c.requires.good_prices.0 in
    let past = drop (length a.q.now) (replicate 48 0) in
    let behind = drop (2 * length a.q.now) (replicate 96 0) in (
      front_entries_good a.unit.generator (marks_of a.fixed.now) a.q.now a.s.now _ _ past _ behind c.fill_costs.ensures c.fill_entries.ensures c.args.unit.good P,
      (omega arith, omega (arith, c.sum_offset-added.ensures, sum_offset_fits (length a.q.now) a.q.now a.s.now P a.unit.generator c.args.unit.good)),
    )

pub returns : goal.returns
returns c =
    let a = c.args in
    let past = drop (length a.q.now) (replicate 48 0) in
    let behind = drop (2 * length a.q.now) (replicate 96 0) in
    let e = c.sum_offset-added.ensures in record {
      values = c.write_numbers.ensures.values
          ∙ front_values a.unit.generator (marks_of a.fixed.now) a.q.now a.s.now _ _ past _ behind c.fill_costs.ensures c.fill_entries.ensures c.args.unit.good _ e;
      stuck = c.write_numbers.ensures.stuck
          ∙ front_stuck a.unit.generator (marks_of a.fixed.now) a.q.now a.s.now _ _ past _ behind c.fill_costs.ensures c.fill_entries.ensures c.args.unit.good _ e;
    }
