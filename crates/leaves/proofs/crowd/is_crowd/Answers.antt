-- `is_crowd` meets its contract: the two counts and the two bytes that it compares are the definition's.
use Rattle.std.proofs.Common.{rules, tests, ◌≡◌, ◌∙◌, not}
use lib.Dec.{eqb}
use Rattle.layout.specs.Numbers.{instance_in}
use Rattle.walk.specs.Marks.{above_of}
use Rattle.walk.proofs.AboveMarks.{statuses_inside}
use Rattle.leaves.proofs.Crowds.{is_on, on_byte, fixed_on_counted, may_be_on, may_byte, not_off_counted, crowd_over, crowd_under}
use Rattle.leaves.proofs.crowd.is_crowd.Goals as goal

pub count_units-requires-clause-numbers_in_bounds : goal.count_units-requires-clause-numbers_in_bounds
count_units-requires-clause-numbers_in_bounds c = statuses_inside (instance_in c.args.plan.numbers.now) c.args.plan.laid.well_formed c.args.above.now c.requires.above_len

pub count_units-requires-else-is_above-clause-numbers_in_bounds : goal.count_units-requires-else-is_above-clause-numbers_in_bounds
count_units-requires-else-is_above-clause-numbers_in_bounds c = statuses_inside (instance_in c.args.plan.numbers.now) c.args.plan.laid.well_formed c.args.above.now c.requires.above_len

pub returns-then-is_above : goal.returns-then-is_above
returns-then-is_above c =
    let a = c.args in
    let P = instance_in a.plan.numbers.now in
    let on = c.count_units.ensures is_on (λ x r q. let e : r ≡ eqb x 2 = search (rules, tests) in e ∙ on_byte x) ∙ fixed_on_counted P.units (above_of P a.above.now).marks a.t in
    crowd_over P a.above.now a.t c.requires.t_bound _ on c.is_above.result c.if-is_above.true c.is_above.ensures

pub returns-else-is_above : goal.returns-else-is_above
returns-else-is_above c =
    let a = c.args in
    let P = instance_in a.plan.numbers.now in
    let m = (above_of P a.above.now).marks in
    let on = c.count_units.ensures is_on (λ x r q. let e : r ≡ eqb x 2 = search (rules, tests) in e ∙ on_byte x) ∙ fixed_on_counted P.units m a.t in
    let may = c.count_units-else-is_above.ensures may_be_on (λ x r q. let e : r ≡ not (eqb x 1) = search (rules, tests) in e ∙ may_byte x) ∙ not_off_counted P.units m a.t in
    crowd_under P a.above.now a.t c.requires.t_bound _ on (c.if-is_above.ensures) _ may _ c.from.ensures
