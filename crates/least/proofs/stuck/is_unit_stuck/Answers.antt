-- `is_unit_stuck` meets its contract: the unit's part of the fixed statuses has the unit's marks.
use mathlib.Core.Path.{◌≡◌, ap, ◌∙◌}
use Prim.Native.Nat.{ℕ, ◌+◌, ◌*◌, ◌-◌, ◌≤◌}
use native.Mathlib.Omega.{arith}
use lib.ListN.{length, take, drop}
use Rattle.model.specs.declared.generator.Generator.{Generator}
use Rattle.model.specs.Held.{blank_generator}
use Rattle.model.specs.Leaf.{is_stuck, stuck_at}
use Rattle.layout.specs.Numbers.{instance_in}
use Rattle.walk.specs.Marks.{marks_of, marks_in}
use Rattle.least.proofs.UnitParts.{part_within, part_long}
use Rattle.least.proofs.StuckUnits.{part_stuck}
use Rattle.least.proofs.stuck.is_unit_stuck.Goals as goal
use Rattle.least.proofs.stuck.is_unit_stuck.Tie as tie
use Rattle.least.proofs.stuck.is_unit_stuck.Reads as reads
use Rattle.least.proofs.stuck.is_unit_stuck.Lts as lts

-- the unit's part is within the fixed statuses
within : (c : lts.After-periods tie.the-claims reads.Pre reads.Post tie.handed_clauses) →
    c.args.u * c.periods-n.result + c.periods-n.result ≤ length c.args.above.now
within c =
    let n = c.periods-n.result in
    let units = (instance_in c.args.plan.numbers.now).units in
    part_within (length units) n c.args.u (length c.args.above.now) c.requires.u_in_bounds (rw c.periods-n.ensures c.requires.numbers_in_bounds)

-- and as long as the periods
long : (c : lts.After-periods tie.the-claims reads.Pre reads.Post tie.handed_clauses) →
    let n = c.periods-n.result in
    length (take (c.args.u * n + n - c.args.u * n) (drop (c.args.u * n) c.args.above.now)) ≡ n
long c =
    let n = c.periods-n.result in
    part_long n (c.args.u * n) c.args.above.now (within c)

pub overflow_mul-begin : goal.overflow_mul-begin
overflow_mul-begin c = omega (arith, within c.before)

pub overflow_add-end : goal.overflow_add-end
overflow_add-end c = omega (arith, within c.before)

pub slice_bounds-is_stuck-end : goal.slice_bounds-is_stuck-end
slice_bounds-is_stuck-end c = within c.before.before

pub is_stuck-requires : goal.is_stuck-requires
is_stuck-requires c =
    rw (long c.before.before.before, c.periods-n.ensures) c.args.plan.laid.well_formed.periods_in

pub returns : goal.returns
returns c =
    let a = c.args in
    let n = c.periods-n.result in
    let part = take (a.u * n + n - a.u * n) (drop (a.u * n) a.above.now) in
    let units = (instance_in a.plan.numbers.now).units in
    c.is_stuck.ensures ∙ ap (λ (g : Generator). is_stuck (length part) g (marks_of part)) c.unit.ensures
    ∙ part_stuck n a.u units blank_generator a.above.now c.requires.u_in_bounds (length part) (a.u * n + n - a.u * n) (long c.before.before.before.before) (omega arith)
    ∙ ap (λ (k : ℕ). stuck_at k units (marks_in (length units) k a.above.now) a.u) c.periods-n.ensures
