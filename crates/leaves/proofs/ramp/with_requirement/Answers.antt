-- `with_requirement` meets its contract: the answer taken apart, and the requirement added.
use Rattle.std.proofs.Common.{rules, arith, ◌≡◌, ◌∙◌, ap, ap₂, ◌<◌, ◌^◌, pos, ◌+ℤ◌, Some, w64, to_z, of_z}
use mir.ValLaws.{to_z_pos}
use Rattle.model.specs.Instance.{◌at◌}
use Rattle.layout.specs.Numbers.{instance_in}
use Rattle.least.proofs.Signed.{pos_fits}
use Rattle.leaves.specs.LeafLeasts.{plus_requirement}
use Rattle.leaves.proofs.Requirements.{required_sum_fits}
use Rattle.leaves.proofs.SmallSums.{small_told}
use Rattle.leaves.proofs.ramp.with_requirement.Goals as goal
use Rattle.leaves.proofs.ramp.with_requirement.Tie as tie
use Rattle.leaves.proofs.ramp.with_requirement.Reads as reads
use Rattle.leaves.proofs.ramp.with_requirement.Lts as lts

-- the requirement is small
required : (c : lts.After-sum_requirement tie.the-claims reads.Pre reads.Post tie.handed_clauses) → c.sum_requirement-requirement.result < 2 ^ 61
required c =
    omega (arith, c.sum_requirement-requirement.ensures, required_sum_fits (instance_in c.args.plan.numbers.now) c.args.q.now c.args.s.now c.args.plan.laid.well_formed c.requires.good_prices)

pub overflow_cast-requirement : goal.overflow_cast-requirement
overflow_cast-requirement c = pos_fits _ (omega (arith, required c.before))

pub add-requires : goal.add-requires
add-requires c =
    let v = c.in_ok-v.v in
    let x = c.sum_requirement-requirement.result in
    let same : to_z w64 (of_z w64 v) ≡ v = search rules in
    let was : Some v ≡ c.args.sum = cc in
    let read : to_z w64 x ≡ pos x = to_z_pos w64 x (omega (arith, required c.before)) in
    (rw same (small_told c.args.sum v was c.requires.small_least), rw read (required c.before))

pub returns : goal.returns
returns c =
    let a = c.args in
    let v = c.in_ok-v.v in
    let x = c.sum_requirement-requirement.result in
    let same : to_z w64 (of_z w64 v) ≡ v = search rules in
    let sum : to_z w64 (of_z w64 c.add.result) ≡ c.add.result = search rules in
    let read : to_z w64 x ≡ pos x = to_z_pos w64 x (omega (arith, required c.before.before)) in
    let was : Some v ≡ a.sum = cc in
    ap Some (sum ∙ c.add.ensures ∙ ap₂ ◌+ℤ◌ same (read ∙ ap pos c.sum_requirement-requirement.ensures))
    ∙ ap (plus_requirement (instance_in a.plan.numbers.now) (λ t. a.q.now at t) (λ t. a.s.now at t)) was
