-- `copy_outputs` meets its contract.
use mathlib.Core.Path.{◌≡◌, ap, ◌∙◌}
use Prim.Native.Nat.{ℕ}
use native.Mathlib.Omega.{arith}
use lib.ListN.{length, take}
use lib.Seq.{length-take-le}
use Rattle.layout.proofs.Fronts.{paste_front}
use Rattle.writer.specs.Written.{over}
use Rattle.state.specs.Kept.{outputs_of}
use Rattle.state.proofs.Outputs.{outputs_few}
use borrow.Author.Rules.{rules}
use Rattle.state.proofs.copy_outputs.Goals as goal

pub shared_ref_as_front-store : goal.shared_ref_as_front-store
shared_ref_as_front-store c =
    let long : length c.args.docket.rows ≡ 1536 = search rules in
    omega (arith, c.count_outputs-n.ensures, outputs_few c.args.docket c.requires.docket_value, long)

pub slice_bounds-store-end : goal.slice_bounds-store-end
slice_bounds-store-end c =
    let long : length c.args.docket.rows ≡ 1536 = search rules in
    let few = outputs_few c.args.docket c.requires.docket_value in
    omega (arith, length-take-le c.count_outputs-n.result c.args.docket.rows (omega (arith, c.count_outputs-n.ensures, few, long)))

pub store-requires : goal.store-requires
store-requires c =
    let long : length c.args.docket.rows ≡ 1536 = search rules in
    let few = outputs_few c.args.docket c.requires.docket_value in
    let n = length-take-le c.count_outputs-n.result c.args.docket.rows (omega (arith, c.count_outputs-n.ensures, few, long)) in
    omega (arith, n, c.count_outputs-n.ensures, few, c.requires.in_bounds)

pub returns-clause-outputs_after : goal.returns-clause-outputs_after
unfolding outputs_of
returns-clause-outputs_after c =
    let rows = c.args.docket.rows in
    let v = c.args.outputs.now in
    c.store.ensures
    ∙ paste_front v (take c.count_outputs-n.result rows)
    ∙ ap (λ (n : ℕ). over (take n rows) v) c.count_outputs-n.ensures
