-- `units_least` meets its contract. The loop's invariant: none of the units passed is stuck, and the total is their sum.
use Rattle.std.proofs.Common.{◌≡◌, false, take}
use Rattle.model.specs.Instance.{◌at◌}
use Rattle.model.specs.Leaf.{any_stuck, units_least}
use Rattle.layout.specs.Numbers.{instance_in}
use Rattle.walk.specs.Marks.{above_of}
use Rattle.leaves.proofs.price.units_least.Given as goal

abbrev pub invariant-loop-u : goal.invariant-loop-u
invariant-loop-u l =
    let P = instance_in l.plan.numbers.now in
    let m = (above_of P l.above).marks in
    record { free : any_stuck P.periods (take l.u P.units) m ≡ false; summed : l.total ≡ units_least P.periods (λ t. l.q at t) (λ t. l.s at t) (take l.u P.units) m }
