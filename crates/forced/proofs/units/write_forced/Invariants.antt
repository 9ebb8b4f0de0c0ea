-- `write_forced` meets its contract. The loop's invariant: the values and the bytes begin with those of the units passed.
use mathlib.Core.Path.{◌≡◌}
use mathlib.Core.List.{map}
use Prim.Native.Nat.{◌*◌}
use lib.ListN.{take}
use Rattle.model.specs.Instance.{◌at◌}
use Rattle.model.specs.Forced.{value_number, stuck_number}
use Rattle.layout.specs.Numbers.{instance_in}
use Rattle.walk.specs.Marks.{above_of}
use Rattle.forced.proofs.AllEntries.{front_tables}
use Rattle.forced.proofs.units.write_forced.Given as goal

abbrev pub invariant-loop-u : goal.invariant-loop-u
invariant-loop-u l = let P = instance_in l.plan.numbers.now in
    let front = front_tables P.periods (λ t. l.q at t) (λ t. l.s at t) l.u P.units (above_of P l.fixed).marks in
    (take (2 * (l.u * l.n)) l.values ≡ map value_number front) × (take (2 * (l.u * l.n)) l.stuck ≡ map stuck_number front)
