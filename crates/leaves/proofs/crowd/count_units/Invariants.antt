-- `count_units` meets its contract. The loop's invariant: the count is that of the units passed.
use Rattle.std.proofs.Common.{◌≡◌, ◌≤◌, ℕ, Bool, take}
use Rattle.model.specs.Above.{Mark}
use Rattle.layout.specs.Numbers.{instance_in}
use Rattle.walk.specs.Marks.{mark_of, above_of}
use Rattle.leaves.specs.LeafLeasts.{counted}
use Rattle.leaves.proofs.crowd.count_units.Given as goal

abbrev pub invariant-loop-u : goal.invariant-loop-u
invariant-loop-u g l =
    let P = instance_in l.plan.numbers.now in
    record {
      few : l.count ≤ l.u;
      so_far : (p : Mark → Bool) → ((x : ℕ) → (r : Bool) → goal.F-post g l.counts x r → r ≡ p (mark_of x)) → l.count ≡ counted p (take l.u P.units) (above_of P l.above).marks l.t;
    }
