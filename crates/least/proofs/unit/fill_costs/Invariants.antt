-- `fill_costs` meets its contract. The loop's invariant: the periods passed have their costs.
use Rattle.std.proofs.Common.{◌≡◌, ℕ, ◌<◌, true, false}
use Rattle.model.specs.Instance.{◌at◌}
use Rattle.model.specs.Prices.{worth}
use Rattle.least.proofs.unit.fill_costs.Given as goal

abbrev pub invariant-loop-t : goal.invariant-loop-t
invariant-loop-t l = record {
  on_at : (k : ℕ) → k < l.t → l.on at k ≡ worth l.unit.generator (l.q at k) (l.s at k) true;
  off_at : (k : ℕ) → k < l.t → l.off at k ≡ worth l.unit.generator (l.q at k) (l.s at k) false;
}
