-- The three sums are those over the periods passed; a, b and c of them are what the outputs cost.
use mathlib.Core.Path.{◌≡◌}
use Rattle.model.specs.Instance.{sum}
use Rattle.judge.proofs.Fuel.{ons, outputs, squares}
use Rattle.judge.proofs.cost.sum_fuel.Given as goal

abbrev pub invariant-loop-output : goal.invariant-loop-output
invariant-loop-output l =
    (l.periods ≡ sum l.output-index (ons l.row)) × ((l.outputs ≡ sum l.output-index (outputs l.row)) × (l.squares ≡ sum l.output-index (squares l.row)))
