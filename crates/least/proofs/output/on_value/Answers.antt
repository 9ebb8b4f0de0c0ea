-- `on_value` meets its contract: it is the definition.
use Rattle.std.proofs.Common.{rules}
use Rattle.model.specs.Prices.{on_value}
use Rattle.least.proofs.output.on_value.Goals as goal

pub returns : goal.returns
unfolding on_value
returns c = search rules
