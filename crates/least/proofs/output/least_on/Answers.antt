-- `least_on` meets its contract: the best output lies at most at pU.
use mathlib.Core.Path.{◌∙◌, ap}
use Rattle.model.specs.Prices.{on_value}
use Rattle.model.proofs.BestOutputs.{best_at_is}
use Rattle.least.proofs.output.least_on.Goals as goal

pub on_value-requires : goal.on_value-requires
on_value-requires c =
    record { good_slopes = c.requires; p_le_p_u = rw c.best_output.ensures (best_at_is c.args.unit.generator c.args.x c.args.y c.args.unit.good.ordered.limits).high }

pub returns : goal.returns
returns c =
    c.on_value.ensures ∙ ap (on_value c.args.unit.generator c.args.x c.args.y) c.best_output.ensures
