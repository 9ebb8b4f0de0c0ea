-- `has_loads_in_range` meets its contract: the chain tests every member.
use mathlib.Core.Path.{sym, ◌∙◌}
use Rattle.std.proofs.Common.{rules, tests}
use Rattle.std.proofs.lemmas.Iterator.{YieldsList-from_slice}
use Rattle.std.proofs.lemmas.Iterator.Search.{all_from_yields_List}
use Rattle.model.specs.Ranges.{load_in_range}
use Rattle.model.proofs.Every.{every_all}
use Rattle.model.proofs.arrays.has_loads_in_range.Goals as goal

pub returns : goal.returns
returns c =
    all_from_yields_List load_in_range _ _ _ c.all.ensures.ran (YieldsList-from_slice c.args.loads.now (cc)) (λ x b q k. search (rules, tests))
    ∙ sym (every_all load_in_range c.args.loads.now)
