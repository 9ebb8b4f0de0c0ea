-- `has_good_generators` meets its contract: the chain tests every member.
use mathlib.Core.Path.{sym, ◌∙◌}
use Rattle.std.proofs.Common.{rules, tests}
use Rattle.std.proofs.lemmas.Iterator.{YieldsList-from_slice}
use Rattle.std.proofs.lemmas.Iterator.Search.{all_from_yields_List}
use Rattle.model.specs.Ranges.{good_generator}
use Rattle.model.proofs.Every.{every_all}
use Rattle.model.proofs.arrays.has_good_generators.Goals as goal

pub returns : goal.returns
returns c =
    all_from_yields_List good_generator _ _ _ c.all.ensures.ran (YieldsList-from_slice c.args.generators.now (cc)) (λ x b q k. search (rules, tests))
    ∙ sym (every_all good_generator c.args.generators.now)
