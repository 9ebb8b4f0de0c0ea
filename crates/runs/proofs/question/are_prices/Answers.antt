-- `are_prices` meets its contract: the library's test of all members is the definition's.
use Rattle.std.proofs.Common.{◌∙◌, rules, tests}
use Rattle.std.proofs.lemmas.Iterator.{YieldsList-from_slice}
use Rattle.std.proofs.lemmas.Iterator.Search.{all_from_yields_List}
use Rattle.runs.specs.Questions.{is_price}
use Rattle.runs.proofs.Questions.{all_every}
use Rattle.runs.proofs.question.are_prices.Goals as goal

pub returns : goal.returns
returns c =
    let prices = c.args.prices.now in
    all_from_yields_List is_price _ _ _ c.all.ensures.ran (YieldsList-from_slice prices cc) (λ x b q k. search (rules, tests)) ∙ all_every is_price prices
