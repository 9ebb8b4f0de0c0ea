-- `list_capacities` meets its contract: each is of the generator at its index.
use mathlib.Core.Path.{◌≡◌, sym, ◌∙◌}
use lib.ListN.{length, get_or, length-map, get_or-map}
use Rattle.std.proofs.Common.{rules, tests}
use Rattle.model.specs.declared.generator.Generator.{Generator}
use Rattle.model.specs.Held.{blank_generator}
use Rattle.model.proofs.MadeArrays.{made}
use Rattle.judge.specs.Loads.{capacities}
use Rattle.judge.proofs.loads.list_capacities.Goals as goal

pub returns : goal.returns
returns c =
    let gs = c.args.problem.generators in
    let many : length gs ≡ 32 = search rules in
    made (λ i. (get_or gs i blank_generator).pU) 32 (capacities c.args.problem) 0 c.from_fn.ensures.items (λ i y q l k. search (rules, tests))
    (length-map gs (λ (g : Generator). g.pU) ∙ many) (λ i l. sym (get_or-map (λ (g : Generator). g.pU) gs i blank_generator))
