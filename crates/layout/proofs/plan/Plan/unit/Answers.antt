-- `Plan::unit` meets its contract: the numbers from the generator's on, which are a good one's.
use mathlib.Core.Path.{◌≡◌, sym, ap, ◌∙◌}
use mathlib.Core.List.{List}
use Prim.Native.Nat.{ℕ, ◌+◌, ◌-◌, ◌*◌, ◌<◌}
use native.Mathlib.Omega.{arith}
use lib.ListN.{length, get_or, take, drop}
use lib.Seq.{take_all}
use Rattle.model.specs.declared.generator.Generator.{Generator}
use Rattle.model.specs.Held.{blank_generator}
use Rattle.layout.specs.Numbers.{generator_of, instance_in}
use Rattle.layout.proofs.Ranks.{good_at}
use Rattle.layout.proofs.Readings.{from_whole, unit_at}
use Rattle.layout.proofs.plan.Plan.unit.Goals as goal

-- the generator is the problem's
found : (v : List ℕ) (u : ℕ) (g : Generator) → u < length (instance_in v).units
    → g ≡ generator_of (take (length v - (98 + u * 16)) (drop (98 + u * 16) v)) → g ≡ get_or (instance_in v).units u blank_generator
found v u g inside e = e ∙ ap generator_of (from_whole v (98 + u * 16)) ∙ sym (unit_at v u inside)

pub invariant_of-result : goal.invariant_of-result
invariant_of-result c =
    let a = c.args in
    let units = (instance_in a.self.numbers.now).units in
    record { good = rw (found a.self.numbers.now a.u c.generator_of-generator.result c.requires c.generator_of-generator.ensures) (good_at (length units) units a.u (rw (take_all (length units) units (omega arith)) a.self.laid.well_formed.units_good) c.requires c.requires) }

pub returns : goal.returns
returns c = found c.args.self.numbers.now c.args.u c.generator_of-generator.result c.requires c.generator_of-generator.ensures
