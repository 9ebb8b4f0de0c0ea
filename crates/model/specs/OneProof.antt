-- That a generator is good has one proof at most, and so a struct may hold it.
use Rattle.std.proofs.Props.{props}
use Rattle.model.specs.Ranges.{GoodUnit}
use Rattle.model.specs.declared.generator.Generator.{Generator}

pub GoodUnit-prop : (g : Generator) → IsProp (GoodUnit g)
GoodUnit-prop g = Prim.hlevel props
