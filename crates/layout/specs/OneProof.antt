-- That numbers are laid out has one proof at most, and so a struct may hold it.
use Rattle.std.specs.Prelude.{List, [], ◌∷◌, ℕ}
use Rattle.std.specs.Coded.{×_prop, Unit-prop}
use Rattle.std.proofs.Props.{props}
use Rattle.model.specs.Ranges.{All, GoodLoad, GoodUnit}
use Rattle.model.specs.OneProof.{GoodUnit-prop}
use Rattle.model.specs.declared.generator.Generator.{Generator}
use Rattle.layout.specs.Numbers.{Laid}

All-prop : {A : Type 0} {R : A → Type 0} → ((x : A) → IsProp (R x)) → (l : List A) → IsProp (All R l)
All-prop each [] = Unit-prop
All-prop each (x ∷ l) = ×_prop (each x) (All-prop each l)

loads-prop : (l : List ℕ) → IsProp (All GoodLoad l)
loads-prop = All-prop (λ v. Prim.hlevel props)

units-prop : (gs : List Generator) → IsProp (All GoodUnit gs)
units-prop = All-prop GoodUnit-prop

pub Laid-prop : (v : List ℕ) → IsProp (Laid v)
Laid-prop v = Prim.hlevel (loads-prop, units-prop, props)
