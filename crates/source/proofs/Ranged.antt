-- What the laws need of document 01's ranges, each a field of its own, and that well-formed problems have it.
use mathlib.Core.Path.{◌≡◌}
use mathlib.Core.Bool.{not}
use Prim.Native.Nat.{◌≤◌}
use lib.Dec.{T}
use Rattle.model.specs.declared.generator.Generator.{Generator}
use Rattle.model.specs.Instance.{Instance}
use Rattle.model.specs.Ranges.{GoodUnit, WellFormed}
use Rattle.source.specs.Source.{Every}
use Rattle.source.proofs.Indices.{every_map, all→every}

-- `started` says that Tini is not 0
pub record Ranged (g : Generator) : Type 0 where
  pub started : 1 ≤ g.since
  pub low : 1 ≤ g.pL
  pub down : 1 ≤ g.TD
  pub hot_cold : g.Hsc ≤ g.Csc

abbrev pub AllRanged : Instance → Type 0
AllRanged P = Every (λ i g. Ranged g) P.units

pub good→ranged : (g : Generator) → GoodUnit g → Ranged g
good→ranged g G = record { started = G.in_range.since_in.0; low = G.in_range.pL_in.0; down = G.in_range.TD_in.0; hot_cold = G.ordered.starts }

pub formed→ranged : (P : Instance) → WellFormed P → AllRanged P
formed→ranged P W =
    every_map (λ i g. GoodUnit g) (λ i g. Ranged g) P.units (λ i g. good→ranged g) (all→every GoodUnit P.units W.units_good)

-- what the laws of the ramp of period 1 need beside: p0 at most pU after periods on, 0 after periods off
pub record RangedMidnight (g : Generator) : Type 0 where
  pub most : T g.on → g.p0 ≤ g.pU
  pub none : T (not g.on) → g.p0 ≡ 0

pub good→midnight : (g : Generator) → GoodUnit g → RangedMidnight g
good→midnight g G = record { most = λ t. (G.ordered.midnight.0 t).1; none = G.ordered.midnight.1 }

pub formed→midnight : (P : Instance) → WellFormed P → Every (λ i g. RangedMidnight g) P.units
formed→midnight P W =
    every_map (λ i g. GoodUnit g) (λ i g. RangedMidnight g) P.units (λ i g. good→midnight g) (all→every GoodUnit P.units W.units_good)
