-- What a problem and rows that fit it give for unit i: its numbers are in range, and so are its row's place, length and outputs.
use mathlib.Core.Path.{◌≡◌, ◌∙◌, subst}
use mathlib.Core.List.{List}
use Prim.Native.Nat.{ℕ, ◌+◌, ◌*◌, ◌≤◌, ◌<◌}
use native.Mathlib.Omega.{arith}
use lib.ListN.{length, get_or, take, drop}
use lib.Seq.{length-take-le, get_or-take, get_or-drop}
use Rattle.model.specs.declared.generator.Generator.{Generator}
use Rattle.model.specs.declared.arrays.Problem.{Problem}
use Rattle.model.specs.Instance.{◌at◌}
use Rattle.model.specs.Held.{view, blank_generator}
use Rattle.model.specs.Ranges.{All, InRange, GoodUnit, GoodOutput, GoodLoad}
use Rattle.judge.specs.Rows.{Fitting}
use Rattle.judge.proofs.Rows.{row, within, row_long, all_at, all_take, all_drop}

abbrev pub unit : Problem → ℕ → Generator
unit p i = get_or p.generators i blank_generator

abbrev pub part : Problem → List ℕ → ℕ → List ℕ
part p l i = row p.periods l i

module _ (p : Problem) (l : List ℕ) (F : Fitting p l) where
  pub periods_most : p.periods ≤ 48
  unfolding view
  periods_most = F.valid.well_formed.periods_in.1

  pub periods_least : 1 ≤ p.periods
  unfolding view
  periods_least = F.valid.well_formed.periods_in.0

  pub units_most : p.units ≤ 32
  units_most = F.valid.units_fit

  pub part_within : (i : ℕ) → i < p.units → i * p.periods + p.periods ≤ length l
  part_within i h = within p.units p.periods l i F.long h

  pub part_long : (i : ℕ) → i < p.units → length (part p l i) ≡ p.periods
  part_long i h = row_long p.units p.periods l i F.long h

  pub part_outputs : (i : ℕ) → All GoodOutput (part p l i)
  part_outputs i = all_take GoodOutput p.periods (drop (i * p.periods) l) (all_drop GoodOutput (i * p.periods) l F.outputs_in)

  -- an output of a unit's row, in the whole list
  pub part_at : (i t : ℕ) → t < p.periods → part p l i at t ≡ l at (i * p.periods + t)
  part_at i t h = get_or-take p.periods (drop (i * p.periods) l) t 0 h ∙ get_or-drop (i * p.periods) l t 0

  pub demand_most : (t : ℕ) → t < p.periods → p.demand at t ≤ 320000
  unfolding view
  demand_most t h =
      let W = F.valid.well_formed in
      let g : GoodLoad (get_or (take p.periods p.demand) t 0) = all_at GoodLoad (take p.periods p.demand) 0 W.demand_in t (omega (arith, W.demand_long)) in
      rw (get_or-take p.periods p.demand t 0 h) at g.1

  pub spare_most : (t : ℕ) → t < p.periods → p.spare at t ≤ 320000
  unfolding view
  spare_most t h =
      let W = F.valid.well_formed in
      let g : GoodLoad (get_or (take p.periods p.spare) t 0) = all_at GoodLoad (take p.periods p.spare) 0 W.spare_in t (omega (arith, W.spare_long)) in
      rw (get_or-take p.periods p.spare t 0 h) at g.1

  module _ (many : length p.generators ≡ 32) where
    pub units_long : length (take p.units p.generators) ≡ p.units
    units_long = length-take-le p.units p.generators (omega (arith, units_most))

    pub unit_good : (i : ℕ) → i < p.units → GoodUnit (unit p i)
    unfolding view
    unit_good i h =
        subst (λ (g : Generator). GoodUnit g) (get_or-take p.units p.generators i blank_generator h)
        (all_at GoodUnit (take p.units p.generators) blank_generator F.valid.well_formed.units_good i (omega (arith, units_long)))

    pub unit_in : (i : ℕ) → i < p.units → InRange (unit p i)
    unit_in i h = (unit_good i h).in_range
