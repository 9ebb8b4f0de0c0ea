-- The five searches joined by number: what `first_breach` finds is the first failure of a test, by number, period and unit.
use mathlib.Core.Bool.{Bool, not}
use mathlib.Core.List.{List}
use Prim.Native.Nat.{ℕ, ◌+◌}
use lib.Dec.{leb}
use Rattle.model.specs.declared.generator.Generator.{Generator}
use Rattle.model.specs.Instance.{Instance, Schedule, ◌at◌}
use Rattle.model.specs.Rules.{statuses, output, capacity}
use Rattle.model.specs.Breach.{Breach, Place, off_limits, not_permitted, off_ramp, first_unit, first_place, no_unit, place21, place22, place23, place24, place25, first_breach}
use Rattle.model.specs.Broken.{Earliest}
use Rattle.model.proofs.Searches.{Passing, unit_earliest, Nameless, no_unit_earliest, Spot, Sooner, place_earliest, Joined, FirstFrom, numbered_first}

abbrev pub barred : ℕ → Generator → List ℕ → Bool
barred t g r = not_permitted g g.on g.since (statuses r) t

module _ (P : Instance) (s : Schedule) where
  abbrev pub under_demand : ℕ → Bool
  under_demand t = not (leb (P.demand at t) (output P s t))

  abbrev pub under_spare : ℕ → Bool
  under_spare t = not (leb (P.demand at t + P.spare at t) (capacity P s t))

  -- the places where a test of a unit's row, or of a whole period, says that a rule is broken
  abbrev pub Units : (ℕ → Generator → List ℕ → Bool) → Place → Type 0
  Units p = Spot P.periods (λ t. Passing (p t) P.units s)

  abbrev pub Periods : (ℕ → Bool) → Place → Type 0
  Periods p = Spot P.periods (λ t. Nameless (p t))

  -- some test says so, by number, unit and period
  abbrev pub Fails : Breach → Type 0
  Fails =
      Joined 21 (Units off_limits) (Joined 22 (Periods under_demand) (Joined 23 (Periods under_spare)
      (Joined 24 (Units barred) (Joined 25 (Units off_ramp) (λ b. ⊥)))))

  units_earliest : (p : ℕ → Generator → List ℕ → Bool)
      → Earliest Sooner (Units p) (first_place P.periods (λ t. first_unit (p t) P.units s))
  units_earliest p = place_earliest P.periods _ _ (λ t. unit_earliest (p t) P.units s)

  periods_earliest : (p : ℕ → Bool) → Earliest Sooner (Periods p) (first_place P.periods (λ t. no_unit (p t)))
  periods_earliest p = place_earliest P.periods _ _ (λ t. no_unit_earliest (p t))

  pub fails_first : FirstFrom 21 Fails (first_breach P s)
  unfolding first_breach
  fails_first =
      numbered_first 21 (Units off_limits) (place21 P s) (units_earliest off_limits)
      (numbered_first 22 (Periods under_demand) (place22 P s) (periods_earliest under_demand)
      (numbered_first 23 (Periods under_spare) (place23 P s) (periods_earliest under_spare)
      (numbered_first 24 (Units barred) (place24 P s) (units_earliest barred)
      (numbered_first 25 (Units off_ramp) (place25 P s) (units_earliest off_ramp)
      (record { earliest = λ b h. h; from = λ b h. absurd h })))))
