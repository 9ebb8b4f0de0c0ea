-- Which rule a schedule breaks, where, and which breach comes first: document 01's numbers 21 to 25 in the words of the rules,
-- with no search in them.
use Rattle.std.specs.Prelude.{◌≡◌, Bool, ◌⊎◌, List, [], ◌∷◌, ℕ, zero, suc, ◌+◌, ◌<◌, T, take}
use Rattle.std.proofs.Math.Option.{Option, none, some}
use Rattle.model.specs.declared.generator.Generator.{Generator}
use Rattle.model.specs.Instance.{Instance, Schedule, ◌at◌}
use Rattle.model.specs.Rules.{on, statuses, Within, output, capacity, keeps, Ramp}
use Rattle.model.specs.Breach.{Breach}

-- of unit u, counted from 0, with its row
abbrev pub Of : ℕ → (Generator → List ℕ → Type 0) → List Generator → Schedule → Type 0
Of u R [] rows = ⊥
Of u R (g ∷ gs) [] = ⊥
Of zero R (g ∷ gs) (r ∷ rows) = R g r
Of (suc u) R (g ∷ gs) (r ∷ rows) = Of u R gs rows

-- period t is the first whose status (5) to (10) do not permit: the statuses before it keep them, and with its own they do not
pub record FirstBarred (g : Generator) (run : List Bool) (t : ℕ) : Type 0 where
  pub before : T (keeps g g.on g.since (take t run))
  pub barred : T (keeps g g.on g.since (take (suc t) run)) → ⊥

-- after an output p with the status b, on or off, comes the output p': the unit is on with both, and the two break (11) or (12)
pub record OffRamp (g : Generator) (b : Bool) (p p' : ℕ) : Type 0 where
  pub on_before : T b
  pub on_then : T (on p')
  pub off : Ramp g p p' → ⊥

module _ (P : Instance) (s : Schedule) where
  -- the rule with that number is broken at that unit and period, both counted from 1; 22 and 23 name no unit
  pub data Broken : Breach → Type 0 where
    -- (4)
    limits : (u t : ℕ) → t < P.periods → Of u (λ g r. Within g (r at t) → ⊥) P.units s
        → Broken (record { number = 21; unit = suc u; period = suc t })
    -- (2)
    demand : (t : ℕ) → t < P.periods → output P s t < P.demand at t → Broken (record { number = 22; unit = 0; period = suc t })
    -- (3)
    spare : (t : ℕ) → t < P.periods → capacity P s t < P.demand at t + P.spare at t
        → Broken (record { number = 23; unit = 0; period = suc t })
    -- (5) to (10)
    updown : (u t : ℕ) → t < P.periods → Of u (λ g r. FirstBarred g (statuses r) t) P.units s
        → Broken (record { number = 24; unit = suc u; period = suc t })
    -- (11), (12): the period is the second of the two
    ramps : (u t : ℕ) → suc t < P.periods → Of u (λ g r. OffRamp g (on (r at t)) (r at t) (r at suc t)) P.units s
        → Broken (record { number = 25; unit = suc u; period = suc (suc t) })
    -- the same at period 1, from the output at midnight
    midnight : (u : ℕ) → 0 < P.periods → Of u (λ g r. OffRamp g g.on g.p0 (r at 0)) P.units s
        → Broken (record { number = 25; unit = suc u; period = 1 })

-- lowest number, then lowest period, then lowest unit
abbrev pub Lower : Breach → Breach → Type 0
Lower b c =
    (b.number < c.number)
    ⊎ ((b.number ≡ c.number) × ((b.period < c.period) ⊎ ((b.period ≡ c.period) × (b.unit < c.unit))))

-- what a search should answer, before being an order: nothing where nothing is of the kind sought; else one that is, and
-- nothing before it is
abbrev pub Earliest : {A : Type 0} → (A → A → Type 0) → (A → Type 0) → Option A → Type 0
Earliest before Q none = (a : _) → Q a → ⊥
Earliest before Q (some a) = Q a × ((c : _) → before c a → Q c → ⊥)
