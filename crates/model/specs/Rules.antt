-- Document 01, Rules for a schedule: (2) to (12); and document 02, [3]: the ramp of period 1.
use Rattle.std.specs.Prelude.{◌≡◌, Bool, true, false, ◌&&◌, List, [], ◌∷◌, map, ℕ, zero, suc, ◌+◌, ◌≤◌, ◌<◌, T, leb, length}
use Rattle.model.specs.declared.generator.Generator.{Generator}
use Rattle.model.specs.Instance.{Instance, Schedule, ◌at◌, sum_units, Each}

-- a unit is on exactly when its output is above 0
abbrev pub on : ℕ → Bool
on zero = false
on (suc p) = true

-- x for a unit that is on, else 0
abbrev pub if_on : Bool → ℕ → ℕ
if_on true x = x
if_on false x = 0

-- the statuses of a row of outputs
abbrev pub statuses : List ℕ → List Bool
statuses r = map on r

-- (4): an output above 0 lies from pL to pU
abbrev pub Within : Generator → ℕ → Type 0
Within g p = T (on p) → (g.pL ≤ p) × (p ≤ g.pU)

-- (2): what the units give in a period
unfoldable pub output : Instance → Schedule → ℕ → ℕ
output P s t = sum_units (λ g r. r at t) P.units s

-- (3): the pU of the units that are on in a period
unfoldable pub capacity : Instance → Schedule → ℕ → ℕ
capacity P s t = sum_units (λ g r. if_on (on (r at t)) g.pU) P.units s

-- (5) to (10): after k periods in the status b, whether the status d is permitted
abbrev pub permits : Generator → Bool → ℕ → Bool → Bool
permits g true k true = true
permits g true k false = leb g.TU k
permits g false k true = leb g.TD k
permits g false k false = true

-- the periods spent in the status d, after k periods in b and one in d
abbrev pub spent : Bool → ℕ → Bool → ℕ
spent true k true = suc k
spent true k false = 1
spent false k true = 1
spent false k false = suc k

-- (5) to (10) of a run of statuses, after k periods in b; no rule reaches past the last period
abbrev pub keeps : Generator → Bool → ℕ → List Bool → Bool
keeps g b k [] = true
keeps g b k (d ∷ run) = permits g b k d && keeps g d (spent b k d) run

-- (11), (12): the outputs of two periods in a row
pub record Ramp (g : Generator) (p p' : ℕ) : Type 0 where
  pub rise : p' ≤ p + g.UR
  pub fall : p ≤ p' + g.DR

-- the rules of one unit's row of n outputs
pub record Row (n : ℕ) (g : Generator) (r : List ℕ) : Type 0 where
  pub long : length r ≡ n
  pub limits : (t : ℕ) → t < n → Within g (r at t)
  pub updown : T (keeps g g.on g.since (statuses r))
  pub ramps : (t : ℕ) → suc t < n → T (on (r at t)) → T (on (r at suc t)) → Ramp g (r at t) (r at suc t)

-- (2) to (12) as the source prints them, ramps from period 2 on: I rows of T whole outputs, with no cap on an output but (4)
pub record MeetsPrinted (P : Instance) (s : Schedule) : Type 0 where
  pub rows : Each (Row P.periods) P.units s
  pub meets_demand : (t : ℕ) → t < P.periods → P.demand at t ≤ output P s t
  pub meets_spare : (t : ℕ) → t < P.periods → P.demand at t + P.spare at t ≤ capacity P s t

-- (11), (12) at period 1, from the output at midnight, for a unit that was on before it and is on in it
abbrev pub FirstRamp : Generator → List ℕ → Type 0
FirstRamp g r = T g.on → T (on (r at 0)) → Ramp g g.p0 (r at 0)

-- a schedule that meets the rules
pub record Meets (P : Instance) (s : Schedule) : Type 0 where
  pub printed : MeetsPrinted P s
  pub midnight : Each FirstRamp P.units s
