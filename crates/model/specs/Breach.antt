-- Document 01, Numbers that come from the text: the first rule that a schedule breaks, 21 to 25.
use Rattle.std.specs.Prelude.{Bool, true, false, not, cond, ◌&&◌, List, [], ◌∷◌, ℕ, zero, suc, ◌+◌, leb}
use Rattle.std.proofs.Math.Option.{Option, none, some}
use Rattle.model.specs.declared.generator.Generator.{Generator}
use Rattle.model.specs.Instance.{Instance, Schedule, ◌at◌}
use Rattle.model.specs.Rules.{on, statuses, output, capacity, permits, spent}

-- a refusal's number, unit and period; units and periods count from 1, and 0 is for what does not apply
pub record Breach : Type 0 where
  pub number : ℕ
  pub unit : ℕ
  pub period : ℕ

-- ---- the rules as tests: whether a unit's row breaks one in a period

-- (4)
abbrev pub off_limits : ℕ → Generator → List ℕ → Bool
off_limits t g r = on (r at t) && not (leb g.pL (r at t) && leb (r at t) g.pU)

-- (5) to (10): the status of period t is not permitted by those before it, after k periods in b
abbrev pub not_permitted : Generator → Bool → ℕ → List Bool → ℕ → Bool
not_permitted g b k [] t = false
not_permitted g b k (d ∷ run) zero = not (permits g b k d)
not_permitted g b k (d ∷ run) (suc t) = not_permitted g d (spent b k d) run t

-- (11), (12) of two outputs in a row, the unit having had the status b with the first
abbrev pub too_steep : Generator → Bool → ℕ → ℕ → Bool
too_steep g b p p' = (b && on p') && not (leb p' (p + g.UR) && leb p (p' + g.DR))

-- the output before period 1 is that at midnight
abbrev pub off_ramp : ℕ → Generator → List ℕ → Bool
off_ramp zero g r = too_steep g g.on g.p0 (r at 0)
off_ramp (suc t) g r = too_steep g (on (r at t)) (r at t) (r at suc t)

-- ---- the first period, and in it the first unit

pub record Place : Type 0 where
  pub unit : ℕ
  pub period : ℕ

abbrev pub next_unit : Option ℕ → Option ℕ
next_unit none = none
next_unit (some u) = some (suc u)

abbrev pub first_unit : (Generator → List ℕ → Bool) → List Generator → Schedule → Option ℕ
first_unit p [] rows = none
first_unit p (g ∷ gs) [] = none
first_unit p (g ∷ gs) (r ∷ rows) = cond (p g r) (some 1) (next_unit (first_unit p gs rows))

abbrev pub here_or_later : Option ℕ → Option Place → Option Place
here_or_later (some u) x = some (record { unit = u; period = 1 })
here_or_later none none = none
here_or_later none (some x) = some (record { unit = x.unit; period = suc x.period })

abbrev pub first_place : ℕ → (ℕ → Option ℕ) → Option Place
first_place zero f = none
first_place (suc n) f = here_or_later (f 0) (first_place n (λ t. f (suc t)))

-- a rule of a whole period names no unit
abbrev pub no_unit : Bool → Option ℕ
no_unit true = some 0
no_unit false = none

-- ---- lowest number, then lowest period, then lowest unit

abbrev pub numbered : ℕ → Option Place → Option Breach → Option Breach
numbered k none y = y
numbered k (some x) y = some (record { number = k; unit = x.unit; period = x.period })

module _ (P : Instance) (s : Schedule) where
  -- (4)
  abbrev pub place21 : Option Place
  place21 = first_place P.periods (λ t. first_unit (off_limits t) P.units s)

  -- (2)
  abbrev pub place22 : Option Place
  place22 = first_place P.periods (λ t. no_unit (not (leb (P.demand at t) (output P s t))))

  -- (3)
  abbrev pub place23 : Option Place
  place23 = first_place P.periods (λ t. no_unit (not (leb (P.demand at t + P.spare at t) (capacity P s t))))

  -- (5) to (10)
  abbrev pub place24 : Option Place
  place24 = first_place P.periods (λ t. first_unit (λ g r. not_permitted g g.on g.since (statuses r) t) P.units s)

  -- (11), (12)
  abbrev pub place25 : Option Place
  place25 = first_place P.periods (λ t. first_unit (off_ramp t) P.units s)

  unfoldable pub first_breach : Option Breach
  first_breach = numbered 21 place21 (numbered 22 place22 (numbered 23 place23 (numbered 24 place24 (numbered 25 place25 none))))
