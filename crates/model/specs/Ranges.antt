-- Document 01, Texts, and document 02, [3]: the ranges, and well-formed problems (refusals 13 and 15).
use Rattle.std.specs.Prelude.{◌≡◌, Bool, true, not, cond, ◌&&◌, List, [], ◌∷◌, ℕ, ◌≤◌, T, leb, eqb, length}
use Rattle.model.specs.declared.generator.Generator.{Generator}
use Rattle.model.specs.Instance.{Instance, Schedule}

-- v lies from least to most, both allowed
abbrev pub Between : ℕ → ℕ → ℕ → Type 0
Between least v most = (least ≤ v) × (v ≤ most)

-- every member of a list
abbrev pub All : {A : Type 0} → (A → Type 0) → List A → Type 0
All R [] = Unit {0}
All R (x ∷ l) = R x × All R l

-- the numbers of a unit line. Tini is -1,000 to 1,000 without 0
pub record InRange (g : Generator) : Type 0 where
  pub a_in : Between 0 g.a 1000000000
  pub b_in : Between 0 g.b 10000000
  pub c_in : Between 0 g.c 10000
  pub pL_in : Between 1 g.pL 10000
  pub pU_in : Between 1 g.pU 10000
  pub TU_in : Between 1 g.TU 48
  pub TD_in : Between 1 g.TD 48
  pub since_in : Between 1 g.since 1000
  pub DR_in : Between 1 g.DR 10000
  pub UR_in : Between 1 g.UR 10000
  pub Hsc_in : Between 0 g.Hsc 1000000000
  pub Csc_in : Between 0 g.Csc 1000000000
  pub Tcold_in : Between 0 g.Tcold 48
  pub Dc_in : Between 0 g.Dc 1000000000
  pub p0_in : Between 0 g.p0 10000

-- 15 refuses pL above pU, Hsc above Csc, and a p0 that is not within pL to pU with Tini above 0, or not 0 with Tini below
pub record Ordered (g : Generator) : Type 0 where
  pub limits : g.pL ≤ g.pU
  pub starts : g.Hsc ≤ g.Csc
  pub midnight : (T g.on → Between g.pL g.p0 g.pU) × (T (not g.on) → g.p0 ≡ 0)

-- a unit line that neither 13 nor 15 refuses
pub record GoodUnit (g : Generator) : Type 0 where
  pub in_range : InRange g
  pub ordered : Ordered g

-- a period's demand or spare; an output; a multiplier; a writer
abbrev pub GoodLoad : ℕ → Type 0
GoodLoad v = Between 0 v 320000

abbrev pub GoodOutput : ℕ → Type 0
GoodOutput v = Between 0 v 10000

abbrev pub GoodPrice : ℕ → Type 0
GoodPrice v = Between 0 v 1000000000

abbrev pub GoodWriter : ℕ → Type 0
GoodWriter v = Between 1 v 65535

-- a problem that document 01 does not refuse
pub record WellFormed (P : Instance) : Type 0 where
  pub periods_in : Between 1 P.periods 48
  pub units_in : Between 1 (length P.units) 32
  pub demand_long : length P.demand ≡ P.periods
  pub demand_in : All GoodLoad P.demand
  pub spare_long : length P.spare ≡ P.periods
  pub spare_in : All GoodLoad P.spare
  pub units_good : All GoodUnit P.units

-- I rows of T outputs ..
abbrev pub Shaped : Instance → Schedule → Type 0
Shaped P s = (length s ≡ length P.units) × All (λ r. length r ≡ P.periods) s

-- .. each 0 to 10,000: the rows of a well-formed schedule text
abbrev pub GoodRows : Instance → Schedule → Type 0
GoodRows P s = Shaped P s × All (λ r. All GoodOutput r) s

-- ---- the same as tests, for the code

abbrev pub every : {A : Type 0} → (A → Bool) → List A → Bool
every test [] = true
every test (x ∷ l) = test x && every test l

abbrev pub between : ℕ → ℕ → ℕ → Bool
between least v most = leb least v && leb v most

-- a, b, c, Hsc, Csc, Dc
unfoldable pub costs_in_range : Generator → Bool
costs_in_range g =
    between 0 g.a 1000000000 && (between 0 g.b 10000000 && (between 0 g.c 10000 && (between 0 g.Hsc 1000000000
    && (between 0 g.Csc 1000000000 && between 0 g.Dc 1000000000))))

-- pL, pU, DR, UR, p0
unfoldable pub outputs_in_range : Generator → Bool
outputs_in_range g =
    between 1 g.pL 10000 && (between 1 g.pU 10000 && (between 1 g.DR 10000 && (between 1 g.UR 10000
    && between 0 g.p0 10000)))

-- TU, TD, Tini, Tcold
unfoldable pub times_in_range : Generator → Bool
times_in_range g = between 1 g.TU 48 && (between 1 g.TD 48 && (between 1 g.since 1000 && between 0 g.Tcold 48))

-- 13
unfoldable pub in_range : Generator → Bool
in_range g = costs_in_range g && (outputs_in_range g && times_in_range g)

-- p0 within pL to pU after periods on, 0 after periods off
unfoldable pub midnight_ordered : Generator → Bool
midnight_ordered g = cond g.on (between g.pL g.p0 g.pU) (eqb g.p0 0)

-- 15
unfoldable pub ordered : Generator → Bool
ordered g = leb g.pL g.pU && (leb g.Hsc g.Csc && midnight_ordered g)

-- neither 13 nor 15
abbrev pub good_generator : Generator → Bool
good_generator g = in_range g && ordered g

-- a period's demand or spare
abbrev pub load_in_range : ℕ → Bool
load_in_range v = between 0 v 320000
