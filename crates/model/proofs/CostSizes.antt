-- No sum overflows (document 01, Texts, after the ranges), for schedules: with outputs up to 10,000, as a schedule's text has
-- them and (4) asks for them, a row costs at most 52,896,000,000,000 and a period gives at most 320,000.
use mathlib.Core.Path.{◌≡◌}
use mathlib.Core.Bool.{Bool, true, false}
use mathlib.Core.List.{List, [], ◌∷◌}
use mathlib.Core.Option.{Option, none, some}
use Prim.Native.Nat.{ℕ, zero, suc, ◌+◌, ◌*◌, ◌≤◌, ◌<◌}
use native.Mathlib.Nat.{mul-le-mul}
use native.Mathlib.Omega.{arith}
use lib.ListN.{length, length-map}
use Rattle.model.specs.declared.generator.Generator.{Generator}
use Rattle.model.specs.Instance.{Instance, Schedule, ◌at◌, sum_units, Each}
use Rattle.model.specs.Ranges.{All, GoodUnit, GoodOutput, WellFormed, GoodRows}
use Rattle.model.specs.Rules.{on, if_on, statuses, spent, Within, output, capacity, Row, MeetsPrinted}
use Rattle.model.specs.Cost.{switch_costs, fuel_cost, row_cost, cost}
use Rattle.model.specs.Above.{Mark, free, fixed, Marks, Above, rest}
use Rattle.model.specs.Largest.{total}
use Rattle.model.specs.Leaf.{unless_off, usable, summed, available}
use Rattle.model.proofs.PeriodSums.{sum_most}
use Rattle.model.proofs.WalkSizes.{switch_cost_fits}
use Rattle.model.proofs.LeafSizes.{all_at}
use Rattle.model.proofs.Largest.{largest_below}

-- ---- one row

-- n outputs up to 10,000
pub record Small (n : ℕ) (r : List ℕ) : Type 0 where
  pub long : length r ≡ n
  pub outputs : (t : ℕ) → t < n → r at t ≤ 10_000

module _ (g : Generator) (good : GoodUnit g) where
  pub fuel_cost_fits : (p : ℕ) → p ≤ 10_000 → fuel_cost g p ≤ 1_101_000_000_000
  fuel_cost_fits zero h = omega arith
  fuel_cost_fits (suc p) h =
      let cp : g.c * suc p ≤ 10000 * 10000 = mul-le-mul good.in_range.c_in.1 h in
      omega (arith, good.in_range.a_in.1, mul-le-mul good.in_range.b_in.1 h, mul-le-mul cp h)

  pub switch_costs_fit : (b : Bool) (k : ℕ) (run : List Bool) → switch_costs g b k run ≤ length run * 1_000_000_000
  switch_costs_fit b k [] = omega arith
  switch_costs_fit b k (d ∷ run) = omega (arith, switch_cost_fits g good b k d, switch_costs_fit d (spent b k d) run)

  pub row_cost_fits : (n : ℕ) → n ≤ 48 → (r : List ℕ) → Small n r → row_cost n g r ≤ 52_896_000_000_000
  unfolding row_cost
  row_cost_fits n h r S =
      omega (
        arith,
        sum_most n 1_101_000_000_000 (λ t. fuel_cost g (r at t)) (λ t l. fuel_cost_fits (r at t) (S.outputs t l)),
        switch_costs_fit g.on g.since (statuses r),
        length-map r on,
        S.long,
      )

-- ---- all rows

-- the sum over units of what is at most M for each unit in range with its row
sum_units_most : (R : Generator → List ℕ → Type 0) (f : Generator → List ℕ → ℕ) (M : ℕ) → ((g : Generator) (r : List ℕ) → GoodUnit g → R g r → f g r ≤ M)
    → (gs : List Generator) → All GoodUnit gs → (s : Schedule) → Each R gs s → sum_units f gs s ≤ length gs * M
sum_units_most R f M h [] G s e = omega arith
sum_units_most R f M h (g ∷ gs) G [] e = absurd e
sum_units_most R f M h (g ∷ gs) G (r ∷ s) e = omega (arith, h g r G.0 e.0, sum_units_most R f M h gs G.1 s e.1)

-- the rows of a schedule with outputs up to 10,000
abbrev pub SmallRows : Instance → Schedule → Type 0
SmallRows P s = Each (λ g r. Small P.periods r) P.units s

module _ (P : Instance) (W : WellFormed P) where
  pub good_rows_small : (s : Schedule) → GoodRows P s → SmallRows P s
  good_rows_small s G = go P.units s G.0.0 G.0.1 G.1
    where
      go : (gs : List Generator) (s : Schedule) → length s ≡ length gs → All (λ r. length r ≡ P.periods) s → All (λ r. All GoodOutput r) s
          → Each (λ g r. Small P.periods r) gs s
      go [] [] e l o = tt
      go [] (r ∷ s) e l o = absurd (omega arith)
      go (g ∷ gs) [] e l o = absurd (omega arith)
      go (g ∷ gs) (r ∷ s) e l o = (record { long = l.0; outputs = λ t i. (all_at 10000 r o.0 t).1 }, go gs s (omega arith) l.1 o.1)

  pub meets_small : (s : Schedule) → MeetsPrinted P s → SmallRows P s
  meets_small s M = go P.units W.units_good s M.rows
    where
      limit : (g : Generator) → GoodUnit g → (p : ℕ) → Within g p → p ≤ 10_000
      limit g G zero w = omega arith
      limit g G (suc p) w = omega (arith, (w tt).1, G.in_range.pU_in.1)

      go : (gs : List Generator) → All GoodUnit gs → (s : Schedule) → Each (Row P.periods) gs s → Each (λ g r. Small P.periods r) gs s
      go [] G [] e = tt
      go [] G (r ∷ s) e = absurd e
      go (g ∷ gs) G [] e = absurd e
      go (g ∷ gs) G (r ∷ s) e =
          (record { long = e.0.long; outputs = λ t i. limit g G.0 (r at t) (e.0.limits t i) }, go gs G.1 s e.1)

  module _ (s : Schedule) (S : SmallRows P s) where
    pub cost_fits : cost P s ≤ 1_692_672_000_000_000
    unfolding cost
    cost_fits =
        let k : length P.units ≤ 32 = W.units_in.1 in
        omega (
          arith,
          sum_units_most (λ g r. Small P.periods r) (row_cost P.periods) 52_896_000_000_000
              (λ g r G R. row_cost_fits g G P.periods W.periods_in.1 r R) P.units W.units_good s S,
        )

    pub output_fits : (t : ℕ) → t < P.periods → output P s t ≤ 320_000
    unfolding output
    output_fits t l =
        let k : length P.units ≤ 32 = W.units_in.1 in
        omega (
          arith,
          sum_units_most (λ g r. Small P.periods r) (λ g r. r at t) 10_000 (λ g r G R. R.outputs t l) P.units W.units_good s S,
        )

    pub capacity_fits : (t : ℕ) → capacity P s t ≤ 320_000
    unfolding capacity
    capacity_fits t =
        let k : length P.units ≤ 32 = W.units_in.1 in
        omega (
          arith,
          sum_units_most (λ g r. Small P.periods r) (λ g r. if_on (on (r at t)) g.pU) 10_000 (λ g r G R. at_most (on (r at t)) g G) P.units
              W.units_good s S,
        )
      where
        at_most : (b : Bool) (g : Generator) → GoodUnit g → if_on b g.pU ≤ 10_000
        at_most true g G = G.in_range.pU_in.1
        at_most false g G = omega arith

  -- the pU of the units not fixed off
  pub available_fits : (A : Above) (t : ℕ) → available P A t ≤ 320_000
  unfolding available usable
  available_fits A t = summed_most (A.most t)
    where
      at_most : (x : Mark) (g : Generator) (l : List ℕ) → GoodUnit g → total (unless_off x g.pU l) ≤ 10_000 + total l
      at_most free g l G = omega (arith, G.in_range.pU_in.1)
      at_most (fixed true) g l G = omega (arith, G.in_range.pU_in.1)
      at_most (fixed false) g l G = omega arith

      go : (gs : List Generator) → All GoodUnit gs → (m : Marks) → total (usable gs m t) ≤ length gs * 10_000
      go [] G m = omega arith
      go (g ∷ gs) G m = omega (arith, at_most (m 0 t) g (usable gs (rest m) t) G.0, go gs G.1 (rest m))

      l : List ℕ
      l = usable P.units A.marks t

      all : total l ≤ 320_000
      all = let k : length P.units ≤ 32 = W.units_in.1 in omega (arith, go P.units W.units_good A.marks)

      summed_most : (o : Option ℕ) → summed o l ≤ 320_000
      summed_most none = all
      summed_most (some K) = omega (arith, all, largest_below K l)
