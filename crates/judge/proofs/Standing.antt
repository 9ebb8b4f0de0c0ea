-- (2) and (3) over the rows in a list: what stands there, and how large it is; the units' pU in a list.
use mathlib.Core.Path.{◌≡◌, sym, ap, ◌∙◌}
use mathlib.Core.Bool.{Bool}
use mathlib.Core.List.{List, [], ◌∷◌}
use Prim.Native.Nat.{ℕ, suc, ◌+◌, ◌*◌, ◌≤◌, ◌<◌}
use native.Mathlib.Nat.{mul-le-mul_right}
use native.Mathlib.Omega.{arith}
use lib.ListN.{length, take, length-map, get_or-map}
use lib.Seq.{length-take-le, get_or-take}
use Rattle.model.specs.declared.generator.Generator.{Generator}
use Rattle.model.specs.declared.arrays.Problem.{Problem}
use Rattle.model.specs.Instance.{◌at◌, sum}
use Rattle.model.specs.Held.{view, blank_generator}
use Rattle.model.specs.Ranges.{All, GoodOutput}
use Rattle.model.specs.Rules.{on, if_on, capacity}
use Rattle.model.proofs.PeriodSums.{sum_eq}
use Rattle.judge.specs.Rows.{schedule_of, Fitting}
use Rattle.judge.specs.Loads.{Standing, capacities, capacity_in}
use Rattle.judge.proofs.Rows.{all_at}
use Rattle.judge.proofs.Units.{unit, units_most, unit_in}
use Rattle.judge.proofs.Sums.{capacities_are, if_on_most}

-- ---- the pU of the problem's units

pub standing : {p : Problem} {l : List ℕ} → Fitting p l → Standing p.units p.periods l
standing {p} {l} F = record { few = units_most p l F; long = F.long; outputs_in = F.outputs_in }

module _ (p : Problem) (l : List ℕ) (F : Fitting p l) (many : length p.generators ≡ 32) where
  -- the pU of the problem's units
  abbrev caps : List ℕ
  caps = take p.units (capacities p)

  pub caps_long : length caps ≡ p.units
  caps_long = length-take-le p.units (capacities p) (omega (arith, length-map p.generators (λ (g : Generator). g.pU), units_most p l F))

  caps_at : (i : ℕ) → i < p.units → caps at i ≡ (unit p i).pU
  caps_at i h = get_or-take p.units (capacities p) i 0 h ∙ get_or-map (λ (g : Generator). g.pU) p.generators i blank_generator

  all_from_at : (xs : List ℕ) → ((i : ℕ) → i < length xs → xs at i ≤ 10000) → All GoodOutput xs
  all_from_at [] f = tt
  all_from_at (x ∷ xs) f = ((omega arith, f 0 (omega arith)), all_from_at xs (λ i h. f (suc i) (omega arith)))

  pub caps_standing : Standing (length caps) p.periods l
  caps_standing = rw caps_long (standing F)

  pub caps_in : All GoodOutput caps
  caps_in = all_from_at caps (λ i h. let k : i < p.units = omega (arith, caps_long) in omega (arith, caps_at i k, (unit_in p l F many i k).pU_in.1))

  -- (3)
  pub caps_are : (t : ℕ) → t < p.periods → capacity_in caps p.periods l t ≡ capacity (view p) (schedule_of p l) t
  caps_are t h =
      ap (λ (n : ℕ). sum n (λ i. if_on (on (l at (i * p.periods + t))) (caps at i))) caps_long
      ∙ sum_eq p.units _ _ (λ i k. ap (λ (x : ℕ). if_on (on (l at (i * p.periods + t))) x) (caps_at i k))
      ∙ sym (capacities_are p l F many t h)

-- ---- what is summed

module _ {k n : ℕ} {l : List ℕ} (S : Standing k n l) {t : ℕ} (in_row : t < n) where
  -- unit i's output in period t stands in the list
  pub stands : (i : ℕ) → i < k → i * n + t < length l
  stands i h = omega (arith, S.long, mul-le-mul_right n h)

  pub output_most : (i : ℕ) → i < k → l at (i * n + t) ≤ 10000
  output_most i h = (all_at GoodOutput l 0 S.outputs_in (i * n + t) (stands i h)).1

pub cap_most : (cs : List ℕ) → All GoodOutput cs → (b : Bool) (i : ℕ) → i < length cs → if_on b (cs at i) ≤ 10000
cap_most cs good b i h = omega (arith, if_on_most b (cs at i), (all_at GoodOutput cs 0 good i h).1)
