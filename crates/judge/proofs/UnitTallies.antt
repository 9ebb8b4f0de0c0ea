-- The tallies of the first units: with one row more, and how large they grow.
use mathlib.Core.Path.{◌≡◌, ap}
use mathlib.Core.List.{List}
use Prim.Native.Nat.{ℕ, ◌+◌, ◌-◌, ◌*◌, ◌≤◌, ◌<◌}
use native.Mathlib.Omega.{arith}
use lib.ListN.{length, take, drop}
use Rattle.model.specs.declared.arrays.Problem.{Problem}
use Rattle.model.specs.Instance.{sum}
use Rattle.model.specs.Breach.{off_limits, off_ramp}
use Rattle.model.specs.Cost.{row_cost}
use Rattle.model.proofs.PeriodSums.{sum_most}
use Rattle.judge.specs.declared.tallies.Tallies.{Tallies}
use Rattle.judge.specs.Rows.{Fitting}
use Rattle.judge.specs.Counts.{barred, all_breaches}
use Rattle.judge.specs.Tallied.{row_tallies}
use Rattle.judge.proofs.Units.{unit, part, units_most, part_long}
use Rattle.judge.proofs.Sums.{sum_next}
use Rattle.judge.proofs.Counts.{all_breaches_most, all_breaches_more}
use Rattle.judge.proofs.CostSize.{part_cost_most}
use Rattle.judge.proofs.Tallied.{tallies_of, tallies_same}

-- two tallies taken together
abbrev pub together : Tallies → Tallies → Tallies
together x y = tallies_of (x.limits + y.limits) (x.updown + y.updown) (x.ramps + y.ramps) (x.cost + y.cost)

-- each number has room
pub record Small (x : Tallies) : Type 0 where
  pub limits : x.limits ≤ 1536
  pub updown : x.updown ≤ 1536
  pub ramps : x.ramps ≤ 1536
  pub cost : x.cost ≤ 1692672000000000

module _ (p : Problem) (l : List ℕ) where
  -- what the row of unit i costs
  abbrev cost_of : ℕ → ℕ
  cost_of i = row_cost p.periods (unit p i) (part p l i)

  -- those of the first u units
  abbrev pub tallied : ℕ → Tallies
  tallied u = tallies_of (all_breaches off_limits p l u) (all_breaches barred p l u) (all_breaches off_ramp p l u) (sum u cost_of)

  -- the row of unit u, as it is lent
  abbrev cut : ℕ → List ℕ
  cut u = take (u * p.periods + p.periods - u * p.periods) (drop (u * p.periods) l)

  -- those of a row more
  module _ (F : Fitting p l) (all row : Tallies) (u : ℕ) (h : u < p.units) (e : all ≡ tallied u) (f : row ≡ row_tallies (length (cut u)) (unit p u) (cut u)) where
    row_is : row ≡ row_tallies p.periods (unit p u) (part p l u)
    row_is = let k : u * p.periods + p.periods - u * p.periods ≡ p.periods = omega arith in let n = part_long p l F u h in rw n at (rw k at f)

    pub tallied_more : together all row ≡ tallied (u + 1)
    tallied_more =
        tallies_same
        (omega (arith, ap (λ (x : Tallies). x.limits) e, ap (λ (x : Tallies). x.limits) row_is, all_breaches_more off_limits p l u))
        (omega (arith, ap (λ (x : Tallies). x.updown) e, ap (λ (x : Tallies). x.updown) row_is, all_breaches_more barred p l u))
        (omega (arith, ap (λ (x : Tallies). x.ramps) e, ap (λ (x : Tallies). x.ramps) row_is, all_breaches_more off_ramp p l u))
        (omega (arith, ap (λ (x : Tallies). x.cost) e, ap (λ (x : Tallies). x.cost) row_is, sum_next u cost_of))

    pub more_small : length p.generators ≡ 32 → Small (together all row)
    more_small many = let n = u + 1 in let k : n ≤ p.units = omega arith in rw tallied_more (record {
      limits = omega (arith, all_breaches_most off_limits p l F n, units_most p l F);
      updown = omega (arith, all_breaches_most barred p l F n, units_most p l F);
      ramps = omega (arith, all_breaches_most off_ramp p l F n, units_most p l F);
      cost = omega (arith, sum_most n 52896000000000 cost_of (λ i j. part_cost_most p l F many i (omega arith)), units_most p l F);
    })
