-- One unit's run over the arrays that begin with its periods' costs, and at its prices: the first row that has the least value, where the unit is not stuck.
use mathlib.Core.Path.{◌≡◌, refl, sym, ap, ap₂, subst, ◌∙◌}
use mathlib.Core.Bool.{Bool, true, false, not, cond}
use mathlib.Core.List.{List, ◌++◌}
use Prim.Native.Nat.{ℕ, zero, suc, ◌≤◌, ◌<◌}
use native.Mathlib.Omega.{arith}
use lib.Dec.{T, eqb, eqb-suc-zero}
use lib.ListN.{length, take, replicate}
use lib.Seq.{take_at}
use Rattle.model.specs.declared.generator.Generator.{Generator}
use Rattle.model.specs.Instance.{◌at◌}
use Rattle.model.specs.Ranges.{Between, GoodUnit}
use Rattle.model.specs.Above.{Mark}
use Rattle.model.specs.Leaf.{is_stuck}
use Rattle.model.specs.Walk.{walk}
use Rattle.model.specs.Prices.{best_output, price_walk}
use Rattle.model.specs.Runs.{least_row}
use Rattle.model.specs.RunWalk.{first_run, row_of, walked_row}
use Rattle.model.proofs.PriceWalks.{price_walk_stuck}
use Rattle.model.proofs.WalkPeriods.{values_start}
use Rattle.model.proofs.FirstRuns.{first_run_ext}
use Rattle.model.proofs.LeastRows.{least_row_walk}
use Rattle.walk.specs.Limits.{GoodCosts}
use Rattle.walk.specs.GoingBack.{costs_of}
use Rattle.least.specs.Priced.{Priced, Costed}
use Rattle.least.proofs.Costs.{on_front_long, front_good, front_walk, priced_costed, price_walk_is}
use Rattle.runs.specs.Kept.{Kept, kept_in, row_found}
use Rattle.runs.proofs.Tables.{kept_walk}

-- ---- the fronts of two arrays that begin with the costs

module _ {n : ℕ} {w : ℕ → Bool → ℕ} {on off : List ℕ} (K : Costed n w on off) (rest : List ℕ) where
  -- they fit
  pub fronts_good : Between 1 n 48 → ((t : ℕ) → t < n → (d : Bool) → w t d ≤ 1_000_000_000_000_000) → GoodCosts n (take n (on ++ rest)) (take n (off ++ rest))
  fronts_good i h = subst (λ (k : ℕ). GoodCosts k (take n (on ++ rest)) (take n (off ++ rest))) (sym (on_front_long K rest)) (front_good K rest i h)

  module _ (g : Generator) (m : ℕ → Mark) where
    -- the walk over them is that over the costs
    fronts_walk : walk n g m (costs_of (take n (on ++ rest)) (take n (off ++ rest))) g.on g.since ≡ walk n g m w g.on g.since
    fronts_walk =
        ap (λ (k : ℕ). walk k g m (costs_of (take n (on ++ rest)) (take n (off ++ rest))) g.on g.since) (on_front_long K rest) ∙ front_walk K rest g m

    -- and so is the run
    fronts_run : first_run n g m (costs_of (take n (on ++ rest)) (take n (off ++ rest))) g.on g.since ≡ first_run n g m w g.on g.since
    fronts_run =
        rw (take_at on rest n K.on_long, take_at off rest n K.off_long) (first_run_ext n g m m (costs_of on off) w (λ t l. refl) same g.on g.since)
      where
        same : (t : ℕ) → t < n → (d : Bool) → costs_of on off t d ≡ w t d
        same t l true = K.on_at t l
        same t l false = K.off_at t l

-- at prices
module _ (g : Generator) (m : ℕ → Mark) (q s on off rest : List ℕ) (K : Priced g q s on off) where
  abbrev n : ℕ
  n = length q

  abbrev fronts : ℕ → Bool → ℕ
  fronts = costs_of (take n (on ++ rest)) (take n (off ++ rest))

  pub priced_value : walk n g m fronts g.on g.since ≡ price_walk n (λ t. q at t) (λ t. s at t) g m
  priced_value = fronts_walk (priced_costed K) rest g m ∙ price_walk_is n (λ t. q at t) (λ t. s at t) g m

  pub priced_row : row_of (λ t. best_output g (q at t)) (first_run n g m fronts g.on g.since) ≡ walked_row n (λ t. q at t) (λ t. s at t) g m
  unfolding walked_row
  priced_row = ap (row_of (λ t. best_output g (q at t))) (fronts_run (priced_costed K) rest g m)

  pub priced_found : (old : List ℕ)
      → row_found (walk n g m fronts g.on g.since) old (row_of (λ t. best_output g (q at t)) (first_run n g m fronts g.on g.since))
      ≡ row_found (price_walk n (λ t. q at t) (λ t. s at t) g m) old (walked_row n (λ t. q at t) (λ t. s at t) g m)
  priced_found old = ap₂ (λ (v : ℕ) (r : List ℕ). row_found v old r) priced_value priced_row

-- ---- a unit's row

module _ (n : ℕ) (q s : ℕ → ℕ) (g : Generator) (m : ℕ → Mark) where
  -- the row that the code follows is the first that has the least value
  pub found_row : GoodUnit g → (old : List ℕ) → row_found (price_walk n q s g m) old (walked_row n q s g m) ≡ cond (is_stuck n g m) old (least_row n q s g m)
  found_row good old = go (is_stuck n g m) (price_walk_stuck n q s g m) (λ t. least_row_walk n q s g good m t)
    where
      go : (c : Bool) → c ≡ eqb (price_walk n q s g m) 0 → (T (not c) → least_row n q s g m ≡ walked_row n q s g m)
          → row_found (price_walk n q s g m) old (walked_row n q s g m) ≡ cond c old (least_row n q s g m)
      go true e h = ap (λ (b : Bool). cond b old (walked_row n q s g m)) (sym e)
      go false e h = ap (λ (b : Bool). cond b old (walked_row n q s g m)) (sym e) ∙ sym (h tt)

-- a row where there is a value, and where there is none
pub row_there : (v : ℕ) (old new : List ℕ) → (v ≡ 0 → ⊥) → new ≡ row_found v old new
row_there zero old new h = absurd (h refl)
row_there (suc v) old new h = rw (eqb-suc-zero v)

pub row_missing : (v : ℕ) (old new : List ℕ) → v ≡ 0 → old ≡ row_found v old new
row_missing v old new e = rw e

-- ---- the table of a walk

-- it begins with zeros
pub zeros_at : (n i : ℕ) → replicate n 0 at i ≡ 0
zeros_at zero i = refl
zeros_at (suc n) zero = refl
zeros_at (suc n) (suc i) = zeros_at n i

-- what it keeps for the state before period 1 is the walk's value
pub kept_first : (n : ℕ) (g : Generator) → GoodUnit g → (m : ℕ → Mark) (w : ℕ → Bool → ℕ) (table : List ℕ) → Kept n g m w table
    → kept_in g table 0 g.on g.since ≡ walk n g m w g.on g.since
kept_first n g good m w table K = kept_walk n g m w table K good 0 (omega arith) g.on g.since good.in_range.since_in.0 ∙ values_start n g m w g.on g.since
