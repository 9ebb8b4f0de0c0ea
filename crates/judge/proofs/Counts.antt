-- The places at which a rule is broken fit a small number, and where there is none every period of every unit is clear.
use mathlib.Core.Path.{◌≡◌, refl, sym, ap}
use mathlib.Core.Bool.{Bool, true, false, not, ◌&&◌}
use mathlib.Core.Option.{none}
use mathlib.Core.List.{List}
use Prim.Native.Nat.{ℕ, zero, suc, ◌+◌, ◌-◌, ◌*◌, ◌≤◌, ◌<◌}
use native.Mathlib.Omega.{arith}
use lib.Dec.{leb}
use lib.ListN.{length}
use Rattle.model.specs.declared.generator.Generator.{Generator}
use Rattle.model.specs.declared.arrays.Problem.{Problem}
use Rattle.model.specs.Instance.{◌at◌, sum}
use Rattle.model.specs.Ranges.{GoodUnit}
use Rattle.model.specs.Rules.{on}
use Rattle.model.specs.Breach.{off_ramp, first_place}
use Rattle.model.proofs.PeriodSums.{sum_eq, sum_most}
use Rattle.judge.specs.Rows.{Fitting}
use Rattle.judge.specs.Counts.{bit, breaches, all_breaches}
use Rattle.judge.specs.Before.{output_before}
use Rattle.judge.proofs.Before.{output_later}
use Rattle.judge.proofs.Tests.{ramp_is}
use Rattle.judge.proofs.Sums.{sum_next}
use Rattle.judge.proofs.Units.{unit, part, periods_most}
use Rattle.judge.proofs.Search.{Clear, first_in, search_ends}

-- ---- how many

pub bit_most : (b : Bool) → bit b ≤ 1
bit_most true = omega arith
bit_most false = omega arith

pub breaches_most : (q : ℕ → Generator → List ℕ → Bool) (g : Generator) (r : List ℕ) (n : ℕ) → breaches q g r n ≤ n
breaches_most q g r n = omega (arith, sum_most n 1 (λ t. bit (q t g r)) (λ i h. bit_most (q i g r)))

pub all_breaches_most : (q : ℕ → Generator → List ℕ → Bool) (p : Problem) (l : List ℕ) → Fitting p l → (k : ℕ) → all_breaches q p l k ≤ k * 48
all_breaches_most q p l F k =
    sum_most k 48 (λ i. breaches q (unit p i) (part p l i) p.periods)
    (λ i h. omega (arith, breaches_most q (unit p i) (part p l i) p.periods, periods_most p l F))

-- one unit more
pub all_breaches_more : (q : ℕ → Generator → List ℕ → Bool) (p : Problem) (l : List ℕ) (k : ℕ)
    → all_breaches q p l (k + 1) ≡ all_breaches q p l k + breaches q (unit p k) (part p l k) p.periods
all_breaches_more q p l k = sum_next k (λ i. breaches q (unit p i) (part p l i) p.periods)

-- ---- where there is none

sum_none : (n : ℕ) (f : ℕ → ℕ) → sum n f ≡ 0 → (i : ℕ) → i < n → f i ≡ 0
sum_none zero f e i h = absurd (omega arith)
sum_none (suc n) f e zero h = omega arith
sum_none (suc n) f e (suc i) h = sum_none n (λ t. f (suc t)) (omega arith) i (omega arith)

bit_none : (b : Bool) → bit b ≡ 0 → b ≡ false
bit_none true e = absurd (omega arith)
bit_none false e = refl

clear : (q : ℕ → Generator → List ℕ → Bool) (p : Problem) (l : List ℕ) → all_breaches q p l p.units ≡ 0 → Clear q p l p.periods
clear q p l e t h j k = bit_none _ (sum_none p.periods _ (sum_none p.units _ e j k) t h)

-- so no first place is found
pub none_found : (q : ℕ → Generator → List ℕ → Bool) (p : Problem) (l : List ℕ) → Fitting p l → length p.generators ≡ 32
    → all_breaches q p l p.units ≡ 0 → first_place p.periods (first_in q p l) ≡ none
none_found q p l F many e = search_ends q p l F many (clear q p l e)

-- ---- (11), (12), at one period

-- as a number, whether an output leaves its ramp from b to p
abbrev pub steep_bit : ℕ → ℕ → ℕ → ℕ → ℕ
steep_bit up down b p = bit ((on b && on p) && not (leb p (b + up) && leb b (p + down)))

module _ (up down b p : ℕ) where
  pub steep_most : steep_bit up down b p ≤ 1
  steep_most = bit_most ((on b && on p) && not (leb p (b + up) && leb b (p + down)))

-- in period t of a row, m being the output at midnight
abbrev pub steep : ℕ → ℕ → ℕ → List ℕ → ℕ → ℕ
steep up down m r t = steep_bit up down (output_before m r t) (r at t)

pub steep_later : (up down m : ℕ) (r : List ℕ) (t : ℕ) → 1 ≤ t → steep up down m r t ≡ steep_bit up down (r at (t - 1)) (r at t)
steep_later up down m r t h = ap (λ (p : ℕ). steep_bit up down p (r at t)) (output_later m r t (λ e. omega arith))

pub steep_breaches : (g : Generator) → GoodUnit g → (r : List ℕ) (n : ℕ) → sum n (steep g.UR g.DR g.p0 r) ≡ breaches off_ramp g r n
steep_breaches g good r n =
    sum_eq n (steep g.UR g.DR g.p0 r) (λ t. bit (off_ramp t g r)) (λ t h. ap bit (sym (ramp_is g good r t)))
